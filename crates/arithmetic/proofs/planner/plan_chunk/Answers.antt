-- `arithmetic::planner::plan_chunk` meets its contract: a chunk of a plan that is not refused. Assumes nothing.
use Rattle.std.specs.Prelude.{Ok}
use mathlib.Core.Path.{◌≡◌, sym, ◌∙◌}
use Rattle.arithmetic.specs.SettingsLaws.{accepted}
use Rattle.arithmetic.specs.PlannerLaws.{plan_done}
use Rattle.arithmetic.proofs.planner.plan_chunk.Goals as goal
use Rattle.arithmetic.proofs.planner.plan_chunk.Goals.{In_ok-check}

-- a plan that is not refused
done : (c : In_ok-check) → c.check.result ≡ Ok tt
done c = c.in_ok-check.was

pub chunk_at-requires : goal.chunk_at-requires
chunk_at-requires c = let p = plan_done c.args.settings c.args.offset c.args.length (sym c.check.ensures ∙ done c) in
    ((accepted c.args.settings p.settings).positive, p.end)
