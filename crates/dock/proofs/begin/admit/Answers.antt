-- `dock::begin::admit` meets its contract: a started plan's first stage lies in the slot's share; where it cannot enter the refusal is the answer. Assumes nothing.
use mathlib.Core.Path.{◌≡◌, subst, ap, ◌∙◌}
use Prim.Native.Nat.{◌*◌}
use borrow.Author.Rules.{rules}
use Rattle.std.specs.Prelude.{Ok, Err}
use lib.ListN.{length}
use Rattle.dock.specs.Begin.{PlanInShare, enter_at}
use Rattle.dock.proofs.Steps.{admit_err}
use Rattle.dock.proofs.Merging.{in_share}
use Rattle.dock.proofs.begin.admit.Goals as goal

pub enter-requires : goal.enter-requires
enter-requires c = let a = c.args in let k = subst (PlanInShare a.slot a.bounce (length a.scratch.now)) (c.in_ok-state.was ∙ ap Ok c.in-Some.is) c.requires in in_share a.slot a.bounce _ (length a.scratch.now) k.0 k.1 k.2

pub returns-in_err-blockers : goal.returns-in_err-blockers
returns-in_err-blockers c = let a = c.args in let r : c.from_residual-in_err-blockers.result ≡ Err c.in_err-blockers.field-0.0 = search rules in
    rw (r, (c.in_ok-state.was ∙ ap Ok c.in-Some.is)) (admit_err a.b a.slot c.in-Some.state (enter_at a.b a.slot (a.slot * a.bounce) c.in-Some.state a.v a.«data».now a.scratch.now) _ _ c.in_err-blockers.ensures)
