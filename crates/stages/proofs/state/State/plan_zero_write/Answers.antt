-- `stages::state::State::plan_zero_write` meets its contract: a bounced transfer is a sound span. Assumes nothing.
use mathlib.Core.Path.{sym, ap, ◌∙◌}
use Rattle.std.specs.Prelude.{Ok}
use Rattle.stages.specs.Transfers.{bounced, holds}
use Rattle.stages.proofs.state.State.plan_zero_write.Goals as goal

pub padded_stage-stage-requires : goal.padded_stage-stage-requires
padded_stage-stage-requires c = let a = c.args in
    holds (bounced a.settings.align a.part.start _ _ c.in-Bounced.s (sym c.plan_transfer.ensures ∙ (c.in_ok-transfer.was ∙ ap Ok c.in-Bounced.is)))
