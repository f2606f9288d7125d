-- `stages::plan::plan_discard` meets its contract: a cut that has a middle has an end on the store. Assumes nothing.
use mathlib.Core.Path.{sym, ap, ◌∙◌}
use Rattle.std.specs.Prelude.{Ok}
use Rattle.stages.specs.Transfers.{discards}
use Rattle.stages.proofs.plan.plan_discard.Goals as goal

pub asked_range-range-requires : goal.asked_range-range-requires
asked_range-range-requires c = let a = c.args in
    (discards a.settings.align a.offset a.n _ (sym c.discard_cut.ensures ∙ (c.in_ok-discard_cut.was ∙ ap Ok c.in-Some.is))).middles.sums.end
