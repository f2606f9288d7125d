-- `stages::plan::plan_zeroes` meets its contract: a cut that has a middle has an end on the store. Assumes nothing.
use mathlib.Core.Path.{sym, ap, ◌∙◌}
use Rattle.std.specs.Prelude.{Ok}
use Rattle.stages.specs.Transfers.{splits}
use Rattle.stages.proofs.plan.plan_zeroes.Goals as goal

pub asked_range-range-requires : goal.asked_range-range-requires
asked_range-range-requires c = let a = c.args in
    (splits a.settings.align a.offset a.n _ (sym c.zero_cut.ensures ∙ (c.in_ok-zero_cut.was ∙ ap Ok c.in-Split.is))).middles.sums.end
