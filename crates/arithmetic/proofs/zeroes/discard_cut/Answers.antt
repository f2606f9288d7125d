-- `arithmetic::zeroes::discard_cut` meets its contract: 201, 207, then the cut. Assumes nothing.
use mathlib.Core.Path.{◌≡◌, sym, ◌∙◌}
use mathlib.Core.Bool.{true}
use Rattle.arithmetic.specs.Settings.{alignments_fit}
use Rattle.arithmetic.specs.SettingsLaws.{aligned}
use Rattle.arithmetic.specs.Zeroes.{cut_fits}
use Rattle.arithmetic.proofs.zeroes.discard_cut.Goals as goal
use Rattle.arithmetic.proofs.zeroes.discard_cut.Goals.{Else-not-cut_fits, Else-not-is_fit}

-- past the first test the alignments fit, past the second the sums
fit_is : (c : Else-not-is_fit) → alignments_fit c.args.align ≡ true
fit_is c = sym c.is_fit.ensures ∙ c.if-not-is_fit.false

sums_fit : (c : Else-not-cut_fits) → cut_fits c.args.align.discard c.args.offset.0 c.args.length ≡ true
sums_fit c = sym c.cut_fits.ensures ∙ c.if-not-cut_fits.false

pub cut_fits-requires : goal.cut_fits-requires
cut_fits-requires c = (aligned c.args.align (fit_is c)).discard.positive

pub cut_at-requires : goal.cut_at-requires
cut_at-requires c = ((aligned c.args.align (fit_is c.before.before)).discard.positive, sums_fit c)
