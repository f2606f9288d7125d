-- `arithmetic::padding::pad` meets its contract: past 201 the alignments are what `padded` asks. Assumes nothing.
use mathlib.Core.Path.{◌≡◌, sym, ◌∙◌}
use mathlib.Core.Bool.{true}
use Rattle.arithmetic.specs.Settings.{alignments_fit}
use Rattle.arithmetic.specs.SettingsLaws.{aligned}
use Rattle.arithmetic.proofs.padding.pad.Goals as goal
use Rattle.arithmetic.proofs.padding.pad.Goals.{Else-not-is_fit}

-- past the test the alignments fit
fit_is : (c : Else-not-is_fit) → alignments_fit c.args.align ≡ true
fit_is c = sym c.is_fit.ensures ∙ c.if-not-is_fit.false

pub pad_to-requires : goal.pad_to-requires
pad_to-requires c = let k = aligned c.args.align (fit_is c.before) in rw c.length_align.ensures (k.req.positive, k.positive, k.req_le, k.of_req)
