-- `vectors::alignment::is_aligned` meets its contract: the tests stand in the definition's order. Assumes nothing.
use Rattle.std.specs.Prelude.{◌+◌}
use Rattle.std.proofs.Common.{arith, sym, ◌∙◌}
use Rattle.std.proofs.lemmas.Grind.{common_steps}
use Rattle.arithmetic.specs.Rounding.{fits}
use Rattle.arithmetic.specs.RoundingLaws.{fits_true}
use Rattle.vectors.specs.Vectors.{alignment_of, is_aligned_of}
use Rattle.vectors.proofs.alignment.is_aligned.Goals as goal

pub returns-then-data : goal.returns-then-data
unfolding alignment_of fits
returns-then-data g c = grind (arith, common_steps)

pub returns-then-not-is_valid : goal.returns-then-not-is_valid
unfolding alignment_of fits
returns-then-not-is_valid g c = grind (arith, common_steps)

pub returns-then-align : goal.returns-then-align
unfolding alignment_of is_aligned_of
returns-then-align g c =
    rw (sym c.is_fit.ensures ∙ c.if-not-is_fit.false, fits_true (c.args.«data».address + c.args.«data».length) (omega arith), sym c.is_valid.ensures ∙ c.if-not-is_valid.false, c.if-align.true)
