-- `vectors::vector::IoVector::split_tail_at` meets its contract: what lies behind the tail's start is the tail of the split. Assumes nothing.
use mathlib.Core.Path.{◌≡◌, sym, ap, ◌∙◌}
use mathlib.Core.Bool.{true}
use lib.ListN.{length}
use Rattle.vectors.specs.declared.vector.Split.{Split}
use Rattle.vectors.specs.Vectors.{segments_of, is_valid}
use Rattle.vectors.specs.Positions.{position_of}
use Rattle.vectors.specs.SegmentLaws.{valid}
use Rattle.arithmetic.specs.Loops.{array_long}
use Rattle.vectors.proofs.Splitting.{cut_of, tail_refused, tail_done}
use borrow.Author.Rules.{rules}
use Rattle.vectors.proofs.vector.IoVector.split_tail_at.Goals as goal
use Rattle.vectors.proofs.vector.IoVector.split_tail_at.Goals.{After-do_split_at-split, Else-not-is_valid}

-- past the test the vector is valid
valid_of : (c : Else-not-is_valid) → is_valid c.args.data_len c.args.self ≡ true
valid_of c = sym c.is_valid.ensures ∙ c.if-not-is_valid.false

-- where the tail starts
tail_is : (c : After-do_split_at-split) → c.do_split_at-split.result.tail ≡ position_of (segments_of c.args.self) c.args.mid
tail_is c = ap (λ (s : Split). s.tail) c.do_split_at-split.ensures

pub returns-then-not-is_valid : goal.returns-then-not-is_valid
returns-then-not-is_valid c = tail_refused _ _ c.args.mid (sym c.is_valid.ensures ∙ c.if-not-is_valid.true)

pub do_split_at-split-requires : goal.do_split_at-split-requires
do_split_at-split-requires c = record { over = _; is = valid_of (goal.at.do_split_at-split-requires c).Else-not-is_valid }

pub tail_from-requires : goal.tail_from-requires
tail_from-requires c = let w : length c.args.self.segments ≡ 16 = search (rules, array_long) in cut_of _ _ _ _ w (search rules) (valid _ _ (valid_of (goal.at.tail_from-requires c).Else-not-is_valid)) (tail_is (goal.at.tail_from-requires c).After-do_split_at-split)

pub returns : goal.returns
returns c = tail_done _ _ c.args.mid _ (valid_of (goal.at.returns c).Else-not-is_valid) c.do_split_at-split.ensures _ c.tail_from.ensures
