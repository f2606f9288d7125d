-- `vectors::vector::IoVector::split_at` meets its contract: what lies before the head's end and behind the tail's start is head and tail of the split. Assumes nothing.
use mathlib.Core.Path.{◌≡◌, sym, ap, ◌∙◌}
use mathlib.Core.Bool.{true}
use lib.ListN.{length}
use Rattle.vectors.specs.declared.vector.SplitPosition.{SplitPosition}
use Rattle.vectors.specs.declared.vector.Split.{Split}
use Rattle.vectors.specs.Vectors.{segments_of, is_valid}
use Rattle.vectors.specs.Positions.{position_of, Cut}
use Rattle.vectors.specs.SegmentLaws.{valid}
use Rattle.arithmetic.specs.Loops.{array_long}
use Rattle.vectors.proofs.Splitting.{cut_of, split_refused, split_done}
use borrow.Author.Rules.{rules}
use Rattle.vectors.proofs.vector.IoVector.split_at.Goals as goal
use Rattle.vectors.proofs.vector.IoVector.split_at.Goals.{After-do_split_at-split, Else-not-is_valid}

-- past the test the vector is valid
valid_of : (c : Else-not-is_valid) → is_valid c.args.data_len c.args.self ≡ true
valid_of c = sym c.is_valid.ensures ∙ c.if-not-is_valid.false

-- where the head ends, and where the tail starts
head_is : (c : After-do_split_at-split) → c.do_split_at-split.result.head ≡ position_of (segments_of c.args.self) c.args.mid
head_is c = ap (λ (s : Split). s.head) c.do_split_at-split.ensures

tail_is : (c : After-do_split_at-split) → c.do_split_at-split.result.tail ≡ position_of (segments_of c.args.self) c.args.mid
tail_is c = ap (λ (s : Split). s.tail) c.do_split_at-split.ensures

-- each is a split of the vector
cut : (c : After-do_split_at-split) (p : SplitPosition) → p ≡ position_of (segments_of c.args.self) c.args.mid
    → Cut c.args.self p
cut c p e =
    let w : length c.args.self.segments ≡ 16 = search (rules, array_long) in
    cut_of _ _ _ _ w (search rules) (valid _ _ (valid_of c.before.before)) e

pub returns-then-not-is_valid : goal.returns-then-not-is_valid
returns-then-not-is_valid c = split_refused _ _ c.args.mid (sym c.is_valid.ensures ∙ c.if-not-is_valid.true)

pub do_split_at-split-requires : goal.do_split_at-split-requires
do_split_at-split-requires c = record { over = _; is = valid_of (goal.at.do_split_at-split-requires c).Else-not-is_valid }

pub head_to-requires : goal.head_to-requires
head_to-requires c = cut (goal.at.head_to-requires c).After-do_split_at-split _ (head_is (goal.at.head_to-requires c).After-do_split_at-split)

pub tail_from-requires : goal.tail_from-requires
tail_from-requires c = cut (goal.at.tail_from-requires c).After-do_split_at-split _ (tail_is (goal.at.tail_from-requires c).After-do_split_at-split)

pub returns : goal.returns
returns c = split_done _ _ c.args.mid _ (valid_of (goal.at.returns c).Else-not-is_valid) c.do_split_at-split.ensures _ _ c.head_to.ensures c.tail_from.ensures
