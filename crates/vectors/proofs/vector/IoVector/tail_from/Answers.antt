-- `vectors::vector::IoVector::tail_from` meets its contract: the segments from the position on, the first cut where it lies inside one. Assumes nothing.
use mathlib.Core.Path.{◌≡◌}
use mathlib.Core.List.{[]}
use Prim.Native.Nat.{◌-◌}
use native.Mathlib.Omega.{arith}
use lib.ListN.{length, take, drop}
use Rattle.arithmetic.specs.Loops.{array_long}
use Rattle.vectors.specs.Vectors.{segments_of, vector_of}
use Rattle.vectors.proofs.Building.{grown}
use Rattle.vectors.proofs.Splitting.{tail_joins, tail_clean, tail_ends, tail_inner}
use borrow.Author.Rules.{rules}
use Rattle.vectors.proofs.vector.IoVector.tail_from.Goals as goal
use Rattle.vectors.proofs.vector.IoVector.tail_from.Goals.{After-join, Start}

wide_of : (c : Start) → length c.args.self.now.segments ≡ 16
wide_of c = search (rules, array_long)

-- the segments from the position's on, whole
joined : (c : After-join) → c.join.new.self ≡ vector_of (take (c.args.self.now.count - c.args.position.index) (drop c.args.position.index (segments_of c.args.self.now)))
joined c = grown [] _ c.new-tail.ensures c.join.ensures

pub join-requires : goal.join-requires
join-requires c = tail_joins _ c.args.position (wide_of (goal.at.join-requires c).Start) c.requires _ c.new-tail.ensures

pub returns-then-inside-eq0 : goal.returns-then-inside-eq0
returns-then-inside-eq0 c = tail_clean _ c.args.position (wide_of (goal.at.returns-then-inside-eq0 c).Start) c.requires _ c.if-inside-eq0.true (joined (goal.at.returns-then-inside-eq0 c).After-join)

pub overflow_add-first : goal.overflow_add-first
overflow_add-first c = omega (arith, (tail_ends _ _ (wide_of (goal.at.overflow_add-first c).Start) c.requires c.if-inside-eq0.false _ (joined (goal.at.overflow_add-first c).After-join)).0)

pub overflow_sub-first : goal.overflow_sub-first
overflow_sub-first c = (tail_ends _ _ (wide_of (goal.at.overflow_sub-first c).Start) c.requires c.if-inside-eq0.false _ (joined (goal.at.overflow_sub-first c).After-join)).1

pub overflow_sub-tail : goal.overflow_sub-tail
overflow_sub-tail c = (tail_ends _ _ (wide_of (goal.at.overflow_sub-tail c).Start) c.requires c.if-inside-eq0.false _ (joined (goal.at.overflow_sub-tail c).After-join)).2

pub returns : goal.returns
returns c = tail_inner _ _ (wide_of (goal.at.returns c).Start) c.requires c.if-inside-eq0.false _ (joined (goal.at.returns c).After-join)
