-- `vectors::vector::IoVector::head_to` meets its contract: the segments before the position, and where it lies inside one, its first part. Assumes nothing.
use mathlib.Core.Path.{◌≡◌}
use mathlib.Core.List.{[]}
use lib.ListN.{length}
use Rattle.arithmetic.specs.Loops.{array_long}
use Rattle.vectors.proofs.Building.{grown}
use Rattle.vectors.proofs.Splitting.{head_joins, head_clean, in_array, head_room, head_inner}
use borrow.Author.Rules.{rules}
use Rattle.vectors.proofs.vector.IoVector.head_to.Goals as goal
use Rattle.vectors.proofs.vector.IoVector.head_to.Goals.{After-new-head}

wide_of : (c : After-new-head) → length c.args.self.now.segments ≡ 16
wide_of c = search (rules, array_long)

pub join-requires : goal.join-requires
join-requires c = head_joins _ c.args.position (wide_of (goal.at.join-requires c).After-new-head) c.requires _ c.new-head.ensures

pub returns-then-inside-eq0 : goal.returns-then-inside-eq0
returns-then-inside-eq0 c = head_clean _ c.args.position (wide_of (goal.at.returns-then-inside-eq0 c).After-new-head) c.requires _ c.if-inside-eq0.true (grown [] _ c.new-head.ensures c.join.ensures)

pub bounds-self-index : goal.bounds-self-index
bounds-self-index c = in_array _ _ (wide_of (goal.at.bounds-self-index c).After-new-head) c.requires c.if-inside-eq0.false

pub put_last-requires : goal.put_last-requires
put_last-requires c = head_room _ _ (wide_of (goal.at.put_last-requires c).After-new-head) c.requires c.if-inside-eq0.false _ (grown [] _ c.new-head.ensures c.join.ensures)

pub returns : goal.returns
returns c = head_inner _ _ (wide_of (goal.at.returns c).After-new-head) c.requires c.if-inside-eq0.false _ (grown _ _ (grown [] _ c.new-head.ensures c.join.ensures) c.put_last.ensures)
