-- `vectors::vector::IoVector::glue_all` meets its contract: the first is glued, and the rest joined where there is room. Assumes nothing.
use Rattle.std.proofs.Common.{◌≡◌, length, rules}
use Rattle.arithmetic.specs.Loops.{array_long}
use Rattle.vectors.proofs.Gluing.{glue_nothing, asks_first, first_few, glue_refused, glue_many, glue_joins, glue_joined}
use Rattle.vectors.proofs.vector.IoVector.glue_all.Goals as goal
use Rattle.vectors.proofs.vector.IoVector.glue_all.Goals.{Start}

wide_of : (c : Start) → length c.args.other.now.segments ≡ 16
wide_of c = search (rules, array_long)

pub returns-then-n-eq0 : goal.returns-then-n-eq0
returns-then-n-eq0 c = glue_nothing _ _ _ _ c.requires c.if-n-eq0.true

pub glue-requires : goal.glue-requires
glue-requires c = asks_first _ _ _ _ c.requires (wide_of (goal.at.glue-requires c).Start) c.if-n-eq0.false

pub returns-in_err-glue : goal.returns-in_err-glue
returns-in_err-glue c = rw c.from_residual.ensures (glue_refused _ _ _ _ c.requires (wide_of (goal.at.returns-in_err-glue c).Start) c.if-n-eq0.false c.in_err-glue.ensures)

pub overflow_sub-self : goal.overflow_sub-self
overflow_sub-self c = first_few _ _ _ _ c.requires (wide_of (goal.at.overflow_sub-self c).Start) c.if-n-eq0.false _ c.in_ok-glue.ensures

pub returns-then-self-n : goal.returns-then-self-n
returns-then-self-n c = glue_many _ _ _ _ c.requires (wide_of (goal.at.returns-then-self-n c).Start) c.if-n-eq0.false _ c.in_ok-glue.ensures c.if-self-n.true

pub join-requires : goal.join-requires
join-requires c = glue_joins _ _ _ _ c.requires (wide_of (goal.at.join-requires c).Start) c.if-n-eq0.false _ c.in_ok-glue.ensures c.if-self-n.false

pub returns : goal.returns
returns c = glue_joined _ _ _ _ c.requires (wide_of (goal.at.returns c).Start) c.if-n-eq0.false _ c.in_ok-glue.ensures c.if-self-n.false _ c.join.ensures
