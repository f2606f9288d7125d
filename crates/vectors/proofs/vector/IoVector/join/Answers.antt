-- `vectors::vector::IoVector::join` meets its contract: after i turns the vector is that of its own segments and i of the others. Assumes nothing.
use Rattle.vectors.proofs.Building.{join_start, join_end, join_room, join_next}
use Rattle.vectors.proofs.vector.IoVector.join.Goals as goal

pub loop-segment-init : goal.loop-segment-init
loop-segment-init c = join_start c.args.self.now c.args.other.now c.args.start c.args.n c.requires

pub put_last-requires : goal.put_last-requires
put_last-requires c = join_room _ _ _ _ c.loop-segment.invariant c.loop-segment-test.true

pub loop-segment-preserved : goal.loop-segment-preserved
loop-segment-preserved c = join_next _ _ _ _ c.loop-segment.invariant c.loop-segment-test.true _ c.put_last.ensures

pub returns : goal.returns
returns c = join_end _ _ _ _ _ _ c.requires c.loop-segment.invariant c.loop-segment-test.false
