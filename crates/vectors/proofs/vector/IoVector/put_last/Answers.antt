-- `vectors::vector::IoVector::put_last` meets its contract: the first unused segment becomes the new one. Assumes nothing.
use Rattle.vectors.proofs.Building.{with_room}
use Rattle.vectors.proofs.vector.IoVector.put_last.Goals as goal

pub returns : goal.returns
returns c = with_room _ _ c.requires
