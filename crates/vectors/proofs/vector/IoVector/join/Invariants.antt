-- `vectors::vector::IoVector::join` meets its contract: after i turns the vector is that of its own segments and i of the others. Assumes nothing.
use Rattle.vectors.proofs.Building.{Joining}
use Rattle.vectors.proofs.vector.IoVector.join.Given as goal

abbrev pub invariant-loop-segment : goal.invariant-loop-segment
invariant-loop-segment l = Joining l.initial.self l.segment-items l.self l.segment-index
