-- `vectors::vector::IoVector::do_split_at` meets its contract: at or past the total no segment is looked at; before it a walk from the nearer end finds the position. Assumes nothing.
use Prim.Native.Nat.{◌-◌}
use Rattle.vectors.proofs.Walking.{Forth}
use Rattle.vectors.proofs.Walking.{Back}
use Rattle.vectors.proofs.vector.IoVector.do_split_at.Given as goal

abbrev pub invariant-loop-rest : goal.invariant-loop-rest
invariant-loop-rest l = Back l.self l.mid l.i l.rest

abbrev pub decreases-loop-rest : goal.decreases-loop-rest
decreases-loop-rest l = l.i

-- up to it, from the first
abbrev pub invariant-loop-rest-2 : goal.invariant-loop-rest-2
invariant-loop-rest-2 l = Forth l.self l.mid l.i l.rest

abbrev pub decreases-loop-rest-2 : goal.decreases-loop-rest-2
decreases-loop-rest-2 l = l.self.count - l.i
