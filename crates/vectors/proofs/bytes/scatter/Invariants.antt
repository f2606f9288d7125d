-- `vectors::bytes::scatter` meets its contract: what is to be scattered is what is to be scattered from segment i on. Assumes nothing.
use Rattle.vectors.proofs.Moving.{Scattered}
use Rattle.vectors.proofs.bytes.scatter.Given as goal

abbrev pub invariant-loop-i : goal.invariant-loop-i
invariant-loop-i g l = Scattered (g.V.Segments.vector l.v) l.initial.data l.slice l.data l.taken l.i
