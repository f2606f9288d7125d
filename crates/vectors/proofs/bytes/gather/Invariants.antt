-- `vectors::bytes::gather` meets its contract: what is to be gathered is what is to be gathered from segment i on. Assumes nothing.
use Rattle.vectors.proofs.Moving.{Gathered}
use Rattle.vectors.proofs.bytes.gather.Given as goal

abbrev pub invariant-loop-i : goal.invariant-loop-i
invariant-loop-i g l = Gathered (g.V.Segments.vector l.v) l.data l.slice l.filled l.i
