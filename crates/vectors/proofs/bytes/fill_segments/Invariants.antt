-- `vectors::bytes::fill_segments` meets its contract: what is to be filled is what is to be filled from segment i on. Assumes nothing.
use Rattle.vectors.proofs.Moving.{Filled}
use Rattle.vectors.proofs.bytes.fill_segments.Given as goal

abbrev pub invariant-loop-i : goal.invariant-loop-i
invariant-loop-i g l = Filled (g.V.Segments.vector l.v) l.initial.data l.value l.data l.i
