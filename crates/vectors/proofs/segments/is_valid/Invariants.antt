-- `vectors::segments::is_valid` meets its contract: the segments before i lie in the data and sum up to what was added, which stays at most 1,048,576. Assumes nothing.
use Rattle.vectors.proofs.Pass.{Checked}
use Rattle.vectors.proofs.segments.is_valid.Given as goal

abbrev pub invariant-loop-i : goal.invariant-loop-i
invariant-loop-i g l = Checked l.data_len (g.V.Segments.vector l.v) l.sum l.i
