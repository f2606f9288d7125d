-- `vectors::words::put_vector` meets its contract: after i turns the words of the first i segments are written. Assumes nothing.
use Rattle.std.specs.Prelude.{◌≡◌, ◌+◌, ◌*◌, length}
use Rattle.arithmetic.specs.Loops.{Like}
use Rattle.vectors.specs.Words.{vector_words}
use Rattle.vectors.proofs.words.put_vector.Given as goal

abbrev pub invariant-loop-i : goal.invariant-loop-i
invariant-loop-i l = (length (vector_words l.fn.v) ≡ 34) × (Like (vector_words l.fn.v) l.words (2 + 2 * l.i))
