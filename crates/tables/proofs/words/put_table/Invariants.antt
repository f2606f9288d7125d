-- `tables::words::put_table` meets its contract: after i turns the count and the words of the first i rows are written. Assumes nothing.
use Prim.Native.Nat.{◌+◌, ◌*◌}
use mathlib.Core.Path.{◌≡◌}
use mathlib.Core.List.{◌∷◌}
use lib.ListN.{length, take}
use Rattle.tables.specs.Words.{row_words}
use Rattle.tables.proofs.words.put_table.Given as goal

abbrev pub invariant-loop-i : goal.invariant-loop-i
invariant-loop-i l = (length l.words ≡ 257) × (take (1 + 4 * l.i) l.words ≡ l.fn.t.count ∷ row_words (take l.i l.row-items))
