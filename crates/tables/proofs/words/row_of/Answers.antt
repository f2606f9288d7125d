-- `tables::words::row_of` meets its contract: the four words of the row. Assumes nothing.
use Rattle.std.specs.Prelude.{Ok}
use native.Mathlib.Omega.{arith}
use mathlib.Core.Path.{◌≡◌, sym, ap, ◌∙◌}
use mathlib.Core.List.{List}
use Prim.Native.Nat.{ℕ, ◌/◌}
use lib.ListN.{length, take, drop, length-drop}
use lib.Seq.{take_all}
use Rattle.std.specs.Simd.{first_chunks}
use mathlib.Core.Logic.{inl, inr}
use Rattle.tables.specs.TablesLaws.{past_last, row_there}
use Rattle.tables.specs.Words.{table_from}
use Rattle.tables.specs.WordsLaws.{chunk_row, table_rows}
use borrow.Author.Rules.{rules}
use Rattle.tables.proofs.words.row_of.Goals as goal

-- the 64 rows of four words that the code reads
rows_in : (w : List ℕ) (rs : List (List ℕ)) → length w ≡ 257
    → rs ≡ first_chunks 4 (length (take 256 (drop 1 w)) / 4) (take 256 (drop 1 w)) → rs ≡ first_chunks 4 64 (drop 1 w)
rows_in w rs h e =
    let n : length (drop 1 w) ≡ 256 = rw length-drop (omega (arith, h)) in
    e ∙ rw (take_all 256 (drop 1 w) (omega (arith, n)), n)

pub returns-then-index-ge-MOST_ROWS : goal.returns-then-index-ge-MOST_ROWS
returns-then-index-ge-MOST_ROWS c = let w = c.args.table.now in
    sym (past_last (table_from w) c.args.index (inr (omega (arith, table_rows w, c.if-index-ge-MOST_ROWS.true))))

pub returns-then-table-index : goal.returns-then-table-index
unfolding table_from
returns-then-table-index c = let w = c.args.table.now in
    sym (past_last (table_from w) c.args.index (inl (search rules)))

pub returns : goal.returns
unfolding table_from
returns c = let w = c.args.table.now in
    let i = c.args.index in
    rw (rows_in w _ c.told-table c.as_chunks.ensures.front)
    (ap Ok (chunk_row w i) ∙ sym (row_there (table_from w) i (search rules) (omega (arith, table_rows w, c.if-index-ge-MOST_ROWS.false))))
