-- `tables::table::Table::row` meets its contract: a row is one of the first `count`, of which there are at most 64. Assumes nothing.
use native.Mathlib.Omega.{arith}
use mathlib.Core.Path.{◌≡◌, sym}
use mathlib.Core.Logic.{inl, inr}
use lib.ListN.{length}
use Rattle.arithmetic.specs.Loops.{array_long}
use Rattle.tables.specs.TablesLaws.{past_last, row_there}
use borrow.Author.Rules.{rules}
use Rattle.tables.proofs.table.Table.row.Goals as goal

pub returns-then-self-index : goal.returns-then-self-index
returns-then-self-index c = sym (past_last c.args.self c.args.index (inl (search rules)))

pub returns-then-index-ge-MOST_ROWS : goal.returns-then-index-ge-MOST_ROWS
returns-then-index-ge-MOST_ROWS c = let t = c.args.self in
    let n : length t.rows ≡ 64 = search (rules, array_long) in
    sym (past_last t c.args.index (inr (omega (arith, n))))

pub returns : goal.returns
returns c = let t = c.args.self in
    let n : length t.rows ≡ 64 = search (rules, array_long) in
    sym (row_there t c.args.index (search rules) (omega (arith, n)))
