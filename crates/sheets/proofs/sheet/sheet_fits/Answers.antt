-- `sheets::sheet::sheet_fits` meets its contract: as many writes as may be, and each of them sound. Assumes nothing.
use mathlib.Core.Path.{sym, ◌∙◌}
use native.Mathlib.Omega.{arith}
use lib.ListN.{length}
use borrow.Author.Tests.{lt-leb}
use Rattle.std.proofs.Common.{tests}
use Rattle.std.proofs.lemmas.Iterator.{YieldsList-from_slice}
use Rattle.std.proofs.lemmas.Iterator.Search.{all_from_yields_List}
use Rattle.sheets.specs.Sheets.{write_from, writes_of, is_sound}
use Rattle.sheets.proofs.Words.{writes_long}
use Rattle.sheets.proofs.Testing.{sheet_long, sheet_short, rows_sound}
use borrow.Author.Rules.{rules}
use Rattle.sheets.proofs.sheet.sheet_fits.Goals as goal

pub returns-then-writes-le-MOST_WRITES : goal.returns-then-writes-le-MOST_WRITES
returns-then-writes-le-MOST_WRITES c =
    let n = c.args.data_len in
    let lines = c.args.writes.now in
    all_from_yields_List (λ row. is_sound n (write_from row)) _ _ c.all.result c.all.ensures.ran (YieldsList-from_slice lines c.iter.ensures.rest)
    (λ x b q k. search (rules, tests))
    ∙ rows_sound n lines
    ∙ sheet_short n (writes_of lines) (omega (arith, writes_long lines, c.if-writes-le-MOST_WRITES.true))

pub returns-else-writes-le-MOST_WRITES : goal.returns-else-writes-le-MOST_WRITES
returns-else-writes-le-MOST_WRITES c =
    let lines = c.args.writes.now in
    lt-leb (length lines) 64 (omega (arith, c.if-writes-le-MOST_WRITES.false))
    ∙ sym (sheet_long c.args.data_len (writes_of lines) (omega (arith, writes_long lines, c.if-writes-le-MOST_WRITES.false)))
