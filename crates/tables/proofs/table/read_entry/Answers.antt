-- `tables::table::read_entry` meets its contract: each test of the code is one of the definition, in its order. Assumes nothing.
use mathlib.Core.Path.{sym, ap, ◌∙◌}
use mathlib.Core.Bool.{and-false}
use lib.Dec.{eqb}
use lib.ListN.{length}
use borrow.Author.Tests.{eq-eqb, ne_eqb, lt-ltb, le-ltb}
use Rattle.arithmetic.specs.Settings.{alignments_fit}
use Rattle.arithmetic.specs.declared.settings.Alignments.{Alignments}
use Rattle.tables.specs.Tables.{entry_of}
use Rattle.std.specs.Prelude.{Some, Ok}
use borrow.Author.Rules.{rules}
use Rattle.tables.proofs.table.read_entry.Goals as goal

pub returns-then-kind-ne-ROW : goal.returns-then-kind-ne-ROW
unfolding entry_of
returns-then-kind-ne-ROW c = rw (ne_eqb c.args.kind 1 (search rules))

pub returns-then-body-ne-ROW_BODY : goal.returns-then-body-ne-ROW_BODY
unfolding entry_of
returns-then-body-ne-ROW_BODY c = rw (eq-eqb c.args.kind 1 (search rules), ne_eqb (length c.args.body.now) 16 (search rules))

pub returns-then-count-ge-MOST_ROWS : goal.returns-then-count-ge-MOST_ROWS
unfolding entry_of
returns-then-count-ge-MOST_ROWS c = rw (eq-eqb c.args.kind 1 (search rules), le-ltb c.args.count 64 (search rules), and-false (eqb (length c.args.body.now) 16))

pub returns-then-not-is_fit : goal.returns-then-not-is_fit
unfolding entry_of
returns-then-not-is_fit c = let a = c.args in
    let f = ap alignments_fit (sym c.read_row-row.ensures) ∙ sym c.is_fit.ensures ∙ c.if-not-is_fit.true in
    rw (eq-eqb a.kind 1 (search rules), eq-eqb (length a.body.now) 16 (search rules), lt-ltb a.count 64 (search rules), f)

pub returns : goal.returns
unfolding entry_of
returns c = let a = c.args in
    let f = ap alignments_fit (sym c.read_row-row.ensures) ∙ sym c.is_fit.ensures ∙ c.if-not-is_fit.false in
    rw (eq-eqb a.kind 1 (search rules), eq-eqb (length a.body.now) 16 (search rules), lt-ltb a.count 64 (search rules), f) (ap (λ (a : Alignments). Ok (Some a)) c.read_row-row.ensures)
