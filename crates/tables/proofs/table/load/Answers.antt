-- `tables::table::load` meets its contract: in every turn the table is what is read and what the rest of the bytes adds. Assumes nothing.
use mathlib.Core.Path.{◌≡◌, sym, ap, ◌∙◌}
use lib.ListN.{length}
use Rattle.std.specs.Prelude.{Option, Result, Ok}
use Rattle.std.proofs.lemmas.Result.{err_from_is_err_and}
use Rattle.arithmetic.specs.declared.refusals.Refusal.{Refusal}
use Rattle.tables.proofs.Loading.{reading_none, broken_here, header_room, body_room, passed_on, row_read, refused_by, ended}
use Rattle.tables.specs.TablesLaws.{entry_row}
use borrow.Author.Tests.{eq-eqb, ne_eqb}
use borrow.Author.Rules.{rules}
use Rattle.tables.proofs.table.load.Goals as goal

-- what a call gave, by what its Ok holds
known : {A : Type 0} {r : Result (Option A) Refusal} {o : Option A} {x : Option A} → Ok o ≡ r → o ≡ x → r ≡ Ok x
known e i = sym e ∙ ap (λ (o : Option _). Ok o) i

pub loop-record-init : goal.loop-record-init
loop-record-init c = reading_none c.args.bytes.now

pub returns-in_err-record : goal.returns-in_err-record
returns-in_err-record c =
    let p = err_from_is_err_and c.from_residual.result c.from_residual.ensures.1 in
    rw (p.1, p.2) (sym (broken_here c.loop-record.invariant _ (sym c.in_err-record.ensures)))

pub slice_bounds-split_at-count : goal.slice_bounds-split_at-count
slice_bounds-split_at-count c = header_room c.loop-record.invariant _ (known c.in_ok-record.ensures c.in-Some.is)

pub slice_bounds-split_at-start : goal.slice_bounds-split_at-start
slice_bounds-split_at-start c = search (rules, header_room c.loop-record.invariant _ (known c.in_ok-record.ensures c.in-Some.is))

pub split_at-requires : goal.split_at-requires
split_at-requires c = body_room c.loop-record.invariant _ (known c.in_ok-record.ensures c.in-Some.is)

pub returns-in_err-row : goal.returns-in_err-row
returns-in_err-row c =
    let p = err_from_is_err_and c.from_residual-in_err-row.result c.from_residual-in_err-row.ensures.1 in
    rw (p.1, p.2)
    (sym (refused_by c.loop-record.invariant _ (known c.in_ok-record.ensures c.in-Some.is) _ _ c.split_at.ensures.front
    c.split_at.ensures.back _ (sym c.in_err-row.ensures)))

pub bounds-rows-count : goal.bounds-rows-count
bounds-rows-count c = (entry_row _ _ _ _ (known c.in_ok-row.ensures c.in-Some-2.is)).room

pub loop-record-smaller-in-Some-2 : goal.loop-record-smaller-in-Some-2
loop-record-smaller-in-Some-2 c =
    search (rules, header_room c.loop-record.invariant _ (known c.in_ok-record.ensures c.in-Some.is), ap length c.split_at.ensures.back)

pub loop-record-preserved-in-Some-2 : goal.loop-record-preserved-in-Some-2
loop-record-preserved-in-Some-2 c =
    row_read c.loop-record.invariant _ (known c.in_ok-record.ensures c.in-Some.is) _ _ c.split_at.ensures.front c.split_at.ensures.back _
    (known c.in_ok-row.ensures c.in-Some-2.is)

pub loop-record-smaller : goal.loop-record-smaller
loop-record-smaller c =
    search (rules, header_room c.loop-record.invariant _ (known c.in_ok-record.ensures c.in-Some.is), ap length c.split_at.ensures.back)

pub loop-record-preserved : goal.loop-record-preserved
loop-record-preserved c =
    passed_on c.loop-record.invariant _ (known c.in_ok-record.ensures c.in-Some.is) _ _ c.split_at.ensures.front c.split_at.ensures.back
    (known c.in_ok-row.ensures c.in_default-2.is)

pub returns-then-count-eq0 : goal.returns-then-count-eq0
returns-then-count-eq0 c =
    sym (ended c.loop-record.invariant (known c.in_ok-record.ensures c.in_default.is) ∙ rw (eq-eqb c.loop-record.count 0 (search rules)))

pub returns : goal.returns
returns c =
    sym (ended c.loop-record.invariant (known c.in_ok-record.ensures c.in_default.is) ∙ rw (ne_eqb c.loop-record.count 0 (search rules)))
