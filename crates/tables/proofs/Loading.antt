-- Loading, record by record: what is read so far, and what each record that follows does to it. Assumes nothing.
use mathlib.Core.Path.{◌≡◌, refl, sym, ap, ◌∙◌}
use Rattle.std.specs.Prelude.{Option, Some, None, Result, Ok, Err}
use mathlib.Core.List.{List, [], ◌∷◌, ◌++◌, append_assoc, append-nil}
use Prim.Native.Nat.{ℕ, zero, suc, ◌+◌, ◌-◌, ◌≤◌}
use native.Mathlib.Omega.{arith}
use native.Mathlib.Numerals.{add-one}
use lib.Dec.{eqb}
use lib.ListN.{length, take, drop, set, replicate, length-drop, length-append}
use lib.Seq.{take_all, drop-drop}
use borrow.Author.Tests.{eq-eqb, ne_eqb}
use Rattle.arithmetic.specs.Rounding.{pick}
use Rattle.arithmetic.specs.declared.refusals.Refusal.{Refusal}
use Rattle.arithmetic.specs.declared.refusals.Refusal.TheVariants.{Table as BadTable}
use Rattle.arithmetic.specs.declared.settings.Alignments.{Alignments}
use Rattle.records.specs.Records.{start_of, Form, end, broken, entry, form_of}
use Rattle.records.specs.RecordsLaws.{form_next, Found, found}
use Rattle.records.specs.declared.Header.{Header}
use Rattle.records.specs.declared.Broken.{Broken}
use Rattle.tables.specs.Tables.{known_as, next_of, entry_of, Rows, these, refused, before, with_entry, rows_from, table_of, no_row, loaded_as}
use Rattle.tables.specs.Tables.{load_of}
use Rattle.tables.specs.declared.table.Table.{Table}
use Rattle.tables.specs.TablesLaws.{entry_row}

-- rows that were read, before those that are read yet
unfoldable pub carried : List Alignments → Rows → Rows
carried rs (these more) = these (rs ++ more)
carried rs (refused r) = refused r

carried_none : (x : Rows) → x ≡ carried [] x
unfolding carried
carried_none (these rs) = refl
carried_none (refused r) = refl

carried_row : (rs : List Alignments) (a : Alignments) (x : Rows) → carried rs (before a x) ≡ carried (rs ++ a ∷ []) x
unfolding carried
carried_row rs a (these more) = ap these (sym (append_assoc rs (a ∷ []) more))
carried_row rs a (refused r) = refl

-- one row more, in the place behind the last
set_behind : (rs : List Alignments) (k : ℕ) (z a : Alignments) → set (rs ++ replicate (suc k) z) (length rs) a ≡ (rs ++ a ∷ []) ++ replicate k z
set_behind [] k z a = refl
set_behind (r ∷ rs) k z a = ap (λ (l : List Alignments). r ∷ l) (set_behind rs k z a)

-- `count` rows are read, and `rest` is what is left of the bytes: the table is these and those that the rest adds
pub record Reading (bytes : List ℕ) (rows : List Alignments) (count : ℕ) (rest : List ℕ) : Type 0 where
  pub read : List Alignments
  pub are : rows ≡ read ++ replicate (64 - count) no_row
  pub long : length read ≡ count
  pub most : count ≤ 64
  pub left : table_of bytes ≡ carried read (rows_from count (form_of rest))

pub reading_none : (bytes : List ℕ) → Reading bytes (replicate 64 no_row) 0 bytes
unfolding table_of
reading_none bytes = record {
  read = [];
  are = refl;
  long = refl;
  most = omega arith;
  left = carried_none (rows_from 0 (form_of bytes));
}

-- the 64 rows of which `n` were read, at the end of the bytes
abbrev pub finished : List Alignments → ℕ → Result Table Refusal
finished rs n = pick (eqb n 0) (Err BadTable) (Ok (record { rows = rs; count = n }))

-- ---- what bytes start with, as code is told of it

-- what was told of it
abbrev unknown : Result (Option Header) Refusal → Result (Option Header) Broken
unknown (Ok o) = Ok o
unknown (Err r) = Err (record {})

told_ok : (s : Result (Option Header) Broken) (o : Option Header) → known_as s ≡ Ok o → s ≡ Ok o
told_ok (Ok p) o e = ap unknown e
told_ok (Err b) o e = let z : ◌≡◌ {A = ℕ} 0 1 = cc in absurd (omega arith)

told_broken : (s : Result (Option Header) Broken) (r : Refusal) → known_as s ≡ Err r → (s ≡ Err (record {})) × (r ≡ BadTable)
told_broken (Ok o) r e = let z : ◌≡◌ {A = ℕ} 0 1 = cc in absurd (omega arith)
told_broken (Err b) r e = (refl, cc)

-- ---- a turn

module _ {bytes : List ℕ} {rows : List Alignments} {count : ℕ} {rest : List ℕ} (k : Reading bytes rows count rest) where
  -- where the records from here on are refused, the bytes are
  refused_here : (r : Refusal) → rows_from count (form_of rest) ≡ refused r → load_of bytes ≡ Err r
  unfolding load_of carried
  refused_here r e = ap loaded_as (k.left ∙ ap (carried k.read) e)

  -- what starts here is no record
  pub broken_here : (r : Refusal) → next_of rest ≡ Err r → load_of bytes ≡ Err r
  unfolding rows_from
  broken_here r e =
      let t = told_broken (start_of rest) r e in
      let f : form_of rest ≡ broken = form_next rest ∙ rw t.0 in
      rw t.1 (refused_here BadTable (ap (rows_from count) f))

  -- a record starts here
  module _ (h : Header) (e : next_of rest ≡ Ok (Some h)) where
    it : Found rest h
    it = found rest h (told_ok (start_of rest) (Some h) e)

    -- what is behind its length and kind, as code takes it
    abbrev Bodies : List ℕ
    Bodies = take (length rest - 4) (drop 4 rest)

    bodies : Bodies ≡ drop 4 rest
    bodies = take_all (length rest - 4) (drop 4 rest) (rw length-drop (omega arith))

    pub header_room : 4 ≤ length rest
    header_room = omega (arith, it.room)

    pub body_room : h.body ≤ length Bodies
    body_room = rw (bodies, length-drop) (omega (arith, it.room))

    -- its body, and what lies behind it
    module _ (body behind : List ℕ) (b : body ≡ take h.body Bodies) (m : behind ≡ drop h.body Bodies) where
      step : rows_from count (form_of rest)
          ≡ with_entry (entry_of count h.kind body) (rows_from count (form_of behind)) (rows_from (suc count) (form_of behind))
      unfolding rows_from
      step =
          let f : form_of rest ≡ entry h.kind body (form_of behind) = it.form ∙ rw (b, m, bodies, drop-drop h.body 4 rest) in
          ap (rows_from count) f

      pub passed_on : entry_of count h.kind body ≡ Ok None → Reading bytes rows count behind
      passed_on p = record { read = k.read; are = k.are; long = k.long; most = k.most; left = k.left ∙ ap (carried k.read) (step ∙ rw p) }

      pub row_read : (a : Alignments) → entry_of count h.kind body ≡ Ok (Some a) → Reading bytes (set rows count a) (count + 1) behind
      row_read a p =
          let l = (entry_row count h.kind body a p).room in
          let n : 64 - count ≡ suc (64 - (count + 1)) = omega (arith, l) in
          let w : set rows count a ≡ (k.read ++ a ∷ []) ++ replicate (64 - (count + 1)) no_row =
          rw (k.are, n, ← k.long) (set_behind k.read (64 - (length k.read + 1)) no_row a) in
          let s : rows_from count (form_of rest) ≡ before a (rows_from (suc count) (form_of behind)) = step ∙ rw p in
          record {
            read = k.read ++ a ∷ [];
            are = w;
            long = length-append k.read (a ∷ []) ∙ rw k.long;
            most = omega (arith, l);
            left = k.left ∙ ap (carried k.read) s ∙ rw (add-one) (carried_row k.read a (rows_from (suc count) (form_of behind)));
          }

      pub refused_by : (r : Refusal) → entry_of count h.kind body ≡ Err r → load_of bytes ≡ Err r
      refused_by r p = refused_here r (step ∙ rw p)

  -- the bytes end here
  pub ended : next_of rest ≡ Ok None → load_of bytes ≡ finished rows count
  unfolding load_of rows_from carried
  ended e =
      let f : form_of rest ≡ end = form_next rest ∙ rw (told_ok (start_of rest) None e) in
      let t : table_of bytes ≡ carried k.read (pick (eqb count 0) (refused BadTable) (these [])) = k.left ∙ ap (λ (x : Form). carried k.read (rows_from count x)) f in
      ap loaded_as t ∙ go count refl
    where
      go : (n : ℕ) → count ≡ n → loaded_as (carried k.read (pick (eqb count 0) (refused BadTable) (these []))) ≡ finished rows count
      go zero q = rw (eq-eqb count 0 q)
      go (suc n) q = rw (ne_eqb count 0 (λ z. omega (arith, z, q)), append-nil k.read, k.long, k.are)
