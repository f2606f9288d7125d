-- Laws of drive tables: what makes a record a row; every table that is loaded has 1 to 64 rows, and each of them fits; a row by its index.
-- Assumes nothing.
use Rattle.std.specs.Prelude.{◌≡◌, refl, Bool, true, false, ◌&&◌, List, [], ◌∷◌, ◌++◌, ◌⊎◌, ℕ, zero, suc, ◌+◌, ◌-◌, ◌<◌, ◌≤◌, ltb, eqb}
use Rattle.std.specs.Prelude.{length, get_or, replicate, Option, Some, None, Result, Ok, Err}
use Rattle.std.proofs.Common.{sym, ap, ◌∙◌, inl, inr, arith, length-take, length-append, get_or-take, lt-ltb, le-ltb, ne_eqb, ltb-true}
use Rattle.std.proofs.Common.{eqb-true}
use Rattle.std.proofs.lemmas.List.{length-replicate}
use Rattle.std.proofs.Math.ListN.{get_or-append}
use Rattle.std.proofs.lemmas.Bool.{eqb-false}
use Rattle.arithmetic.specs.Rounding.{pick}
use Rattle.arithmetic.specs.Settings.{alignments_fit}
use Rattle.arithmetic.specs.declared.refusals.Refusal.{Refusal}
use Rattle.arithmetic.specs.declared.refusals.Refusal.TheVariants.{Unfit, Table as BadTable, Row as BadRow}
use Rattle.arithmetic.specs.declared.settings.Alignments.{Alignments}
use Rattle.records.specs.Records.{Form, end, broken, entry, form_of}
use Rattle.tables.specs.Tables.{row_of, entry_of, Rows, these, refused, before, with_entry, rows_from, table_of, no_row, table_with}
use Rattle.tables.specs.Tables.{load_of, table_in}
use Rattle.tables.specs.Tables.{rows_of, profile_in}
use Rattle.tables.specs.declared.table.Table.{Table}

-- ---- one record

-- a record that is a row
pub record IsRow (n kind : ℕ) (body : List ℕ) (a : Alignments) : Type 0 where
  pub kind_is : kind ≡ 1
  pub long : length body ≡ 16
  pub room : n < 64
  pub is : a ≡ row_of body
  pub fits : alignments_fit a ≡ true

abbrev Entry : Type 0
Entry = Result (Option Alignments) Refusal

-- the row that an entry is; z where it is none
abbrev row_in : Alignments → Entry → Alignments
row_in z (Ok None) = z
row_in z (Ok (Some a)) = a
row_in z (Err r) = z

pub entry_row : (n kind : ℕ) (body : List ℕ) (a : Alignments) → entry_of n kind body ≡ Ok (Some a) → IsRow n kind body a
unfolding entry_of
entry_row n kind body a e = go (eqb kind 1) (eqb (length body) 16) (ltb n 64) (alignments_fit (row_of body)) refl refl refl refl e
  where
    go : (k l m f : Bool) → eqb kind 1 ≡ k → eqb (length body) 16 ≡ l → ltb n 64 ≡ m → alignments_fit (row_of body) ≡ f
        → pick {A = Entry} k (pick (l && m) (pick f (Ok (Some (row_of body))) (Err BadRow)) (Err BadTable)) (Ok None) ≡ Ok (Some a)
        → IsRow n kind body a
    go true true true true p q s t e =
        let i : row_of body ≡ a = ap (row_in a) e in
        record {
          kind_is = eqb-true kind 1 p;
          long = eqb-true (length body) 16 q;
          room = ltb-true n 64 s;
          is = sym i;
          fits = rw (← i) t;
        }
    go true true true false p q s t e = let z : ◌≡◌ {A = ℕ} 0 1 = cc in absurd (omega arith)
    go true true false f p q s t e = let z : ◌≡◌ {A = ℕ} 0 1 = cc in absurd (omega arith)
    go true false m f p q s t e = let z : ◌≡◌ {A = ℕ} 0 1 = cc in absurd (omega arith)
    go false l m f p q s t e = let z : ◌≡◌ {A = ℕ} 0 1 = cc in absurd (omega arith)

-- "Other kinds are passed over"
pub other_passed : (n kind : ℕ) (body : List ℕ) (more : Form) → (kind ≡ 1 → ⊥) → rows_from n (entry kind body more) ≡ rows_from n more
unfolding rows_from entry_of
other_passed n kind body more h = rw (ne_eqb kind 1 h)

-- ---- all of them

-- "A table has 1 to 64 rows", and all that is asked of a row's alignments holds of each
pub record Sound (n : ℕ) (rs : List Alignments) : Type 0 where
  pub some : 0 < n + length rs
  pub most : n + length rs ≤ 64
  pub fit : (i : ℕ) → i < length rs → alignments_fit (get_or rs i no_row) ≡ true

abbrev rows_in : List Alignments → Rows → List Alignments
rows_in d (these rs) = rs
rows_in d (refused r) = d

sound_none : (n : ℕ) (rs : List Alignments) → n ≤ 64 → rows_from n end ≡ these rs → Sound n rs
unfolding rows_from
sound_none n rs h e = go (eqb n 0) refl e
  where
    go : (b : Bool) → eqb n 0 ≡ b → pick b (refused BadTable) (these []) ≡ these rs → Sound n rs
    go true q e = let z : ◌≡◌ {A = ℕ} 0 1 = cc in absurd (omega arith)
    go false q e =
        let i : [] ≡ rs = ap (rows_in rs) e in
        let m = eqb-false n 0 q in
        rw (← i) (record { some = omega (arith, m); most = omega (arith, h); fit = λ j l. absurd (omega (arith, l)) })

sound_row : (n : ℕ) (a : Alignments) (x : Rows) (rs : List Alignments) → alignments_fit a ≡ true → before a x ≡ these rs
    → ((ts : List Alignments) → x ≡ these ts → Sound (suc n) ts) → Sound n rs
sound_row n a (these ts) rs f e g =
    let i : a ∷ ts ≡ rs = ap (rows_in rs) e in
    let s = g ts refl in
    rw (← i) (record { some = omega (arith, s.some); most = omega (arith, s.most); fit = fit s })
  where
    fit : Sound (suc n) ts → (j : ℕ) → j < length (a ∷ ts) → alignments_fit (get_or (a ∷ ts) j no_row) ≡ true
    fit s zero l = f
    fit s (suc j) l = s.fit j (omega (arith, l))
sound_row n a (refused r) rs f e g = let z : ◌≡◌ {A = ℕ} 0 1 = cc in absurd (omega arith)

sound_from : (n : ℕ) (form : Form) (rs : List Alignments) → n ≤ 64 → rows_from n form ≡ these rs → Sound n rs
unfolding rows_from
sound_from n end rs h e = sound_none n rs h e
sound_from n broken rs h e = let z : ◌≡◌ {A = ℕ} 0 1 = cc in absurd (omega arith)
sound_from n (entry kind body more) rs h e =
    go (entry_of n kind body) refl e (λ q. sound_from n more rs h q) (λ l ts q. sound_from (suc n) more ts l q)
  where
    go : (x : Entry) → entry_of n kind body ≡ x → with_entry x (rows_from n more) (rows_from (suc n) more) ≡ these rs
        → (rows_from n more ≡ these rs → Sound n rs)
        → (suc n ≤ 64 → (ts : List Alignments) → rows_from (suc n) more ≡ these ts → Sound (suc n) ts) → Sound n rs
    go (Ok None) q e f g = f e
    go (Ok (Some a)) q e f g =
        let k = entry_row n kind body a q in sound_row n a (rows_from (suc n) more) rs k.fits e (g (omega (arith, k.room)))
    go (Err r) q e f g = let z : ◌≡◌ {A = ℕ} 0 1 = cc in absurd (omega arith)

pub table_sound : (bytes : List ℕ) (rs : List Alignments) → table_of bytes ≡ these rs → Sound 0 rs
unfolding table_of
table_sound bytes rs e = sound_from 0 (form_of bytes) rs (omega arith) e

-- ---- a row by its index

pub past_last : (t : Table) (i : ℕ) → (t.count ≤ i) ⊎ (length t.rows ≤ i) → profile_in t i ≡ Err Unfit
unfolding profile_in
past_last t i (inl h) = rw (le-ltb i (length (rows_of t)) (rw length-take (omega arith)))
past_last t i (inr h) = rw (le-ltb i (length (rows_of t)) (rw length-take (omega arith)))

pub row_there : (t : Table) (i : ℕ) → i < t.count → i < length t.rows → profile_in t i ≡ Ok (get_or t.rows i no_row)
unfolding profile_in
row_there t i h l =
    rw (lt-ltb i (length (rows_of t)) (rw length-take (omega arith)), get_or-take t.count t.rows i no_row h)

module _ (bytes : List ℕ) (rs : List Alignments) (e : table_of bytes ≡ these rs) where
  -- as a value it has them, and 64 places
  pub loaded_with : table_in (load_of bytes) ≡ table_with rs
  unfolding load_of
  loaded_with = rw e

  pub loaded_long : length (table_in (load_of bytes)).rows ≡ 64
  loaded_long =
      let s = table_sound bytes rs e in
      rw loaded_with
      (length-append rs (replicate (64 - length rs) no_row) ∙ rw (length-replicate (64 - length rs) no_row) (omega (arith, s.most)))

  -- row i of the loaded table is row i of the file, and past the last there is none
  pub loaded_row : (i : ℕ) → i < length rs → profile_in (table_in (load_of bytes)) i ≡ Ok (get_or rs i no_row)
  loaded_row i h =
      let l : length (rs ++ replicate (64 - length rs) no_row) ≡ 64 = rw loaded_with at loaded_long in
      let s = table_sound bytes rs e in
      rw loaded_with (row_there (table_with rs) i h (omega (arith, l, s.most)))
      ∙ ap Ok (get_or-append rs (replicate (64 - length rs) no_row) no_row i h)

  pub loaded_past : (i : ℕ) → length rs ≤ i → profile_in (table_in (load_of bytes)) i ≡ Err Unfit
  loaded_past i h = rw loaded_with (past_last (table_with rs) i (inl h))
