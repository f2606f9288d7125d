-- Laws of tables in words: each word of a row, that a table's words are that table, what a load leaves. Assumes nothing.
use Rattle.std.specs.Prelude.{◌≡◌, refl, List, [], ◌∷◌, ◌++◌, ℕ, zero, suc, ◌+◌, ◌*◌, ◌<◌, map, length, take, drop, get_or}
use Rattle.std.specs.Prelude.{Result, Ok, Err}
use Rattle.std.specs.Simd.{first_chunks}
use Rattle.std.proofs.Common.{sym, ap, ◌∙◌, arith, get_or-drop}
use Rattle.std.proofs.Math.ListN.{get_or-map}
use Rattle.arithmetic.specs.Rows.{rows, rows_length, rows_get, row_word}
use Rattle.arithmetic.specs.declared.refusals.Refusal.{Refusal}
use Rattle.arithmetic.specs.declared.settings.Alignments.{Alignments}
use Rattle.tables.specs.Tables.{no_row, table_in}
use Rattle.tables.specs.Words.{alignments_from, table_from, row_words, table_words, outcome_of, LoadsIn}
use Rattle.tables.specs.declared.table.Table.{Table}

-- ---- the rows as they are written, in four words each

pub row_words_more : (rs : List Alignments) (a : Alignments) → row_words (rs ++ a ∷ []) ≡ row_words rs ++ row_words (a ∷ [])
row_words_more [] a = refl
row_words_more (r ∷ rs) a = ap (λ (l : List ℕ). r.mem ∷ r.req ∷ r.zero ∷ r.discard ∷ l) (row_words_more rs a)

row_length : (rs : List Alignments) → length (row_words rs) ≡ 4 * length rs
row_length [] = refl
row_length (a ∷ rs) = omega (arith, row_length rs)

pub table_long : (t : Table) → length t.rows ≡ 64 → length (table_words t) ≡ 257
table_long t e = omega (arith, row_length t.rows, e)

-- ---- the words of row i, as they are written

word : (f : Alignments → ℕ) (j : ℕ) → f no_row ≡ 0 → ((a : Alignments) (rs : List Alignments) → get_or (row_words (a ∷ rs)) j 0 ≡ f a)
    → (rs : List Alignments) (i : ℕ) → get_or (row_words rs) (4 * i + j) 0 ≡ f (get_or rs i no_row)
word f j z g [] i = sym z
word f j z g (a ∷ rs) zero = let e : 4 * 0 + j ≡ j = omega arith in rw e (g a rs)
word f j z g (a ∷ rs) (suc i) =
    let e : 4 * suc i + j ≡ suc (suc (suc (suc (4 * i + j)))) = omega arith in
    rw e (word f j z g rs i)

-- word j of row i, where f is what stands there
at_word : (t : Table) (f : Alignments → ℕ) (i j : ℕ) → f no_row ≡ 0
    → ((a : Alignments) (rs : List Alignments) → get_or (row_words (a ∷ rs)) j 0 ≡ f a)
    → f (get_or t.rows i no_row) ≡ get_or (table_words t) (1 + 4 * i + j) 0
at_word t f i j z g = let e : 1 + 4 * i + j ≡ suc (4 * i + j) = omega arith in rw e (sym (word f j z g t.rows i))

module _ (t : Table) (i : ℕ) where
  pub mem_word : (get_or t.rows i no_row).mem ≡ get_or (table_words t) (1 + 4 * i) 0
  mem_word = let e : 1 + 4 * i + 0 ≡ 1 + 4 * i = omega arith in rw (← e) (at_word t (λ a. a.mem) i 0 refl (λ a rs. refl))

  pub req_word : (get_or t.rows i no_row).req ≡ get_or (table_words t) (1 + 4 * i + 1) 0
  req_word = at_word t (λ a. a.req) i 1 refl (λ a rs. refl)

  pub zero_word : (get_or t.rows i no_row).zero ≡ get_or (table_words t) (1 + 4 * i + 2) 0
  zero_word = at_word t (λ a. a.zero) i 2 refl (λ a rs. refl)

  pub discard_word : (get_or t.rows i no_row).discard ≡ get_or (table_words t) (1 + 4 * i + 3) 0
  discard_word = at_word t (λ a. a.discard) i 3 refl (λ a rs. refl)

-- ---- and as they are read

chunk_rows : (n : ℕ) (w : List ℕ) → map alignments_from (first_chunks 4 n w) ≡ rows alignments_from 4 n w
unfolding rows
chunk_rows zero w = refl
chunk_rows (suc n) w = ap (λ (l : List Alignments). alignments_from (take 4 w) ∷ l) (chunk_rows n (drop 4 w))

-- the four words behind the count that are row i
pub chunk_row : (w : List ℕ) (i : ℕ) → alignments_from (get_or (first_chunks 4 64 (drop 1 w)) i []) ≡ get_or (table_from w).rows i no_row
unfolding table_from
chunk_row w i =
    sym (get_or-map alignments_from (first_chunks 4 64 (drop 1 w)) i [])
    ∙ ap (λ (l : List Alignments). get_or l i no_row) (chunk_rows 64 (drop 1 w))

-- its four words, one by one
pub row_words_lem : (w : List ℕ) (i : ℕ) → i < 64
    → record {
      mem = get_or w (1 + 4 * i) 0;
      req = get_or w (1 + 4 * i + 1) 0;
      zero = get_or w (1 + 4 * i + 2) 0;
      discard = get_or w (1 + 4 * i + 3) 0;
    } ≡ get_or (table_from w).rows i no_row
unfolding table_from
row_words_lem w i h =
    let e : 1 + (i * 4 + 0) ≡ 1 + 4 * i = omega arith in
    let f : 1 + (i * 4 + 1) ≡ 1 + 4 * i + 1 = omega arith in
    let g : 1 + (i * 4 + 2) ≡ 1 + 4 * i + 2 = omega arith in
    let k : 1 + (i * 4 + 3) ≡ 1 + 4 * i + 3 = omega arith in
    rw (
      rows_get alignments_from 4 64 i (drop 1 w) no_row h,
      row_word 4 i (drop 1 w) 0 (omega arith),
      row_word 4 i (drop 1 w) 1 (omega arith),
      row_word 4 i (drop 1 w) 2 (omega arith),
      row_word 4 i (drop 1 w) 3 (omega arith),
      get_or-drop 1 w (i * 4 + 0) 0,
      get_or-drop 1 w (i * 4 + 1) 0,
      get_or-drop 1 w (i * 4 + 2) 0,
      get_or-drop 1 w (i * 4 + 3) 0,
      e,
      f,
      g,
      k,
    )

pub table_rows : (w : List ℕ) → length (table_from w).rows ≡ 64
unfolding table_from
table_rows w = rows_length alignments_from 4 64 (drop 1 w)

-- ---- a table's words are that table

rows_back : (rs : List Alignments) → rows alignments_from 4 (length rs) (row_words rs) ≡ rs
unfolding rows
rows_back [] = refl
rows_back (a ∷ rs) = ap (λ (l : List Alignments). a ∷ l) (rows_back rs)

pub table_back : (t : Table) → length t.rows ≡ 64 → table_from (table_words t) ≡ t
unfolding table_from
table_back t e = let b : rows alignments_from 4 64 (row_words t.rows) ≡ t.rows = rw (← e) (rows_back t.rows) in rw b

-- ---- what a load leaves

-- a load that is refused answers that refusal, and every word stays
pub loads_refused : (l x : Result Table Refusal) → x ≡ l → (r : Refusal) → x ≡ Err r → (before : List ℕ) → LoadsIn l (Err r) before before
loads_refused l x e r o before = rw (← e, o) (refl, refl)

-- one that is carried out answers so, and the words are the table's
pub loads_done : (l x : Result Table Refusal) → x ≡ l → (t : Table) → x ≡ Ok t → (before after : List ℕ) → after ≡ table_words t
    → LoadsIn l (Ok tt) before after
loads_done l x e t o before after w = rw (← e, o) (refl, w)

-- and the other way: an answer says what was loaded
pub outcome_refused : (x : Result Table Refusal) (r : Refusal) → outcome_of x ≡ Err r → x ≡ Err r
outcome_refused (Ok t) r o = let z : ◌≡◌ {A = ℕ} 0 1 = cc in absurd (omega arith)
outcome_refused (Err q) r o = cc

pub outcome_done : (x : Result Table Refusal) → outcome_of x ≡ Ok tt → x ≡ Ok (table_in x)
outcome_done (Ok t) o = refl
outcome_done (Err q) o = let z : ◌≡◌ {A = ℕ} 0 1 = cc in absurd (omega arith)
