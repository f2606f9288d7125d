-- Tables that are written: 1 to 64 rows that fit, each as a record of kind 1, are loaded as these rows. Assumes nothing.
use Rattle.std.specs.Prelude.{◌≡◌, true, Some, Ok, List, [], ◌∷◌, ◌++◌, ℕ, suc, ◌/◌, ◌%◌, ◌<◌}
use Rattle.std.proofs.Common.{ap, ◌∙◌, div-add-mod', arith, lt-ltb, ne_eqb}
use Rattle.arithmetic.specs.Settings.{alignments_fit}
use Rattle.arithmetic.specs.declared.settings.Alignments.{Alignments}
use Rattle.records.specs.Records.{little_endian, record_bytes, form_of, form_in}
use Rattle.records.specs.RecordsLaws.{form_written}
use Rattle.tables.specs.Tables.{row_of, entry_of, these, rows_from, table_of}
use Rattle.tables.specs.TablesLaws.{Sound}

-- a number in four bytes
abbrev pub four_bytes : ℕ → List ℕ
four_bytes n = n % 256 ∷ n / 256 % 256 ∷ n / 256 / 256 % 256 ∷ n / 256 / 256 / 256 ∷ []

-- "four 32-bit alignments M, R, Z, D"
abbrev pub row_bytes : Alignments → List ℕ
row_bytes a = four_bytes a.mem ++ four_bytes a.req ++ four_bytes a.zero ++ four_bytes a.discard

abbrev pub table_bytes : List Alignments → List ℕ
table_bytes [] = []
table_bytes (a ∷ rs) = record_bytes 1 (row_bytes a) ++ table_bytes rs

four_read : (n : ℕ) → little_endian (four_bytes n) ≡ n
unfolding little_endian
four_read n = omega (arith, div-add-mod' n 256, div-add-mod' (n / 256) 256, div-add-mod' (n / 256 / 256) 256)

row_back : (a : Alignments) → row_of (row_bytes a) ≡ a
unfolding row_of
row_back a = rw (four_read a.mem, four_read a.req, four_read a.zero, four_read a.discard)

row_entry : (n : ℕ) (a : Alignments) → n < 64 → alignments_fit a ≡ true → entry_of n 1 (row_bytes a) ≡ Ok (Some a)
unfolding entry_of
row_entry n a h f = rw (lt-ltb n 64 h, row_back a, f)

written : (n : ℕ) (rs : List Alignments) → Sound n rs → rows_from n (form_of (table_bytes rs)) ≡ these rs
unfolding rows_from form_of form_in
written n [] s = rw (ne_eqb n 0 (λ z. omega (arith, z, s.some)))
written n (a ∷ rs) s =
    let rest : Sound (suc n) rs = record {
      some = omega arith;
      most = omega (arith, s.most);
      fit = λ i h. s.fit (suc i) (omega (arith, h));
    } in
    ap (rows_from n) (form_written 1 (row_bytes a) (table_bytes rs))
    ∙ rw (row_entry n a (omega (arith, s.most)) (s.fit 0 (omega arith)), written (suc n) rs rest)

pub table_written : (rs : List Alignments) → Sound 0 rs → table_of (table_bytes rs) ≡ these rs
unfolding table_of
table_written rs s = written 0 rs s
