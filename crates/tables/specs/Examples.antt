-- Byte strings of document 02, N3, and what they are as tables: each by computation.
use Rattle.std.specs.Prelude.{◌≡◌, refl, List, [], ◌∷◌, ◌++◌, ℕ, zero, suc}
use Rattle.arithmetic.specs.Settings.{alignments, is_alignment, alignments_fit}
use Rattle.arithmetic.specs.declared.refusals.Refusal.TheVariants.{Table as BadTable, Row as BadRow}
use Rattle.records.specs.Records.{little_endian, is_cut, is_short, start_of, form_in, form_of}
use Rattle.tables.specs.Tables.{row_of, entry_of, these, refused, rows_from, table_of}

-- "Kind 1 is a row: four 32-bit alignments M, R, Z, D, so its length is 18", "little-endian": 1, 512, 4096, 65536
abbrev row : List ℕ
row = 18 ∷ 0 ∷ 1 ∷ 0 ∷ 1 ∷ 0 ∷ 0 ∷ 0 ∷ 0 ∷ 2 ∷ 0 ∷ 0 ∷ 0 ∷ 16 ∷ 0 ∷ 0 ∷ 0 ∷ 0 ∷ 1 ∷ 0 ∷ []

-- a row of which D is 3
abbrev unfit : List ℕ
unfit = 18 ∷ 0 ∷ 1 ∷ 0 ∷ 1 ∷ 0 ∷ 0 ∷ 0 ∷ 0 ∷ 2 ∷ 0 ∷ 0 ∷ 0 ∷ 16 ∷ 0 ∷ 0 ∷ 3 ∷ 0 ∷ 0 ∷ 0 ∷ []

-- a record of kind 257 without a body, and one of kind 2 with three bytes
abbrev others : List ℕ
others = 2 ∷ 0 ∷ 1 ∷ 1 ∷ 5 ∷ 0 ∷ 2 ∷ 0 ∷ 9 ∷ 9 ∷ 9 ∷ []

abbrev times : ℕ → List ℕ → List ℕ
times zero bs = []
times (suc n) bs = bs ++ times n bs

-- what each of these is
pub record Computed : Type 0 where
  pub one : table_of row ≡ these (alignments 1 512 4096 65536 ∷ [])
  pub others_passed : table_of (others ++ row ++ others) ≡ these (alignments 1 512 4096 65536 ∷ [])
  pub none : table_of [] ≡ refused BadTable
  pub none_of_kind_1 : table_of others ≡ refused BadTable
  pub cut : table_of (row ++ 18 ∷ 0 ∷ 1 ∷ 0 ∷ []) ≡ refused BadTable
  pub cut_in_its_length : table_of (row ++ 2 ∷ []) ≡ refused BadTable
  pub shorter_than_its_kind : table_of (row ++ 1 ∷ 0 ∷ 1 ∷ []) ≡ refused BadTable
  pub trailing_zeroes : table_of (row ++ 0 ∷ 0 ∷ []) ≡ refused BadTable
  pub of_another_length : table_of (row ++ 3 ∷ 0 ∷ 1 ∷ 0 ∷ 1 ∷ []) ≡ refused BadTable
  pub past_a_limit : table_of (row ++ unfit) ≡ refused BadRow
  pub first_decides : table_of (unfit ++ 1 ∷ []) ≡ refused BadRow
  pub row_64 : table_of (times 63 row ++ unfit) ≡ refused BadRow
  pub row_65 : table_of (times 64 row ++ unfit) ≡ refused BadTable

pub computed : Computed
unfolding little_endian is_cut is_short start_of form_in form_of row_of entry_of rows_from table_of is_alignment alignments_fit
computed = record {
  one = refl;
  others_passed = refl;
  none = refl;
  none_of_kind_1 = refl;
  cut = refl;
  cut_in_its_length = refl;
  shorter_than_its_kind = refl;
  trailing_zeroes = refl;
  of_another_length = refl;
  past_a_limit = refl;
  first_decides = refl;
  row_64 = refl;
  row_65 = refl;
}
