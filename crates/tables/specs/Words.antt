-- A drive table in words, as a host holds it: 257. How many rows there are, then M, R, Z, D of each of the 64. Any words are a table.
use Rattle.std.specs.Prelude.{◌≡◌, Result, Ok, Err, List, [], ◌∷◌, ℕ, drop, get_or}
use Rattle.arithmetic.specs.Rows.{rows}
use Rattle.arithmetic.specs.Settings.{alignments}
use Rattle.arithmetic.specs.declared.refusals.Refusal.{Refusal}
use Rattle.arithmetic.specs.declared.settings.Alignments.{Alignments}
use Rattle.tables.specs.declared.table.Table.{Table}

abbrev pub alignments_from : List ℕ → Alignments
alignments_from w = alignments (get_or w 0 0) (get_or w 1 0) (get_or w 2 0) (get_or w 3 0)

unfoldable pub table_from : List ℕ → Table
table_from w = record { rows = rows alignments_from 4 64 (drop 1 w); count = get_or w 0 0 }

abbrev pub row_words : List Alignments → List ℕ
row_words [] = []
row_words (a ∷ rs) = a.mem ∷ a.req ∷ a.zero ∷ a.discard ∷ row_words rs

abbrev pub table_words : Table → List ℕ
table_words t = t.count ∷ row_words t.rows

-- every word after a load: a refusal leaves those that stood there
abbrev pub words_after : Result Table Refusal → List ℕ → List ℕ
words_after (Ok t) words = table_words t
words_after (Err r) words = words

-- and what it answers
abbrev pub outcome_of : Result Table Refusal → Result (Unit {0}) Refusal
outcome_of (Ok t) = Ok tt
outcome_of (Err r) = Err r

abbrev pub LoadsIn : Result Table Refusal → Result (Unit {0}) Refusal → List ℕ → List ℕ → Type 0
LoadsIn l r before after = (r ≡ outcome_of l) × (after ≡ words_after l before)
