-- Sheets of document 02, N14, and what they are joined to: each by computation.
use Rattle.std.specs.Prelude.{◌≡◌, refl, Result, Ok, Err, List, [], ◌∷◌, ℕ, replicate}
use Rattle.arithmetic.specs.Rounding.{fits}
use Rattle.arithmetic.specs.Rows.{rows}
use Rattle.arithmetic.specs.Content.{window}
use Rattle.arithmetic.specs.declared.refusals.Refusal.{Refusal}
use Rattle.arithmetic.specs.declared.refusals.Refusal.TheVariants.{Output as NoRoom, Sheet as BadSheet}
use Rattle.vectors.specs.Vectors.{put}
use Rattle.sheets.specs.Sheets.{write_as, writes_in, words_of, is_sound, all_sound, sheet_fits, insert, ranges_from, total_of}
use Rattle.sheets.specs.Sheets.{owner_from, joined_byte, packed, placed, refused_as, join_of}
use Rattle.sheets.specs.declared.sheet.SheetWrite.{SheetWrite}
use Rattle.sheets.specs.declared.joining.Size.{Size}

-- 1 2 3 at 10; 4 5 at 13, which touches; 6 at 20, apart; 7 at 11, where the later one wins
abbrev sheet : List SheetWrite
sheet = write_as 10 0 3 ∷ write_as 13 3 2 ∷ write_as 20 5 1 ∷ write_as 11 6 1 ∷ []

abbrev bytes : List ℕ
bytes = 1 ∷ 2 ∷ 3 ∷ 4 ∷ 5 ∷ 6 ∷ 7 ∷ []

-- a room of seven bytes, and of eight words
abbrev room : List ℕ
room = 90 ∷ 91 ∷ 92 ∷ 93 ∷ 94 ∷ 95 ∷ 96 ∷ []

abbrev lines : List ℕ
lines = 80 ∷ 81 ∷ 82 ∷ 83 ∷ 84 ∷ 85 ∷ 86 ∷ 87 ∷ []

abbrev answer_of : List SheetWrite → List ℕ → List ℕ → Result Size Refusal
answer_of ws memory output = (join_of ws memory output lines).answer

-- what each of these is
pub record Computed : Type 0 where
  pub joined : join_of sheet bytes room lines ≡ record {
    answer = Ok (record { ranges = 2; bytes = 6 });
    output = 1 ∷ 7 ∷ 3 ∷ 4 ∷ 5 ∷ 6 ∷ 96 ∷ [];
    joined = 10 ∷ 0 ∷ 5 ∷ 20 ∷ 5 ∷ 1 ∷ 86 ∷ 87 ∷ [];
  }
  pub none : join_of [] bytes room lines ≡ record { answer = Ok (record { ranges = 0; bytes = 0 }); output = room; joined = lines }
  pub up_to_the_last : answer_of (write_as 18446744073709551614 0 1 ∷ []) bytes room ≡ Ok (record { ranges = 1; bytes = 1 })
  pub wraps : answer_of (write_as 18446744073709551615 0 1 ∷ []) bytes room ≡ Err BadSheet
  pub empty : answer_of (write_as 10 0 0 ∷ []) bytes room ≡ Err BadSheet
  pub outside_the_data : answer_of (write_as 10 7 1 ∷ []) bytes room ≡ Err BadSheet
  pub no_room : join_of sheet bytes (1 ∷ 2 ∷ 3 ∷ 4 ∷ 5 ∷ []) lines ≡ refused_as NoRoom (1 ∷ 2 ∷ 3 ∷ 4 ∷ 5 ∷ []) lines
  pub sheet_first : answer_of (write_as 10 0 8 ∷ []) bytes [] ≡ Err BadSheet
  pub write_64 : answer_of (replicate 64 (write_as 10 0 1)) bytes room ≡ Ok (record { ranges = 1; bytes = 1 })
  pub write_65 : answer_of (replicate 65 (write_as 10 0 1)) bytes room ≡ Err BadSheet
  pub rows_of_three : writes_in (10 ∷ 0 ∷ 3 ∷ 13 ∷ 3 ∷ 2 ∷ 20 ∷ 5 ∷ []) ≡ write_as 10 0 3 ∷ write_as 13 3 2 ∷ []

pub computed : Computed
unfolding join_of sheet_fits all_sound is_sound fits insert ranges_from total_of owner_from joined_byte packed window placed put words_of
    writes_in rows
computed = record {
  joined = refl;
  none = refl;
  up_to_the_last = refl;
  wraps = refl;
  empty = refl;
  outside_the_data = refl;
  no_room = refl;
  sheet_first = refl;
  write_64 = refl;
  write_65 = refl;
  rows_of_three = refl;
}
