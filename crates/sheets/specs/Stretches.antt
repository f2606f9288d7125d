-- What the parts of the sweep promise each other. A stretch from `at` up to its end has one owner throughout, or none.
use Rattle.std.specs.Prelude.{◌≡◌, List, [], ◌∷◌, ℕ, ◌+◌, ◌<◌, ◌≤◌, length}
use Rattle.sheets.specs.Sheets.{owner_of, ranges_of, total_of, joined_of, joined_byte, packed, words_of, in_front}
use Rattle.sheets.specs.declared.sheet.SheetWrite.{SheetWrite}
use Rattle.sheets.specs.declared.joining.Stretch.{Stretch}
use Rattle.sheets.specs.declared.joining.Size.{Size}

pub record Owned (ws : List SheetWrite) (at : ℕ) (s : Stretch) : Type 0 where
  pub ahead : at < s.end
  pub most : s.end ≤ 18446744073709551615
  pub owned : (k : ℕ) → at ≤ k → k < s.end → owner_of ws k ≡ s.owner

-- the lengths of all writes
unfoldable pub lengths_of : List SheetWrite → ℕ
lengths_of [] = 0
lengths_of (w ∷ ws) = w.length + lengths_of ws

-- a stretch of a write whose bytes lie in n bytes of data
pub record Lies (w : SheetWrite) (at end n : ℕ) : Type 0 where
  pub from : w.offset.0 ≤ at
  pub ahead : at < end
  pub to : end ≤ w.offset.0 + w.length
  pub most : end ≤ 18446744073709551615
  pub inside : w.start + w.length ≤ n

-- the bytes and the rows of a sheet that fits are put in front of what was there, and the ranges are counted
abbrev pub PacksAs : List SheetWrite → List ℕ → Size → List ℕ → List ℕ → List ℕ → List ℕ → Type 0
PacksAs ws memory size output words outputAfter words_after =
    (size ≡ record { ranges = length (ranges_of ws); bytes = total_of (ranges_of ws) })
    × (outputAfter ≡ in_front (packed (joined_byte memory ws) (ranges_of ws)) output)
    × (words_after ≡ in_front (words_of (joined_of ws)) words)
