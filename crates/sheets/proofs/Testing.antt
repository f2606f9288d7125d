-- A write is tested clause by clause, and a sheet write by write. Assumes nothing.
use mathlib.Core.Path.{◌≡◌, refl, sym, ap}
use mathlib.Core.Bool.{Bool, true, false, ◌&&◌, and-false}
use mathlib.Core.List.{List, [], ◌∷◌}
use Rattle.std.specs.List.{list_all}
use Prim.Native.Nat.{ℕ, ◌+◌, ◌-◌, ◌^◌, ◌<◌, ◌≤◌}
use native.Mathlib.Omega.{arith}
use lib.Dec.{ltb, leb}
use lib.ListN.{length, get_or}
use borrow.Author.Tests.{lt-ltb, le-leb, lt-leb, leb-true, leb-false}
use Rattle.arithmetic.specs.Rounding.{fits}
use Rattle.arithmetic.specs.RoundingLaws.{fits_true, fits_false}
use Rattle.sheets.specs.Sheets.{no_write, write_from, writes_of, is_sound, all_sound, sheet_fits}
use Rattle.sheets.specs.declared.sheet.SheetWrite.{SheetWrite}
use Rattle.sheets.specs.SheetLaws.{Sound, sound_at, sheet_fits_lem}

-- ---- a write

-- what a write is tested for, one after the other
module _ (n : ℕ) (w : SheetWrite) where
  pub unsound_empty : w.length ≡ 0 → is_sound n w ≡ false
  unfolding is_sound
  unsound_empty e = rw e

  pub unsound_wraps : w.offset.0 < 2 ^ 64 → 18446744073709551615 - w.offset.0 < w.length → is_sound n w ≡ false
  unfolding is_sound
  unsound_wraps g h =
      rw (fits_false (w.offset.0 + w.length) (omega (arith, g, h)), and-false (ltb 0 w.length))

  pub unsound_start : n < w.start → is_sound n w ≡ false
  unfolding is_sound
  unsound_start h =
      rw (lt-leb (w.start + w.length) n (omega (arith, h)), and-false (ltb 0 w.length && fits (w.offset.0 + w.length)))

  pub sound_else : (0 < w.length) → w.offset.0 < 2 ^ 64 → w.length ≤ 18446744073709551615 - w.offset.0 → w.start ≤ n
      → leb w.length (n - w.start) ≡ is_sound n w
  unfolding is_sound
  sound_else s g h l =
      rw (lt-ltb 0 w.length s, fits_true (w.offset.0 + w.length) (omega (arith, g, h))) (go (leb w.length (n - w.start)) refl)
    where
      go : (b : Bool) → leb w.length (n - w.start) ≡ b → b ≡ leb (w.start + w.length) n
      go true q = let k = leb-true w.length (n - w.start) q in sym (le-leb (w.start + w.length) n (omega (arith, k, l)))
      go false q = let k = leb-false w.length (n - w.start) q in sym (lt-leb (w.start + w.length) n (omega (arith, k, l)))

-- of the write in row i
pub sound_of : (n : ℕ) (ws : List SheetWrite) (i : ℕ) (w : SheetWrite) → w ≡ get_or ws i no_write → sheet_fits n ws ≡ true → i < length ws
    → Sound n w
sound_of n ws i w e f h = rw e (sound_at n ws i (sheet_fits_lem n ws f).all h)

-- ---- a sheet

pub sheet_long : (n : ℕ) (ws : List SheetWrite) → 64 < length ws → sheet_fits n ws ≡ false
unfolding sheet_fits
sheet_long n ws h = rw (lt-leb (length ws) 64 h)

pub sheet_short : (n : ℕ) (ws : List SheetWrite) → length ws ≤ 64 → all_sound n ws ≡ sheet_fits n ws
unfolding sheet_fits
sheet_short n ws h = rw (le-leb (length ws) 64 h)

pub rows_sound : (n : ℕ) (lines : List (List ℕ)) → list_all (λ row. is_sound n (write_from row)) lines ≡ all_sound n (writes_of lines)
unfolding all_sound
rows_sound n [] = refl
rows_sound n (row ∷ lines) = ap (λ (b : Bool). is_sound n (write_from row) && b) (rows_sound n lines)
