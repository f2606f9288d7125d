-- Laws of sheets in words: rows of three words are the writes of the sheet. Assumes nothing.
use mathlib.Core.Path.{◌≡◌, refl, sym, ap, ◌∙◌}
use mathlib.Core.List.{List, [], ◌∷◌}
use Prim.Native.Nat.{ℕ, zero, suc, ◌/◌}
use lib.ListN.{length, take, drop, get_or}
use Rattle.std.specs.Simd.{first_chunks}
use Rattle.std.proofs.Math.ListN.{get_or-map}
use Rattle.std.proofs.lemmas.List.{length-map}
use Rattle.arithmetic.specs.Rows.{rows}
use Rattle.sheets.specs.Sheets.{no_write, write_from, writes_of, writes_in}
use Rattle.sheets.specs.declared.sheet.SheetWrite.{SheetWrite}

chunk_rows : (n : ℕ) (words : List ℕ) → writes_of (first_chunks 3 n words) ≡ rows write_from 3 n words
unfolding rows
chunk_rows zero words = refl
chunk_rows (suc n) words = ap (λ (ws : List SheetWrite). write_from (take 3 words) ∷ ws) (chunk_rows n (drop 3 words))

pub writes_read : (words : List ℕ) (lines : List (List ℕ)) → lines ≡ first_chunks 3 (length words / 3) words
    → writes_of lines ≡ writes_in words
unfolding writes_in
writes_read words lines e = ap writes_of e ∙ chunk_rows (length words / 3) words

pub writes_long : (lines : List (List ℕ)) → length (writes_of lines) ≡ length lines
writes_long lines = length-map lines write_from

-- the write in row i
pub write_at : (lines : List (List ℕ)) (i : ℕ) → write_from (get_or lines i []) ≡ get_or (writes_of lines) i no_write
write_at lines i = sym (get_or-map write_from lines i [])
