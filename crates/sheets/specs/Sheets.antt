-- Document 02, N14, "One trip for many edits": a sheet of writes, what it is refused for, and what it is joined to.
use Rattle.std.specs.Prelude.{◌≡◌, Bool, true, ◌&&◌, List, [], ◌∷◌, ◌++◌, ℕ, ◌+◌, ◌-◌, ◌/◌, min, max, ltb, leb, length, get_or}
use Rattle.std.specs.Prelude.{Option, Some, None, Result, Ok, Err, map}
use Rattle.arithmetic.specs.Rounding.{pick, fits}
use Rattle.arithmetic.specs.Offsets.{store_at, range_of}
use Rattle.arithmetic.specs.Rows.{rows}
use Rattle.arithmetic.specs.Content.{Bytes, in_range, window}
use Rattle.arithmetic.specs.declared.offsets.Range.{Range}
use Rattle.arithmetic.specs.declared.refusals.Refusal.{Refusal}
use Rattle.arithmetic.specs.declared.refusals.Refusal.TheVariants.{Output as NoRoom, Sheet as BadSheet}
use Rattle.vectors.specs.Vectors.{put}
use Rattle.sheets.specs.declared.sheet.SheetWrite.{SheetWrite}
use Rattle.sheets.specs.declared.joining.Size.{Size}

-- ---- writes, in rows of three words: offset on the store, start in the data, length

abbrev pub write_as : ℕ → ℕ → ℕ → SheetWrite
write_as offset start n = record { offset = store_at offset; start = start; length = n }

abbrev pub no_write : SheetWrite
no_write = write_as 0 0 0

abbrev pub write_from : List ℕ → SheetWrite
write_from row = write_as (get_or row 0 0) (get_or row 1 0) (get_or row 2 0)

abbrev pub writes_of : List (List ℕ) → List SheetWrite
writes_of lines = map write_from lines

-- words behind the last whole row say nothing
unfoldable pub writes_in : List ℕ → List SheetWrite
writes_in words = rows write_from 3 (length words / 3) words

abbrev pub row_of : SheetWrite → List ℕ
row_of w = w.offset.0 ∷ w.start ∷ w.length ∷ []

unfoldable pub words_of : List SheetWrite → List ℕ
words_of [] = []
words_of (w ∷ ws) = row_of w ++ words_of ws

-- the range that a write covers
abbrev pub range_for : SheetWrite → Range
range_for w = range_of w.offset.0 (w.offset.0 + w.length)

abbrev pub covers : SheetWrite → ℕ → Bool
covers w k = in_range (range_for w) k

-- ---- what is refused

-- "one is empty, wraps or lies outside the data", which has n bytes
unfoldable pub is_sound : ℕ → SheetWrite → Bool
is_sound n w = ltb 0 w.length && fits (w.offset.0 + w.length) && leb (w.start + w.length) n

unfoldable pub all_sound : ℕ → List SheetWrite → Bool
all_sound n [] = true
all_sound n (w ∷ ws) = is_sound n w && all_sound n ws

-- "220 if there are over 64 writes or one is [..]"
unfoldable pub sheet_fits : ℕ → List SheetWrite → Bool
sheet_fits n ws = leb (length ws) 64 && all_sound n ws

-- ---- the joined ranges: "ascending ranges with a gap between any two"

-- "ranges that touch become one": the range from a up to e put into ascending ranges, one with all that it overlaps or touches
unfoldable pub insert : ℕ → ℕ → List Range → List Range
insert a e [] = range_of a e ∷ []
insert a e (r ∷ rs) =
    pick (ltb e r.start.0) (range_of a e ∷ r ∷ rs)
    (pick (ltb r.end.0 a) (r ∷ insert a e rs) (insert (min a r.start.0) (max e r.end.0) rs))

unfoldable pub ranges_from : List Range → List SheetWrite → List Range
ranges_from rs [] = rs
ranges_from rs (w ∷ ws) = ranges_from (insert w.offset.0 (w.offset.0 + w.length) rs) ws

abbrev pub ranges_of : List SheetWrite → List Range
ranges_of ws = ranges_from [] ws

abbrev pub size_of : Range → ℕ
size_of r = r.end.0 - r.start.0

-- "the joined bytes", how many
unfoldable pub total_of : List Range → ℕ
total_of [] = 0
total_of (r ∷ rs) = size_of r + total_of rs

-- ---- their bytes

-- "where two cover a byte the later one wins": the last write that covers k, where one does
unfoldable pub owner_from : Option SheetWrite → List SheetWrite → ℕ → Option SheetWrite
owner_from owner [] k = owner
owner_from owner (w ∷ ws) k = owner_from (pick (covers w k) (Some w) owner) ws k

abbrev pub owner_of : List SheetWrite → ℕ → Option SheetWrite
owner_of ws k = owner_from None ws k

-- "with their bytes in lent data": the byte that a write puts at k
abbrev pub byte_of : List ℕ → SheetWrite → ℕ → ℕ
byte_of memory w k = get_or memory (w.start + (k - w.offset.0)) 0

-- the byte that the owner of k puts there; no range has a k of which none is the owner
abbrev pub byte_by : List ℕ → Option SheetWrite → ℕ → ℕ
byte_by memory (Some w) k = byte_of memory w k
byte_by memory None k = byte_of memory no_write k

unfoldable pub joined_byte : List ℕ → List SheetWrite → Bytes
joined_byte memory ws k = byte_by memory (owner_of ws k) k

-- "packed in that order"
unfoldable pub packed : Bytes → List Range → List ℕ
packed s [] = []
packed s (r ∷ rs) = window s r.start.0 (size_of r) ++ packed s rs

-- the ranges as writes, whose bytes lie so in the output, from `at` on
unfoldable pub placed : ℕ → List Range → List SheetWrite
placed at [] = []
placed at (r ∷ rs) = write_as r.start.0 at (size_of r) ∷ placed (at + size_of r) rs

abbrev pub joined_of : List SheetWrite → List SheetWrite
joined_of ws = placed 0 (ranges_of ws)

-- "at the front of a lent output, its rest untouched"
abbrev pub in_front : List ℕ → List ℕ → List ℕ
in_front new old = put old 0 new

-- ---- the call: its answer, and every byte of the output and word of the joined writes after it

pub record Joins : Type 0 where
  pub answer : Result Size Refusal
  pub output : List ℕ
  pub joined : List ℕ

abbrev pub refused_as : Refusal → List ℕ → List ℕ → Joins
refused_as r output words = record { answer = Err r; output = output; joined = words }

abbrev pub joined_as : List SheetWrite → List ℕ → List ℕ → List ℕ → Joins
joined_as ws memory output words = record {
  answer = Ok (record { ranges = length (ranges_of ws); bytes = total_of (ranges_of ws) });
  output = in_front (packed (joined_byte memory ws) (ranges_of ws)) output;
  joined = in_front (words_of (joined_of ws)) words;
}

-- "219 if the output is shorter than the joined bytes; 220 if [..]. 220 is tested first."
unfoldable pub join_of : List SheetWrite → List ℕ → List ℕ → List ℕ → Joins
join_of ws memory output words =
    pick (sheet_fits (length memory) ws)
    (pick (leb (total_of (ranges_of ws)) (length output)) (joined_as ws memory output words) (refused_as NoRoom output words))
    (refused_as BadSheet output words)

abbrev pub JoinsAs : Joins → Result Size Refusal → List ℕ → List ℕ → Type 0
JoinsAs j answer output words = (answer ≡ j.answer) × (output ≡ j.output) × (words ≡ j.joined)
