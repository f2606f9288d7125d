-- Document 02, N14, on the plain byte store: "Writing these in any order gives the content that the originals give in their order." The
-- statements; proofs/Theorem.antt proves them for every sheet that is not refused.
use Rattle.std.specs.Prelude.{◌≡◌, Bool, true, false, ◌||◌, List, [], ◌∷◌, ◌++◌, ℕ, suc, ◌*◌, ◌^◌, ◌<◌, ◌≤◌, length, take, drop, get_or}
use Rattle.std.specs.Prelude.{Ok, Err}
use Rattle.arithmetic.specs.Content.{Bytes, in_range, changed, laid_at}
use Rattle.arithmetic.specs.declared.offsets.Range.{Range}
use Rattle.arithmetic.specs.declared.refusals.Refusal.{Refusal}
use Rattle.sheets.specs.Sheets.{range_for, covers, sheet_fits, ranges_of, total_of, joined_of, join_of}
use Rattle.sheets.specs.declared.sheet.SheetWrite.{SheetWrite}
use Rattle.sheets.specs.declared.joining.Size.{Size}

-- ---- writes on the plain byte store

-- "with their bytes in lent data"
abbrev pub bytes_of : List ℕ → SheetWrite → List ℕ
bytes_of memory w = take w.length (drop w.start memory)

-- one write made: all bytes of its range become its own
unfoldable pub made : List ℕ → Bytes → SheetWrite → Bytes
made memory s w = changed s (range_for w) (λ k. true) (laid_at w.offset.0 (bytes_of memory w))

-- one after the other
unfoldable pub in_order : List ℕ → Bytes → List SheetWrite → Bytes
in_order memory s [] = s
in_order memory s (w ∷ ws) = in_order memory (made memory s w) ws

-- ---- what is said of the ranges

-- "ascending ranges with a gap between any two", from lo on, and none is empty
abbrev pub Ascends : ℕ → List Range → Type 0
Ascends lo [] = Unit {0}
Ascends lo (r ∷ rs) = (lo ≤ r.start.0) × (r.start.0 < r.end.0) × Ascends (suc r.end.0) rs

unfoldable pub in_ranges : List Range → ℕ → Bool
in_ranges [] k = false
in_ranges (r ∷ rs) k = in_range r k || in_ranges rs k

-- whether some write covers k
unfoldable pub is_covered : List SheetWrite → ℕ → Bool
is_covered [] k = false
is_covered (w ∷ ws) k = covers w k || is_covered ws k

-- ---- "in any order"

pub data Reordered : List SheetWrite → List SheetWrite → Type 0 where
  as_is : {xs : List SheetWrite} → Reordered xs xs
  keep : {x : SheetWrite} {xs ys : List SheetWrite} → Reordered xs ys → Reordered (x ∷ xs) (x ∷ ys)
  swap : {x y : SheetWrite} {xs : List SheetWrite} → Reordered (x ∷ y ∷ xs) (y ∷ x ∷ xs)
  both : {xs ys zs : List SheetWrite} → Reordered xs ys → Reordered ys zs → Reordered xs zs

-- ---- the statements

-- of a sheet that is not refused with 220
pub record Ranged (ws : List SheetWrite) : Type 0 where
  -- "ascending ranges with a gap between any two"
  pub ascending : Ascends 0 (ranges_of ws)
  -- exactly the bytes that some write covers; no other such ranges have them
  pub covered : (k : ℕ) → in_ranges (ranges_of ws) k ≡ is_covered ws k
  pub only : (rs : List Range) → Ascends 0 rs → ((k : ℕ) → in_ranges rs k ≡ is_covered ws k) → rs ≡ ranges_of ws
  -- at most as many as there are writes; their bytes are fewer than 2^64
  pub few : length (ranges_of ws) ≤ length ws
  pub small : total_of (ranges_of ws) < 2 ^ 64

abbrev pub EverySheet : Type 0
EverySheet = (n : ℕ) (ws : List SheetWrite) → sheet_fits n ws ≡ true → Ranged ws

-- of a call that is not refused: the joined writes take their bytes from the output as the call left it
abbrev pub EveryTrip : Type 0
EveryTrip =
    (ws : List SheetWrite) (memory output words : List ℕ) (size : Size) → (join_of ws memory output words).answer ≡ Ok size
    → (s : Bytes) (js : List SheetWrite) → Reordered js (joined_of ws)
    → (k : ℕ) → in_order (join_of ws memory output words).output s js k ≡ in_order memory s ws k

-- "where two cover a byte the later one wins", of the content that the originals give
abbrev pub LaterWins : Type 0
LaterWins =
    (memory : List ℕ) (s : Bytes) (us : List SheetWrite) (w : SheetWrite) (vs : List SheetWrite) (k : ℕ)
    → covers w k ≡ true → is_covered vs k ≡ false
    → in_order memory s (us ++ w ∷ vs) k ≡ laid_at w.offset.0 (bytes_of memory w) k

-- what the call leaves as it was of the output and of the words: what is behind the front, and all of it where it is refused
pub record Fronts (ws : List SheetWrite) (memory output words : List ℕ) : Type 0 where
  pub output_long : length (join_of ws memory output words).output ≡ length output
  pub output_rest : (i : ℕ) → total_of (ranges_of ws) ≤ i → get_or (join_of ws memory output words).output i 0 ≡ get_or output i 0
  pub words_rest : (i : ℕ) → 3 * length (ranges_of ws) ≤ i
      → get_or (join_of ws memory output words).joined i 0 ≡ get_or words i 0
  pub all_left : (r : Refusal) → (join_of ws memory output words).answer ≡ Err r
      → ((join_of ws memory output words).output ≡ output) × ((join_of ws memory output words).joined ≡ words)
