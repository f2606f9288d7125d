-- What the call answers and leaves, test by test: whether there is room, by the lengths of the writes or by their joined ranges. Assumes
-- nothing.
use mathlib.Core.Path.{◌≡◌, refl, sym, ap, ◌∙◌}
use mathlib.Core.Bool.{Bool, true, false}
use mathlib.Core.List.{List}
use Rattle.std.specs.Prelude.{Ok, Err}
use Prim.Native.Nat.{ℕ, ◌+◌, ◌-◌, ◌<◌, ◌≤◌}
use native.Mathlib.Decide.{dec_lt}
use native.Mathlib.Numerals.{add-one}
use native.Mathlib.Omega.{arith}
use lib.Dec.{leb}
use lib.ListN.{length, drop, get_or, drop_of_length-le}
use lib.Seq.{drop-cons}
use borrow.Author.Tests.{le-leb, lt-leb, leb-true, leb-false}
use Rattle.arithmetic.specs.declared.refusals.Refusal.TheVariants.{Output as NoRoom, Sheet as BadSheet}
use Rattle.sheets.specs.Sheets.{no_write, sheet_fits, ranges_of, total_of, join_of, JoinsAs}
use Rattle.sheets.specs.Stretches.{lengths_of, PacksAs}
use Rattle.sheets.specs.SheetLaws.{ranges_most}
use Rattle.sheets.specs.declared.sheet.SheetWrite.{SheetWrite}
use Rattle.sheets.specs.declared.joining.Size.{Size}

module _ (ws : List SheetWrite) (memory output words : List ℕ) where
  pub joins_unfit : sheet_fits (length memory) ws ≡ false → JoinsAs (join_of ws memory output words) (Err BadSheet) output words
  unfolding join_of
  joins_unfit f = rw f (refl, refl, refl)

  -- by the sheet of these writes and this data
  module _ (vs : List SheetWrite) (lent : List ℕ) (e : vs ≡ ws) (m : lent ≡ memory) (f : sheet_fits (length lent) vs ≡ true) where
    pub joins_no_room : false ≡ leb (total_of (ranges_of vs)) (length output) → JoinsAs (join_of ws memory output words) (Err NoRoom) output words
    unfolding join_of
    joins_no_room q = rw (← e, ← m, f, ← q) (refl, refl, refl)

    pub joins_all : true ≡ leb (total_of (ranges_of vs)) (length output) → (size : Size) (out w : List ℕ)
        → PacksAs vs lent size output words out w → JoinsAs (join_of ws memory output words) (Ok size) out w
    unfolding join_of
    joins_all q size out w p = rw (← e, ← m, f, ← q) (ap (λ (z : Size). Ok z) p.0, p.1, p.2)

-- room for all writes is room for what they are joined to
pub room_for_all : (n : ℕ) (ws : List SheetWrite) (room : ℕ) → sheet_fits n ws ≡ true → leb (lengths_of ws) room ≡ true
    → leb (total_of (ranges_of ws)) room ≡ true
room_for_all n ws room f h = le-leb (total_of (ranges_of ws)) room (omega (arith, leb-true (lengths_of ws) room h, ranges_most n ws f))

-- ---- the lengths of the first i writes taken off

pub record Left (ws : List SheetWrite) (room left i : ℕ) : Type 0 where
  pub most : i ≤ length ws
  pub rest : leb (lengths_of ws) room ≡ leb (lengths_of (drop i ws)) left

pub left_none : (ws : List SheetWrite) (room : ℕ) → Left ws room room 0
left_none ws room = record { most = omega arith; rest = refl }

leb_same : (a b c d : ℕ) → (a ≤ b → c ≤ d) → (c ≤ d → a ≤ b) → leb a b ≡ leb c d
leb_same a b c d f g = go (leb a b) refl
  where
    go : (x : Bool) → leb a b ≡ x → x ≡ leb c d
    go true p = sym (le-leb c d (f (leb-true a b p)))
    go false p = elim (dec_lt d c) [
      | yes l ↦ sym (lt-leb c d l)
      | no l ↦ absurd (let h = leb-false a b p in omega (arith, h, g (omega arith)))
    ]

module _ {ws : List SheetWrite} {room left i : ℕ} (s : Left ws room left i) where
  pub left_all : length ws ≤ i → leb (lengths_of ws) room ≡ true
  unfolding lengths_of
  left_all h = s.rest ∙ rw (drop_of_length-le ws {i = i} h) (le-leb 0 left (omega arith))

  module _ (h : i < length ws) (w : SheetWrite) (e : w ≡ get_or ws i no_write) where
    next_length : lengths_of (drop i ws) ≡ w.length + lengths_of (drop (i + 1) ws)
    unfolding lengths_of
    next_length = rw (drop-cons ws i no_write h, add-one, e)

    pub left_over : left < w.length → leb (lengths_of ws) room ≡ false
    left_over l = s.rest ∙ lt-leb (lengths_of (drop i ws)) left (omega (arith, next_length, l))

    pub left_more : w.length ≤ left → Left ws room (left - w.length) (i + 1)
    left_more l = record {
      most = omega (arith, h);
      rest = s.rest
          ∙ leb_same (lengths_of (drop i ws)) left (lengths_of (drop (i + 1) ws)) (left - w.length)
          (λ a. omega (arith, next_length, a, l)) (λ a. omega (arith, next_length, a, l));
    }
