-- What a store holds, by document 01 "a plain byte store": a byte for each offset. Bytes of a range that become new, and the bytes of a
-- window in order.
use Rattle.std.specs.Prelude.{◌≡◌, refl, Bool, true, false, ◌&&◌, List, [], ◌∷◌, ◌++◌, ℕ, zero, suc, ◌+◌, ◌-◌, ◌<◌, ◌≤◌, leb, length}
use Rattle.std.specs.Prelude.{get_or}
use Rattle.std.proofs.Common.{sym, ap, ◌∙◌, arith, lt-ltb, le-ltb, le-leb}
use Rattle.std.proofs.Math.Bool.{and-false}
use Rattle.std.proofs.lemmas.Bool.{lt-leb}
use Rattle.arithmetic.specs.Rounding.{pick}
use Rattle.arithmetic.specs.Padding.{within}
use Rattle.arithmetic.specs.declared.offsets.Range.{Range}

abbrev pub Bytes : Type 0
Bytes = ℕ → ℕ

abbrev pub in_range : Range → ℕ → Bool
in_range r x = within r.start.0 r.end.0 x

-- the store where bytes of the range have become new, at the offsets that a test names
unfoldable pub changed : Bytes → Range → (ℕ → Bool) → Bytes → Bytes
changed s r which new x = pick (in_range r x && which x) (new x) (s x)

-- the n bytes from o on
unfoldable pub window : Bytes → ℕ → ℕ → List ℕ
window s o zero = []
window s o (suc n) = s o ∷ window s (suc o) n

-- a list of bytes, laid on the store from o on
abbrev pub laid_at : ℕ → List ℕ → Bytes
laid_at o bs x = get_or bs (x - o) 0

-- ---- laws

pub in_range_lem : (r : Range) (y : ℕ) → r.start.0 ≤ y → y < r.end.0 → in_range r y ≡ true
in_range_lem r y h k = rw (le-leb r.start.0 y h, lt-ltb y r.end.0 k)

pub not_in_before : (r : Range) (y : ℕ) → y < r.start.0 → in_range r y ≡ false
not_in_before r y h = rw (lt-leb r.start.0 y h)

pub not_in_behind : (r : Range) (y : ℕ) → r.end.0 ≤ y → in_range r y ≡ false
not_in_behind r y h = rw (le-ltb y r.end.0 h) (and-false (leb r.start.0 y))

pub changed_off : (s : Bytes) (r : Range) (which : ℕ → Bool) (new : Bytes) (y : ℕ) → in_range r y ≡ false → changed s r which new y ≡ s y
unfolding changed
changed_off s r which new y e = rw e

-- two lists of the same length are equal where their elements are
pub list_ext : (l m : List ℕ) → length l ≡ length m → ((i : ℕ) → i < length l → get_or l i 0 ≡ get_or m i 0) → l ≡ m
list_ext [] [] e f = refl
list_ext [] (y ∷ m) e f = absurd (let z : 0 ≡ suc (length m) = e in omega arith)
list_ext (x ∷ l) [] e f = absurd (let z : suc (length l) ≡ 0 = e in omega arith)
list_ext (x ∷ l) (y ∷ m) e f =
    let h : length l ≡ length m = let z : suc (length l) ≡ suc (length m) = e in omega arith in
    let a : x ≡ y = f 0 (omega arith) in
    let b = list_ext l m h (λ i k. f (suc i) (omega arith)) in
    λ t. a t ∷ b t

pub window_length : (s : Bytes) (o n : ℕ) → length (window s o n) ≡ n
unfolding window
window_length s o zero = refl
window_length s o (suc n) = ap suc (window_length s (suc o) n)

pub window_at : (s : Bytes) (o n i : ℕ) → i < n → get_or (window s o n) i 0 ≡ s (o + i)
unfolding window
window_at s o zero i h = absurd (omega arith)
window_at s o (suc n) zero h = let e : o + 0 ≡ o = omega arith in ap s (sym e)
window_at s o (suc n) (suc i) h = let e : suc o + i ≡ o + suc i = omega arith in window_at s (suc o) n i (omega arith) ∙ ap s e

-- a window, and the one that follows it
pub window_more : (s : Bytes) (o m n : ℕ) → window s o (m + n) ≡ window s o m ++ window s (o + m) n
unfolding window
window_more s o zero n =
    let z : 0 + n ≡ n = omega arith in
    let e : o + 0 ≡ o = omega arith in
    rw (z, e)
window_more s o (suc m) n =
    let z : suc m + n ≡ suc (m + n) = omega arith in
    let e : suc o + m ≡ o + suc m = omega arith in
    rw (z, ← e) (ap (λ (l : List ℕ). s o ∷ l) (window_more s (suc o) m n))
