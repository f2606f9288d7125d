-- Laws of bytes in lists: windows of a store, shares of the scratch, and segments whose bytes stay. Assumes nothing.
use mathlib.Core.Path.{◌≡◌, sym, ap, ◌∙◌}
use mathlib.Core.Bool.{true}
use mathlib.Core.Logic.{◌⊎◌, inl, inr, ⊎_elim, ◌≢◌}
use mathlib.Core.List.{List}
use Prim.Native.Nat.{ℕ, suc, ◌+◌, ◌-◌, ◌*◌, ◌<◌, ◌≤◌}
use native.Mathlib.Omega.{arith}
use native.Mathlib.Decide.{dec_lt}
use native.Mathlib.Nat.{mul-le-mul_right}
use lib.ListN.{length, get_or}
use Rattle.arithmetic.specs.Content.{list_ext}
use Rattle.vectors.specs.Vectors.{size_of, lies_in, all_segments, put, bytes_of}
use Rattle.vectors.specs.Places.{covered, place_of}
use Rattle.vectors.specs.ByteLaws.{length_put, put_off, put_on, bytes_length, bytes_at_lem, place_covered}
use Rattle.vectors.specs.declared.vector.Segment.{Segment}

-- ---- shares

-- byte i of share q is none of l bytes from a on in share p
pub shares_apart : (n p q i a l : ℕ) → p ≢ q → i < n → a + l ≤ n → (q * n + i < p * n + a) ⊎ (p * n + a + l ≤ q * n + i)
shares_apart n p q i a l e h k = elim (dec_lt q p) [
  | yes b ↦ let c : suc q * n ≤ p * n = mul-le-mul_right n b in inl (omega (arith, c))
  | no b ↦ elim (dec_lt p q) [
    | yes c ↦ let d : suc p * n ≤ q * n = mul-le-mul_right n c in inr (omega (arith, d))
    | no c ↦ absurd (e (omega arith))
  ]
]

-- a share lies in the scratch
pub share_room : (n p m : ℕ) → p < 8 → 8 * n ≤ m → p * n + n ≤ m
share_room n p m h k = let l : suc p * n ≤ 8 * n = mul-le-mul_right n (omega arith) in omega (arith, l)

-- bytes into share p, from a on
module _ (scratch : List ℕ) (n p a : ℕ) (bs : List ℕ) (h : p < 8) (room : 8 * n ≤ length scratch) (fits : a + length bs ≤ n) where
  within : p * n + a + length bs ≤ length scratch
  within = omega (arith, share_room n p (length scratch) h room)

  pub share_put_length : length (put scratch (p * n + a) bs) ≡ length scratch
  share_put_length = length_put scratch (p * n + a) bs within

  pub share_put_other : (q i : ℕ) → p ≢ q → i < n → get_or (put scratch (p * n + a) bs) (q * n + i) 0 ≡ get_or scratch (q * n + i) 0
  share_put_other q i e k = put_off scratch (p * n + a) bs within (q * n + i) (shares_apart n p q i a (length bs) e k fits)

  pub share_put_off : (i : ℕ) → (i < a) ⊎ (a + length bs ≤ i) → get_or (put scratch (p * n + a) bs) (p * n + i) 0 ≡ get_or scratch (p * n + i) 0
  share_put_off i o = put_off scratch (p * n + a) bs within (p * n + i) (⊎_elim (λ k. inl (omega arith)) (λ k. inr (omega arith)) o)

  pub share_put_on : (i : ℕ) → i < length bs → get_or (put scratch (p * n + a) bs) (p * n + (a + i)) 0 ≡ get_or bs i 0
  share_put_on i k =
      let e : p * n + (a + i) - (p * n + a) ≡ i = omega arith in
      put_on scratch (p * n + a) bs within (p * n + (a + i)) (omega arith) (omega arith) ∙ ap (λ (j : ℕ). get_or bs j 0) e

-- ---- segments whose bytes are the same in two lists

pub bytes_agree : (d e : List ℕ) (ps : List Segment) → length d ≡ length e → all_segments (lies_in (length d)) ps ≡ true → ((k : ℕ) → covered ps k ≡ true → get_or d k 0 ≡ get_or e k 0) → bytes_of d ps ≡ bytes_of e ps
bytes_agree d e ps l a f =
    let b : all_segments (lies_in (length e)) ps ≡ true = rw l at a in
    let m = bytes_length d ps a in
    list_ext (bytes_of d ps) (bytes_of e ps) (m ∙ sym (bytes_length e ps b)) (λ i h.
    let k : i < size_of ps = omega (arith, m) in
    bytes_at_lem d ps i a k ∙ f (place_of ps i) (place_covered ps i k) ∙ sym (bytes_at_lem e ps i b k))
