-- The searches that test segments: overlap and alignment. Assumes nothing.
use Rattle.std.specs.Prelude.{◌≡◌, refl, Bool, true, false, List, [], ◌∷◌, ℕ, zero, suc, ◌+◌, ◌-◌, ◌<◌, length, drop, get_or}
use Rattle.std.specs.Bool.{MatchBool}
use Rattle.std.specs.List.{range_with_len, HoldsAt, AllWithin}
use Rattle.std.proofs.Common.{sym, ap, ◌∙◌, subst, add-one, zero-add, arith, length-take, length-drop, get_or-take, get_or-drop}
use Rattle.std.proofs.Math.Bool.{or-true, and-false}
use Rattle.std.proofs.lemmas.List.FromFn.{length-range_with_len, get_or-range_with_len}
use Rattle.vectors.specs.declared.vector.Segment.{Segment}
use Rattle.vectors.specs.declared.vector.IoVector.{IoVector}
use Rattle.vectors.specs.Vectors.{none, segments_of, all_segments, any_segment, shares, overlap_of, self_overlap_of, is_aligned_at, lies_aligned}
use Rattle.vectors.specs.OverlapLaws.{any_here}
use Rattle.vectors.proofs.Pass.{nth}

-- ---- a test of the segments by their places

module _ (test : Segment → Bool) where
  any_none : (ps : List Segment) → ((i : ℕ) → i < length ps → test (get_or ps i none) ≡ false) → any_segment test ps ≡ false
  unfolding any_segment
  any_none [] f = refl
  any_none (p ∷ ps) f = rw (f 0 (omega arith), any_none ps (λ i h. f (suc i) (omega arith)))

  all_here : (ps : List Segment) → ((i : ℕ) → i < length ps → test (get_or ps i none) ≡ true) → all_segments test ps ≡ true
  unfolding all_segments
  all_here [] f = refl
  all_here (p ∷ ps) f = rw (f 0 (omega arith), all_here ps (λ i h. f (suc i) (omega arith)))

  all_not : (ps : List Segment) (i : ℕ) → i < length ps → test (get_or ps i none) ≡ false → all_segments test ps ≡ false
  unfolding all_segments
  all_not [] i h e = absurd (omega arith)
  all_not (p ∷ ps) zero h e = rw e
  all_not (p ∷ ps) (suc i) h e = rw (all_not ps i (omega arith) e, and-false)

-- whether a segment shares an index with one behind it
abbrev pub shares_later : List Segment → ℕ → Bool
shares_later ps i = any_segment (shares (get_or ps i none)) (drop (suc i) ps)

self_here : (ps : List Segment) (i : ℕ) → i < length ps → shares_later ps i ≡ true → self_overlap_of ps ≡ true
unfolding self_overlap_of
self_here [] i h e = absurd (omega arith)
self_here (p ∷ ps) zero h e = rw e
self_here (p ∷ ps) (suc i) h e = rw (self_here ps i (omega arith) e) (or-true (any_segment (shares p) ps))

self_none : (ps : List Segment) → ((i : ℕ) → i < length ps → shares_later ps i ≡ false) → self_overlap_of ps ≡ false
unfolding self_overlap_of
self_none [] f = refl
self_none (p ∷ ps) f = rw (f 0 (omega arith), self_none ps (λ i h. f (suc i) (omega arith)))

-- ---- a search through the numbers a, .., n - 1, as the iterator's laws tell it

abbrev numbers : ℕ → ℕ → List ℕ
numbers a n = range_with_len a (n - a)

-- one of them passes, or none does
abbrev pub Sought : ℕ → ℕ → (ℕ → Bool) → Bool → Type 0
Sought a n test r =
    MatchBool r ((k : ℕ) × (k < length (numbers a n)) × HoldsAt (λ i. test i ≡ true) (numbers a n) k) (AllWithin (λ i. test i ≡ false) (numbers a n) 0 (length (numbers a n)))

-- all of them pass, or one does not
abbrev pub Passed : ℕ → ℕ → (ℕ → Bool) → Bool → Type 0
Passed a n test r =
    MatchBool r (AllWithin (λ i. test i ≡ true) (numbers a n) 0 (length (numbers a n))) ((k : ℕ) × (k < length (numbers a n)) × HoldsAt (λ i. test i ≡ false) (numbers a n) k)

module _ (a n : ℕ) (test : ℕ → Bool) (b : Bool) (k i : ℕ) (here : a + k ≡ i) where
  place_is : i < n → get_or (numbers a n) k 0 ≡ i
  place_is h = get_or-range_with_len a (n - a) k 0 (omega arith) ∙ here

  -- the number at a place, and the place of a number
  at_place : k < length (numbers a n) → HoldsAt (λ j. test j ≡ b) (numbers a n) k → (i < n) × (test i ≡ b)
  at_place h e = let l : i < n = omega (arith, length-range_with_len a (n - a)) in (l, subst (λ j. test j ≡ b) (place_is l) (e 0))

  at_number : AllWithin (λ j. test j ≡ b) (numbers a n) 0 (length (numbers a n)) → i < n → test i ≡ b
  at_number e h = subst (λ j. test j ≡ b) (place_is h) (e k 0 (omega arith) (omega (arith, length-range_with_len a (n - a))))

-- ---- what a search through the segments in use finds

module _ (v : IoVector) (n : ℕ) (long : n ≡ length (segments_of v)) where
  nth_is : (i : ℕ) → i < n → nth v i ≡ get_or (segments_of v) i none
  nth_is i h = sym (get_or-take v.count v.segments i none (omega (arith, long, length-take v.count v.segments)))

  module _ (test : Segment → Bool) where
    behind : (a k : ℕ) → a + k < n → test (get_or (drop a (segments_of v)) k none) ≡ test (nth v (a + k))
    behind a k h = ap test (get_or-drop a (segments_of v) k none ∙ sym (nth_is (a + k) h))

    pub any_from : (a : ℕ) (r : Bool) → Sought a n (λ i. test (nth v i)) r → r ≡ any_segment test (drop a (segments_of v))
    any_from a true e =
        let k = at_place a n (λ i. test (nth v i)) true e.0 (a + e.0) refl e.1 e.2 in
        sym (any_here test (drop a (segments_of v)) none e.0 (omega (arith, k.0, long, length-drop a (segments_of v))) (behind a e.0 k.0 ∙ k.1))
    any_from a false e =
        sym (any_none test (drop a (segments_of v)) (λ k h.
        let l : a + k < n = omega (arith, long, length-drop a (segments_of v)) in
        behind a k l ∙ at_number a n (λ i. test (nth v i)) false k (a + k) refl e l))

    pub all_from : (r : Bool) → Passed 0 n (λ i. test (nth v i)) r → r ≡ all_segments test (segments_of v)
    all_from true e = sym (all_here test (segments_of v) (λ i h.
        let l : i < n = omega (arith, long) in
        ap test (sym (nth_is i l)) ∙ at_number 0 n (λ j. test (nth v j)) true i i (zero-add i) e l))
    all_from false e =
        let k = at_place 0 n (λ j. test (nth v j)) false e.0 e.0 (zero-add e.0) e.1 e.2 in
        sym (all_not test (segments_of v) e.0 (omega (arith, k.0, long)) (ap test (sym (nth_is e.0 k.0)) ∙ k.1))

  pub overlap_from : (qs : List Segment) (r : Bool) → Sought 0 n (λ i. any_segment (shares (nth v i)) qs) r → r ≡ overlap_of (segments_of v) qs
  unfolding overlap_of
  overlap_from qs r e = any_from (λ p. any_segment (shares p) qs) 0 r e

  later_is : (i : ℕ) → i < n → shares_later (segments_of v) i ≡ any_segment (shares (nth v i)) (drop (i + 1) (segments_of v))
  later_is i h = rw (nth_is i h, add-one i)

  pub self_from : (r : Bool) → Sought 0 n (λ i. any_segment (shares (nth v i)) (drop (i + 1) (segments_of v))) r → r ≡ self_overlap_of (segments_of v)
  self_from true e =
      let k = at_place 0 n (λ i. any_segment (shares (nth v i)) (drop (i + 1) (segments_of v))) true e.0 e.0 (zero-add e.0) e.1 e.2 in
      sym (self_here (segments_of v) e.0 (omega (arith, k.0, long)) (later_is e.0 k.0 ∙ k.1))
  self_from false e = sym (self_none (segments_of v) (λ i h.
      let l : i < n = omega (arith, long) in
      later_is i l ∙ at_number 0 n (λ j. any_segment (shares (nth v j)) (drop (j + 1) (segments_of v))) false i i (zero-add i) e l))

  pub lies_from : (address m l : ℕ) (r : Bool) → Passed 0 n (λ i. is_aligned_at address m l (nth v i)) r → r ≡ lies_aligned address m l (segments_of v)
  unfolding lies_aligned
  lies_from address m l r e = all_from (is_aligned_at address m l) r e
