-- Two lists of segments overlap exactly where an index lies in both; segments that do not are apart. Assumes nothing.
use Rattle.std.proofs.Math.Path.{◌≡◌}
use Rattle.std.specs.Prelude.{refl, Bool, true, false, ◌&&◌, ◌||◌, ◌⊎◌, ltb, leb, length, get_or}
use Rattle.std.proofs.Common.{sym, ◌∙◌, inl, inr, not-suc-le-zero, le_of_suc-le-suc, ltb-true, ltb-false, leb-true, lt-ltb, le-leb}
use Rattle.std.proofs.Math.Bool.{or-true}
use mathlib.Core.List.{List, [], ◌∷◌}
use Rattle.std.proofs.Math.Logic.{⊎_elim}
use Prim.Native.Nat.{ℕ, zero, suc, ◌+◌, ◌≤◌, ◌<◌, max, min}
use Rattle.std.proofs.Math.Decide.{dec_lt, dec_le}
use native.Mathlib.Omega.{arith}
use Rattle.arithmetic.specs.PowerLaws.{same_test}
use Rattle.arithmetic.specs.SettingsLaws.{and_left, and_right, both}
use Rattle.vectors.specs.declared.vector.Segment.{Segment}
use Rattle.vectors.specs.Vectors.{none, any_segment, shares, overlap_of, self_overlap_of}
use Rattle.vectors.specs.Places.{in_segment, covered}

-- ---- or

pub or_left : (a b : Bool) → (a || b) ≡ false → a ≡ false
or_left true b e = e
or_left false b e = refl

pub or_right : (a b : Bool) → (a || b) ≡ false → b ≡ false
or_right true b e = let z : ◌≡◌ {A = Bool} true false = e in cc
or_right false b e = e

pub or_cases : (a b : Bool) → (a || b) ≡ true → (a ≡ true) ⊎ (b ≡ true)
or_cases true b e = inl refl
or_cases false b e = inr e

-- ---- an index in a segment

pub inside : (k : ℕ) (p : Segment) → in_segment k p ≡ true → (p.start ≤ k) × (k < p.start + p.length)
unfolding in_segment
inside k p e = (
  leb-true _ _ (and_left (leb p.start k) (ltb k (p.start + p.length)) e),
  ltb-true _ _
      (and_right (leb p.start k) (ltb k (p.start + p.length)) e),
)

pub inside_true : (k : ℕ) (p : Segment) → p.start ≤ k → k < p.start + p.length → in_segment k p ≡ true
unfolding in_segment
inside_true k p a b = both _ _ (le-leb _ _ a) (lt-ltb _ _ b)

pub outside : (k : ℕ) (p : Segment) → in_segment k p ≡ false → (k < p.start) ⊎ (p.start + p.length ≤ k)
unfolding in_segment
outside k p e = elim (dec_lt k p.start) [
  | yes h ↦ inl h
  | no h ↦ inr (ltb-false _ _ (go (leb p.start k) (le-leb p.start k (omega arith)) e))
]
  where
    go : (a : Bool) → a ≡ true → (a && ltb k (p.start + p.length)) ≡ false → ltb k (p.start + p.length) ≡ false
    go a t f = rw t at f

-- ---- two segments

-- they share an index where one lies in both
pub shares_index : (p q : Segment) (k : ℕ) → in_segment k p ≡ true → in_segment k q ≡ true → shares p q ≡ true
unfolding shares
shares_index p q k a b =
    let h : max p.start q.start < min (p.start + p.length) (q.start + q.length) = omega (arith, inside k p a, inside k q b) in
    lt-ltb _ _ h

pub index_shared : (p q : Segment) → shares p q ≡ true → (k : ℕ) × (in_segment k p ≡ true) × (in_segment k q ≡ true)
unfolding shares
index_shared p q e =
    let h : max p.start q.start < min (p.start + p.length) (q.start + q.length) = ltb-true _ _ e in
    (max p.start q.start, inside_true _ p (omega arith) (omega arith), inside_true _ q (omega arith) (omega arith))

pub shares_sym : (p q : Segment) → shares p q ≡ shares q p
unfolding shares
shares_sym p q =
    let a : max p.start q.start ≡ max q.start p.start = omega arith in
    let b : min (p.start + p.length) (q.start + q.length) ≡ min (q.start + q.length) (p.start + p.length) = omega arith in
    rw (a, b)

-- one ends before the other starts
abbrev pub Apart : Segment → Segment → Type 0
Apart p q = (p.start + p.length ≤ q.start) ⊎ (q.start + q.length ≤ p.start)

pub apart : (p q : Segment) → 0 < p.length → 0 < q.length → shares p q ≡ false → Apart p q
unfolding shares
apart p q a b e =
    let h : min (p.start + p.length) (q.start + q.length) ≤ max p.start q.start = ltb-false _ _ e in
    elim (dec_le (p.start + p.length) q.start) [
      | yes l ↦ inl l
      | no l ↦ inr (omega arith)
    ]

-- ---- a test on a list

module _ (test : Segment → Bool) where
  pub any_found : (ps : List Segment) (d : Segment) → any_segment test ps ≡ true → (i : ℕ) × (i < length ps) × (test (get_or ps i d) ≡ true)
  unfolding any_segment
  any_found [] d e = absurd (let z : ◌≡◌ {A = ℕ} 0 1 = cc in omega arith)
  any_found (p ∷ ps) d e = ⊎_elim (λ a. (0, omega arith, a)) (λ b. let r = any_found ps d b in (suc r.0, omega (arith, r.1), r.2))
      (or_cases (test p) (any_segment test ps) e)

  pub any_here : (ps : List Segment) (d : Segment) (i : ℕ) → i < length ps → test (get_or ps i d) ≡ true → any_segment test ps ≡ true
  unfolding any_segment
  any_here [] d i h e = absurd (not-suc-le-zero h)
  any_here (p ∷ ps) d zero h e = rw e
  any_here (p ∷ ps) d (suc i) h e = rw (any_here ps d i (le_of_suc-le-suc h) e) (or-true (test p))

  pub any_not : (ps : List Segment) (d : Segment) (i : ℕ) → i < length ps → any_segment test ps ≡ false → test (get_or ps i d) ≡ false
  unfolding any_segment
  any_not [] d i h e = absurd (not-suc-le-zero h)
  any_not (p ∷ ps) d zero h e = or_left (test p) (any_segment test ps) e
  any_not (p ∷ ps) d (suc i) h e = any_not ps d i (le_of_suc-le-suc h) (or_right (test p) (any_segment test ps) e)

-- ---- two lists

-- an index in both makes them overlap
pub overlap_index : (ps qs : List Segment) (k : ℕ) → covered ps k ≡ true → covered qs k ≡ true → overlap_of ps qs ≡ true
unfolding overlap_of covered
overlap_index ps qs k a b =
    let x = any_found (in_segment k) ps none a in
    let y = any_found (in_segment k) qs none b in
    any_here (λ p. any_segment (shares p) qs) ps none x.0 x.1
    (any_here (shares (get_or ps x.0 none)) qs none y.0 y.1
    (shares_index (get_or ps x.0 none) (get_or qs y.0 none) k x.2 y.2))

-- and where they overlap there is one
pub index_overlap : (ps qs : List Segment) → overlap_of ps qs ≡ true → (k : ℕ) × (covered ps k ≡ true) × (covered qs k ≡ true)
unfolding overlap_of covered
index_overlap ps qs e =
    let x = any_found (λ p. any_segment (shares p) qs) ps none e in
    let y = any_found (shares (get_or ps x.0 none)) qs none x.2 in
    let k = index_shared (get_or ps x.0 none) (get_or qs y.0 none) y.2 in
    (k.0, any_here (in_segment k.0) ps none x.0 x.1 k.1, any_here (in_segment k.0) qs none y.0 y.1 k.2)

-- so an index in one of two lists that do not overlap lies off the other
pub overlap_off : (ps qs : List Segment) (k : ℕ) → overlap_of ps qs ≡ false → covered ps k ≡ true → covered qs k ≡ false
overlap_off ps qs k e a = go (covered qs k) refl
  where
    go : (t : Bool) → covered qs k ≡ t → covered qs k ≡ false
    go true b = let z : true ≡ false = sym (overlap_index ps qs k a b) ∙ e in cc
    go false b = b

pub overlap_sym : (ps qs : List Segment) → overlap_of ps qs ≡ overlap_of qs ps
overlap_sym ps qs = same_test (overlap_of ps qs) (overlap_of qs ps) (turn ps qs) (turn qs ps)
  where
    turn : (xs ys : List Segment) → overlap_of xs ys ≡ true → overlap_of ys xs ≡ true
    turn xs ys e = let k = index_overlap xs ys e in overlap_index ys xs k.0 k.2 k.1

-- ---- one list

-- of segments that do not overlap, none shares an index with a later one
pub self_apart : (ps : List Segment) (i j : ℕ) → self_overlap_of ps ≡ false → i < j → j < length ps
    → shares (get_or ps i none) (get_or ps j none) ≡ false
unfolding self_overlap_of
self_apart [] i j e h l = absurd (omega arith)
self_apart (p ∷ ps) i zero e h l = absurd (omega arith)
self_apart (p ∷ ps) zero (suc j) e h l = any_not (shares p) ps none j (le_of_suc-le-suc l)
    (or_left (any_segment (shares p) ps) (self_overlap_of ps) e)
self_apart (p ∷ ps) (suc i) (suc j) e h l = self_apart ps i j (or_right (any_segment (shares p) ps) (self_overlap_of ps) e) (omega arith)
    (le_of_suc-le-suc l)

-- and where two share one, they overlap
pub self_shared : (ps : List Segment) (i j : ℕ) → i < j → j < length ps → shares (get_or ps i none) (get_or ps j none) ≡ true
    → self_overlap_of ps ≡ true
unfolding self_overlap_of
self_shared [] i j h l e = absurd (omega arith)
self_shared (p ∷ ps) i zero h l e = absurd (omega arith)
self_shared (p ∷ ps) zero (suc j) h l e = rw (any_here (shares p) ps none j (le_of_suc-le-suc l) e)
self_shared (p ∷ ps) (suc i) (suc j) h l e = rw (self_shared ps i j (omega arith) (le_of_suc-le-suc l) e)
    (or-true (any_segment (shares p) ps))
