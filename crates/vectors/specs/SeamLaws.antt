-- Laws of segments glued at a seam, and of inserts: lengths, sizes, bytes, what lies in the data, what is aligned, and that no two
-- neighbours touch where none did. Assumes nothing.
use Rattle.std.specs.Prelude.{◌≡◌, Bool, ◌&&◌, not, ◌⊎◌, length, get_or, set}
use Rattle.std.proofs.Math.Path.{refl, sym, ap}
use Rattle.std.proofs.Common.{◌∙◌, inl, inr, eqb-true, eq-eqb}
use Rattle.std.proofs.Math.Bool.{true, false}
use Rattle.std.proofs.lemmas.Bool.{false≢true}
use mathlib.Core.List.{List, [], ◌∷◌, ◌++◌, append_assoc, append-nil}
use Rattle.std.proofs.Math.Logic.{⊎_elim}
use Prim.Native.Nat.{ℕ, zero, suc, ◌+◌, ◌≤◌, ◌%◌}
use native.Mathlib.Omega.{arith}
use Rattle.std.proofs.Math.Dec.{eqb}
use Rattle.std.proofs.Math.ListN.{take, drop}
use Rattle.arithmetic.specs.Rounding.{is_multiple}
use Rattle.arithmetic.specs.RoundingLaws.{multiple_add}
use Rattle.arithmetic.specs.Settings.{length_align}
use Rattle.arithmetic.specs.SettingsLaws.{and_left, and_right, both}
use Rattle.arithmetic.specs.declared.settings.Alignments.{Alignments}
use Rattle.vectors.specs.declared.vector.Segment.{Segment}
use Rattle.vectors.specs.Vectors.{segment, none, size_of, lies_in, all_segments, touches, seam, glued, inserted_at, bytes_of}
use Rattle.vectors.specs.Vectors.{all_aligned, is_aligned_of}
use Rattle.vectors.specs.Joining.{last_touches}
use Rattle.vectors.specs.Runs.{touches_first, none_touch}
use Rattle.vectors.specs.SegmentLaws.{lies, lies_true, size_cut, all_append}
use Rattle.vectors.specs.SplitLaws.{parts}

-- ---- one segment before a list: it is one with the first, which it touches, or stands before it

-- p and q, which touch, in one
abbrev pub joint : Segment → Segment → Segment
joint p q = segment p.start (p.length + q.length)

pub record Touching (p q : Segment) (qs : List Segment) : Type 0 where
  pub touching : touches p q ≡ true
  pub ends : p.start + p.length ≡ q.start
  pub is : seam p (q ∷ qs) ≡ joint p q ∷ qs

pub record NotTouching (p q : Segment) (qs : List Segment) : Type 0 where
  pub not_touching : touches p q ≡ false
  pub is : seam p (q ∷ qs) ≡ p ∷ (q ∷ qs)

pub seam_cases : (p q : Segment) (qs : List Segment) → Touching p q qs ⊎ NotTouching p q qs
unfolding seam touches
seam_cases p q qs = go (touches p q) refl
  where
    go : (t : Bool) → touches p q ≡ t → Touching p q qs ⊎ NotTouching p q qs
    go true e = inl (record { touching = e; ends = eqb-true _ _ e; is = rw e })
    go false e = inr (record { not_touching = e; is = rw e })

seam_size : (p : Segment) (qs : List Segment) → size_of (seam p qs) ≡ p.length + size_of qs
unfolding size_of seam
seam_size p [] = refl
seam_size p (q ∷ qs) = ⊎_elim (λ t. rw t.is (omega arith)) (λ a. rw a.is) (seam_cases p q qs)

-- the bytes of p, and then those of the list
seam_bytes : (d : List ℕ) (p : Segment) (qs : List Segment) → bytes_of d (seam p qs) ≡ take p.length (drop p.start d) ++ bytes_of d qs
unfolding bytes_of seam
seam_bytes d p [] = refl
seam_bytes d p (q ∷ qs) = ⊎_elim touching (λ a. rw a.is) (seam_cases p q qs)
  where
    touching : Touching p q qs → bytes_of d (seam p (q ∷ qs)) ≡ take p.length (drop p.start d) ++ bytes_of d (q ∷ qs)
    touching t =
        let a = take p.length (drop p.start d) in
        let b = take q.length (drop q.start d) in
        let e : take (p.length + q.length) (drop p.start d) ≡ a ++ b =
        sym (parts d p.start p.length q.length) ∙ ap (λ (s : ℕ). a ++ take q.length (drop s d)) t.ends in
        rw t.is (ap (λ (l : List ℕ). l ++ bytes_of d qs) e ∙ append_assoc a b (bytes_of d qs))

seam_lies : (n : ℕ) (p : Segment) (qs : List Segment) → lies_in n p ≡ true → all_segments (lies_in n) qs ≡ true
    → all_segments (lies_in n) (seam p qs) ≡ true
unfolding all_segments seam
seam_lies n p [] e f = both _ _ e f
seam_lies n p (q ∷ qs) e f = ⊎_elim touching (λ a. rw a.is (both _ _ e f)) (seam_cases p q qs)
  where
    touching : Touching p q qs → all_segments (lies_in n) (seam p (q ∷ qs)) ≡ true
    touching t =
        let k = lies n p e in
        let l = lies n q (and_left (lies_in n q) (all_segments (lies_in n) qs) f) in
        rw t.is (both _ _
        (lies_true n (joint p q) (record { positive = omega (arith, k.positive); ends = omega (arith, t.ends, l.ends) }))
        (and_right (lies_in n q) (all_segments (lies_in n) qs) f))

-- a segment before it touches its first where it touches p
seam_first : (r p : Segment) (qs : List Segment) → touches_first r (seam p qs) ≡ touches r p
unfolding touches_first seam touches
seam_first r p [] = refl
seam_first r p (q ∷ qs) = ⊎_elim (λ t. rw t.is) (λ a. rw a.is) (seam_cases p q qs)

-- segments that end at one place touch the same
pub same_end : (p q : Segment) (qs : List Segment) → p.start + p.length ≡ q.start + q.length → touches_first p qs ≡ touches_first q qs
unfolding touches_first touches
same_end p q [] e = refl
same_end p q (r ∷ qs) e = ap (λ (x : ℕ). eqb x r.start) e

seam_none_touch : (p : Segment) (qs : List Segment) → none_touch qs ≡ true → none_touch (seam p qs) ≡ true
unfolding none_touch seam touches_first
seam_none_touch p [] e = refl
seam_none_touch p (q ∷ qs) e = ⊎_elim touching (λ a. rw a.is (rw a.not_touching e)) (seam_cases p q qs)
  where
    touching : Touching p q qs → none_touch (seam p (q ∷ qs)) ≡ true
    touching t = rw t.is (rw (same_end (joint p q) q qs (omega (arith, t.ends))) e)

-- ---- two lists

module _ (qs : List Segment) where
  pub glued_size : (ps : List Segment) → size_of (glued ps qs) ≡ size_of ps + size_of qs
  unfolding size_of glued
  glued_size [] = omega arith
  glued_size (p ∷ []) = omega (arith, seam_size p qs)
  glued_size (p ∷ (r ∷ ps)) = omega (arith, glued_size (r ∷ ps))

  -- the bytes of the two, joined in order
  pub glued_bytes : (d : List ℕ) (ps : List Segment) → bytes_of d (glued ps qs) ≡ bytes_of d ps ++ bytes_of d qs
  unfolding bytes_of glued
  glued_bytes d [] = refl
  glued_bytes d (p ∷ []) =
      seam_bytes d p qs ∙ ap (λ (l : List ℕ). l ++ bytes_of d qs) (sym (append-nil (take p.length (drop p.start d))))
  glued_bytes d (p ∷ (r ∷ ps)) =
      ap (λ (l : List ℕ). take p.length (drop p.start d) ++ l) (glued_bytes d (r ∷ ps))
      ∙ sym (append_assoc (take p.length (drop p.start d)) (bytes_of d (r ∷ ps)) (bytes_of d qs))

  module _ (n : ℕ) (f : all_segments (lies_in n) qs ≡ true) where
    pub glued_lies : (ps : List Segment) → all_segments (lies_in n) ps ≡ true → all_segments (lies_in n) (glued ps qs) ≡ true
    unfolding all_segments glued
    glued_lies [] e = f
    glued_lies (p ∷ []) e = seam_lies n p qs (and_left (lies_in n p) true e) f
    glued_lies (p ∷ (r ∷ ps)) e =
        both _ _ (and_left (lies_in n p) (all_segments (lies_in n) (r ∷ ps)) e)
        (glued_lies (r ∷ ps) (and_right (lies_in n p) (all_segments (lies_in n) (r ∷ ps)) e))

  -- a segment before the whole touches its first where it touches the first list's
  glued_first : (p r : Segment) (ps : List Segment) → touches_first p (glued (r ∷ ps) qs) ≡ touches p r
  unfolding touches_first glued
  glued_first p r [] = seam_first p r qs
  glued_first p r (s ∷ ps) = refl

  pub glued_none_touch : (ps : List Segment) → none_touch ps ≡ true → none_touch qs ≡ true → none_touch (glued ps qs) ≡ true
  unfolding none_touch glued touches_first
  glued_none_touch [] e f = f
  glued_none_touch (p ∷ []) e f = seam_none_touch p qs f
  glued_none_touch (p ∷ (r ∷ ps)) e f =
      rw (glued_first p r ps) (both _ _ (and_left (not (touches p r)) (none_touch (r ∷ ps)) e)
      (glued_none_touch (r ∷ ps) (and_right (not (touches p r)) (none_touch (r ∷ ps)) e) f))

pub glued_nothing : (ps : List Segment) → glued ps [] ≡ ps
unfolding glued seam
glued_nothing [] = refl
glued_nothing (p ∷ []) = refl
glued_nothing (p ∷ (r ∷ ps)) = ap (λ (l : List Segment). p ∷ l) (glued_nothing (r ∷ ps))

-- ---- how the first of the second list is glued; the rest stays behind it

module _ (q : Segment) where
  pub glued_more : (ps qs : List Segment) → glued ps (q ∷ qs) ≡ glued ps (q ∷ []) ++ qs
  unfolding glued seam
  glued_more [] qs = refl
  glued_more (p ∷ []) qs = ⊎_elim (λ t. rw t.touching) (λ a. rw a.not_touching) (seam_cases p q qs)
  glued_more (p ∷ (r ∷ ps)) qs = ap (λ (l : List Segment). p ∷ l) (glued_more (r ∷ ps) qs)

  pub glued_apart : (ps : List Segment) → last_touches ps q ≡ false → glued ps (q ∷ []) ≡ ps ++ (q ∷ [])
  unfolding glued last_touches seam
  glued_apart [] e = refl
  glued_apart (p ∷ []) e = rw e
  glued_apart (p ∷ (r ∷ ps)) e = ap (λ (l : List Segment). p ∷ l) (glued_apart (r ∷ ps) e)

  -- with k segments before the last
  pub last_is : (ps : List Segment) (k : ℕ) → length ps ≡ suc k → last_touches ps q ≡ touches (get_or ps k none) q
  unfolding last_touches
  last_is [] k e = absurd (omega (arith, e))
  last_is (p ∷ []) zero e = refl
  last_is (p ∷ []) (suc k) e = absurd (omega (arith, e))
  last_is (p ∷ (r ∷ ps)) zero e = absurd (omega (arith, e))
  last_is (p ∷ (r ∷ ps)) (suc k) e = last_is (r ∷ ps) k (omega (arith, e))

  pub glued_last : (ps : List Segment) (k : ℕ) → length ps ≡ suc k → last_touches ps q ≡ true
      → glued ps (q ∷ []) ≡ set ps k (joint (get_or ps k none) q)
  unfolding last_touches glued seam
  glued_last [] k e f = absurd (omega (arith, e))
  glued_last (p ∷ []) zero e f = rw f
  glued_last (p ∷ []) (suc k) e f = absurd (omega (arith, e))
  glued_last (p ∷ (r ∷ ps)) zero e f = absurd (omega (arith, e))
  glued_last (p ∷ (r ∷ ps)) (suc k) e f = ap (λ (l : List Segment). p ∷ l) (glued_last (r ∷ ps) k (omega (arith, e)) f)

  pub glued_length : (ps : List Segment) → last_touches ps q ≡ true → length (glued ps (q ∷ [])) ≡ length ps
  unfolding last_touches glued seam
  glued_length [] e = absurd (false≢true e)
  glued_length (p ∷ []) e = rw e
  glued_length (p ∷ (r ∷ ps)) e = ap suc (glued_length (r ∷ ps) e)

-- ---- how many there are: not fewer than in the first list
pub glued_longer : (ps qs : List Segment) → length ps ≤ length (glued ps qs)
unfolding glued seam
glued_longer [] qs = omega arith
glued_longer (p ∷ []) [] = omega arith
glued_longer (p ∷ []) (q ∷ qs) = ⊎_elim (λ t. rw t.is (omega arith)) (λ a. rw a.is (omega arith)) (seam_cases p q qs)
glued_longer (p ∷ (r ∷ ps)) qs = omega (arith, glued_longer (r ∷ ps) qs)

-- and not more than in the two
pub glued_shorter : (ps qs : List Segment) → length (glued ps qs) ≤ length ps + length qs
unfolding glued seam
glued_shorter [] qs = omega arith
glued_shorter (p ∷ []) [] = omega arith
glued_shorter (p ∷ []) (q ∷ qs) = ⊎_elim (λ t. rw t.is (omega arith)) (λ a. rw a.is (omega arith)) (seam_cases p q qs)
glued_shorter (p ∷ (r ∷ ps)) qs = omega (arith, glued_shorter (r ∷ ps) qs)

-- ---- an insert

module _ (i : ℕ) (ps : List Segment) (p : Segment) where
  pub inserted_size : size_of (inserted_at i ps p) ≡ size_of ps + p.length
  unfolding inserted_at size_of
  inserted_size = omega (arith, glued_size (drop i ps) (glued (take i ps) (p ∷ [])), glued_size (p ∷ []) (take i ps), size_cut i ps)

  -- the bytes before the index, those of p, and the rest
  pub inserted_bytes : (d : List ℕ)
      → bytes_of d (inserted_at i ps p) ≡ bytes_of d (take i ps) ++ (bytes_of d (p ∷ []) ++ bytes_of d (drop i ps))
  unfolding inserted_at
  inserted_bytes d =
      glued_bytes (drop i ps) d (glued (take i ps) (p ∷ []))
      ∙ ap (λ (l : List ℕ). l ++ bytes_of d (drop i ps)) (glued_bytes (p ∷ []) d (take i ps))
      ∙ append_assoc (bytes_of d (take i ps)) (bytes_of d (p ∷ [])) (bytes_of d (drop i ps))

-- ---- alignment

module _ (address m l : ℕ) where
  seam_aligned : (p : Segment) (qs : List Segment) → all_aligned address m l (p ∷ qs) ≡ true → all_aligned address m l (seam p qs) ≡ true
  unfolding all_aligned all_segments seam is_multiple
  seam_aligned p [] e = e
  seam_aligned p (q ∷ qs) e = ⊎_elim touching (λ a. rw a.is e) (seam_cases p q qs)
    where
      touching : Touching p q qs → all_aligned address m l (seam p (q ∷ qs)) ≡ true
      touching t =
          let x = is_multiple (address + p.start) m && is_multiple p.length l in
          let y = is_multiple (address + q.start) m && is_multiple q.length l in
          let a = and_left x (all_aligned address m l (q ∷ qs)) e in
          let b = and_right x (all_aligned address m l (q ∷ qs)) e in
          let c = and_left y (all_aligned address m l qs) b in
          let n : (p.length + q.length) % l ≡ 0 =
          multiple_add p.length q.length l (eqb-true _ _ (and_right (is_multiple (address + p.start) m) (is_multiple p.length l) a))
          (eqb-true _ _ (and_right (is_multiple (address + q.start) m) (is_multiple q.length l) c)) in
          rw t.is (both _ _ (both _ _ (and_left (is_multiple (address + p.start) m) (is_multiple p.length l) a) (eq-eqb _ _ n))
          (and_right y (all_aligned address m l qs) b))

  glued_aligned : (ps qs : List Segment) → all_aligned address m l ps ≡ true → all_aligned address m l qs ≡ true
      → all_aligned address m l (glued ps qs) ≡ true
  unfolding all_aligned all_segments glued
  glued_aligned [] qs e f = f
  glued_aligned (p ∷ []) qs e f =
      seam_aligned p qs (both _ _ (and_left (is_multiple (address + p.start) m && is_multiple p.length l) true e) f)
  glued_aligned (p ∷ (r ∷ ps)) qs e f =
      let x = is_multiple (address + p.start) m && is_multiple p.length l in
      both _ _ (and_left x (all_aligned address m l (r ∷ ps)) e)
      (glued_aligned (r ∷ ps) qs (and_right x (all_aligned address m l (r ∷ ps)) e) f)

  -- the parts of an aligned list
  aligned_parts : (ps qs : List Segment) → all_aligned address m l (ps ++ qs) ≡ true
      → (all_aligned address m l ps ≡ true) × (all_aligned address m l qs ≡ true)
  unfolding all_aligned
  aligned_parts ps qs e =
      let f : (all_aligned address m l ps && all_aligned address m l qs) ≡ true =
      sym (all_append (λ (p : Segment). is_multiple (address + p.start) m && is_multiple p.length l) ps qs) ∙ e in
      let x = all_aligned address m l ps in
      let y = all_aligned address m l qs in
      (and_left x y f, and_right x y f)

  two_aligned : (ps qs : List Segment) → all_aligned address m l (ps ++ qs) ≡ true → all_aligned address m l (glued ps qs) ≡ true
  two_aligned ps qs e = let b = aligned_parts ps qs e in glued_aligned ps qs b.0 b.1

  three_aligned : (i : ℕ) (ps : List Segment) (p : Segment) → all_aligned address m l (take i ps ++ (p ∷ drop i ps)) ≡ true
      → all_aligned address m l (inserted_at i ps p) ≡ true
  unfolding inserted_at
  three_aligned i ps p e =
      let b = aligned_parts (take i ps) (p ∷ drop i ps) e in
      let c = aligned_parts (p ∷ []) (drop i ps) b.1 in
      glued_aligned (glued (take i ps) (p ∷ [])) (drop i ps) (glued_aligned (take i ps) (p ∷ []) b.0 c.0) c.1

-- segments that are aligned in order are aligned when joined: joining makes no vector unaligned
module _ (a : Alignments) (address : ℕ) where
  still_aligned : (ps qs : List Segment)
      → (all_aligned address a.mem (length_align a) ps ≡ true → all_aligned address a.mem (length_align a) qs ≡ true)
      → is_aligned_of a address ps ≡ true → is_aligned_of a address qs ≡ true
  unfolding is_aligned_of
  still_aligned ps qs f e = go (eqb a.mem 1 && eqb a.req 1) refl
    where
      go : (t : Bool) → (eqb a.mem 1 && eqb a.req 1) ≡ t → is_aligned_of a address qs ≡ true
      go true g = rw g
      go false g = rw g (f (rw g at e))

  pub glued_stays_aligned : (ps qs : List Segment) → is_aligned_of a address (ps ++ qs) ≡ true
      → is_aligned_of a address (glued ps qs) ≡ true
  glued_stays_aligned ps qs = still_aligned (ps ++ qs) (glued ps qs) (two_aligned address a.mem (length_align a) ps qs)

  pub inserted_stays_aligned : (i : ℕ) (ps : List Segment) (p : Segment) → is_aligned_of a address (take i ps ++ (p ∷ drop i ps)) ≡ true
      → is_aligned_of a address (inserted_at i ps p) ≡ true
  inserted_stays_aligned i ps p =
      still_aligned (take i ps ++ (p ∷ drop i ps)) (inserted_at i ps p) (three_aligned address a.mem (length_align a) i ps p)
