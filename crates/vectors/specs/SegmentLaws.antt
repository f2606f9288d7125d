-- Laws of lists of segments: sizes, what fits, and that the vector of a list that fits is valid and has that list. Assumes nothing.
use Rattle.std.specs.Prelude.{◌≡◌, Bool, true, ◌&&◌, ltb, leb, eqb, length, take, drop, get_or, replicate}
use Rattle.std.proofs.Math.Path.{refl, ap}
use Rattle.std.proofs.Common.{sym, ◌∙◌, not-suc-le-zero, le_of_suc-le-suc, add-one, arith, take-append-drop, drop-cons, ltb-true}
use Rattle.std.proofs.Common.{leb-true, eqb-true, lt-ltb, le-leb, eq-eqb}
use Rattle.std.proofs.Math.Bool.{and_assoc}
use mathlib.Core.List.{List, [], ◌∷◌, ◌++◌}
use Prim.Native.Nat.{ℕ, zero, suc, ◌+◌, ◌-◌, ◌≤◌, ◌<◌}
use Rattle.std.proofs.Math.Seq.{take-append_seam}
use Rattle.arithmetic.specs.SettingsLaws.{and_left, and_right, both}
use Rattle.vectors.specs.declared.vector.Segment.{Segment}
use Rattle.vectors.specs.declared.vector.IoVector.{IoVector}
use Rattle.vectors.specs.Vectors.{none, segments_of, size_of, lies_in, all_segments, segments_fit, vector_of, is_valid}

-- ---- lists

pub size_append : (ps qs : List Segment) → size_of (ps ++ qs) ≡ size_of ps + size_of qs
unfolding size_of
size_append [] qs = omega arith
size_append (p ∷ ps) qs = omega (arith, size_append ps qs)

-- a list and its two parts
pub size_cut : (i : ℕ) (ps : List Segment) → size_of (take i ps) + size_of (drop i ps) ≡ size_of ps
size_cut i ps = sym (size_append (take i ps) (drop i ps)) ∙ ap size_of (take-append-drop i ps)

module _ (test : Segment → Bool) where
  pub all_append : (ps qs : List Segment) → all_segments test (ps ++ qs) ≡ (all_segments test ps && all_segments test qs)
  unfolding all_segments
  all_append [] qs = refl
  all_append (p ∷ ps) qs = rw (all_append ps qs) (sym (and_assoc (test p) (all_segments test ps) (all_segments test qs)))

  pub all_cut : (i : ℕ) (ps : List Segment) → (all_segments test (take i ps) && all_segments test (drop i ps)) ≡ all_segments test ps
  all_cut i ps = sym (all_append (take i ps) (drop i ps)) ∙ ap (all_segments test) (take-append-drop i ps)

  pub all_at : (ps : List Segment) (i : ℕ) (d : Segment) → i < length ps → all_segments test ps ≡ true → test (get_or ps i d) ≡ true
  unfolding all_segments
  all_at [] i d h e = absurd (not-suc-le-zero h)
  all_at (p ∷ ps) zero d h e = and_left (test p) (all_segments test ps) e
  all_at (p ∷ ps) (suc i) d h e = all_at ps i d (le_of_suc-le-suc h) (and_right (test p) (all_segments test ps) e)

module _ (ps : List Segment) (i : ℕ) (d : Segment) (h : i < length ps) where
  -- the segments from i on are the one at i and those from i + 1 on
  pub from_at : drop i ps ≡ get_or ps i d ∷ drop (i + 1) ps
  from_at = rw add-one (drop-cons ps i d h)

  pub size_at : size_of (drop i ps) ≡ (get_or ps i d).length + size_of (drop (i + 1) ps)
  unfolding size_of
  size_at = ap size_of from_at

-- ---- what fits

-- a segment that is not empty and ends at or before n
pub record Lies (n : ℕ) (p : Segment) : Type 0 where
  pub positive : 0 < p.length
  pub ends : p.start + p.length ≤ n

pub lies : (n : ℕ) (p : Segment) → lies_in n p ≡ true → Lies n p
unfolding lies_in
lies n p e = record {
  positive = ltb-true _ _ (and_left (ltb 0 p.length) (leb (p.start + p.length) n) e);
  ends = leb-true _ _ (and_right (ltb 0 p.length) (leb (p.start + p.length) n) e);
}

pub lies_true : (n : ℕ) (p : Segment) → Lies n p → lies_in n p ≡ true
unfolding lies_in
lies_true n p l = both _ _ (lt-ltb _ _ l.positive) (le-leb _ _ l.ends)

pub record Fit (n : ℕ) (ps : List Segment) : Type 0 where
  pub few : length ps ≤ 16
  pub lie : all_segments (lies_in n) ps ≡ true
  pub small : size_of ps ≤ 1048576

pub fit : (n : ℕ) (ps : List Segment) → segments_fit n ps ≡ true → Fit n ps
unfolding segments_fit
fit n ps e =
    let r = and_right (leb (length ps) 16) (all_segments (lies_in n) ps && leb (size_of ps) 1048576) e in
    record {
      few = leb-true _ _ (and_left (leb (length ps) 16) (all_segments (lies_in n) ps && leb (size_of ps) 1048576) e);
      lie = and_left (all_segments (lies_in n) ps) (leb (size_of ps) 1048576) r;
      small = leb-true _ _ (and_right (all_segments (lies_in n) ps) (leb (size_of ps) 1048576) r);
    }

pub fit_true : (n : ℕ) (ps : List Segment) → Fit n ps → segments_fit n ps ≡ true
unfolding segments_fit
fit_true n ps f = both _ _ (le-leb _ _ f.few) (both _ _ f.lie (le-leb _ _ f.small))

pub record Valid (n : ℕ) (v : IoVector) : Type 0 where
  pub few : v.count ≤ 16
  pub fit : Fit n (segments_of v)
  pub total : v.total ≡ size_of (segments_of v)

pub valid : (n : ℕ) (v : IoVector) → is_valid n v ≡ true → Valid n v
unfolding is_valid
valid n v e =
    let s = segments_fit n (segments_of v) in
    let t = eqb v.total (size_of (segments_of v)) in
    let r = and_right (leb v.count 16) (s && t) e in
    record {
      few = leb-true _ _ (and_left (leb v.count 16) (s && t) e);
      fit = fit n (segments_of v) (and_left s t r);
      total = eqb-true _ _ (and_right s t r);
    }

pub valid_true : (n : ℕ) (v : IoVector) → Valid n v → is_valid n v ≡ true
unfolding is_valid
valid_true n v w = both _ _ (le-leb _ _ w.few) (both _ _ (fit_true n (segments_of v) w.fit) (eq-eqb _ _ w.total))

-- ---- the vector of a list

pub segments_of_lem : (ps : List Segment) → segments_of (vector_of ps) ≡ ps
unfolding vector_of
segments_of_lem ps = take-append_seam ps (replicate (16 - length ps) none)

pub vector_valid : (n : ℕ) (ps : List Segment) → segments_fit n ps ≡ true → is_valid n (vector_of ps) ≡ true
unfolding vector_of
vector_valid n ps e =
    let f = fit n ps e in
    let s = segments_of_lem ps in
    valid_true n (vector_of ps) (record { few = f.few; fit = rw s f; total = rw s })
