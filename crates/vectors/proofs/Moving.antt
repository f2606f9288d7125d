-- The passes that move bytes: what holds at segment i, after `a` bytes. Assumes nothing.
use mathlib.Core.Path.{◌≡◌, refl, sym, ap, ◌∙◌, subst}
use mathlib.Core.Bool.{true}
use mathlib.Core.List.{List, [], ◌∷◌, ◌++◌, append_assoc, append-nil}
use Prim.Native.Nat.{ℕ, ◌+◌, ◌-◌, ◌≤◌, ◌<◌}
use native.Mathlib.Omega.{arith}
use lib.Dec.{eqb}
use lib.ListN.{length, take, drop, get_or, replicate, length-drop, length-replicate}
use lib.Seq.{drop-drop, take_all, length-take-le}
use borrow.Author.Tests.{eqb-true}
use borrow.Rule.Slice.PartMut.{put_mid}
use Rattle.arithmetic.specs.SettingsLaws.{and_left, and_right}
use Rattle.vectors.specs.declared.vector.Segment.{Segment}
use Rattle.vectors.specs.declared.vector.IoVector.{IoVector}
use Rattle.vectors.specs.Vectors.{none, segments_of, size_of, lies_in, is_valid, put, bytes_of, scatter_of, fill_of, copies}
use Rattle.vectors.specs.SegmentLaws.{all_at, lies, Valid, valid}
use Rattle.vectors.specs.ByteLaws.{length_put, take_put}
use Rattle.vectors.proofs.Pass.{nth, in_use, same, first, size, none_left}

-- ---- a vector over data of n bytes

pub record Base (v : IoVector) (n : ℕ) : Type 0 where
  pub valid : Valid n v
  pub wide : length v.segments ≡ 16

module _ (v : IoVector) (n : ℕ) (b : Base v n) (i : ℕ) where
  past : v.count ≤ i → drop i (segments_of v) ≡ []
  past h = none_left v b.wide i (omega (arith, in_use v b.wide b.valid.few))

  module _ (h : i < v.count) where
    within : i < length (segments_of v)
    within = omega (arith, in_use v b.wide b.valid.few)

    below : i < 16
    below = omega (arith, b.valid.few)

    ends : (nth v i).start + (nth v i).length ≤ n
    ends =
        subst (λ (p : Segment). p.start + p.length ≤ n) (same v b.wide i within)
        (lies n (get_or (segments_of v) i none) (all_at (lies_in n) (segments_of v) i none within b.valid.fit.lie)).ends

    at_first : drop i (segments_of v) ≡ nth v i ∷ drop (i + 1) (segments_of v)
    at_first = first v b.wide i within

    at_size : size_of (drop i (segments_of v)) ≡ (nth v i).length + size_of (drop (i + 1) (segments_of v))
    at_size = size v b.wide i within

-- ---- gather

pub record Gathered (v : IoVector) (d s : List ℕ) (a i : ℕ) : Type 0 where
  pub base : Base v (length d)
  pub long : length s ≡ v.total
  pub left : a + size_of (drop i (segments_of v)) ≡ v.total
  pub done : take a s ++ bytes_of d (drop i (segments_of v)) ≡ bytes_of d (segments_of v)

module _ (v : IoVector) (d s : List ℕ) (a i : ℕ) (g : Gathered v d s a i) where
  pub gather_end : v.count ≤ i → s ≡ bytes_of d (segments_of v)
  unfolding size_of bytes_of
  gather_end h =
      let e = past v (length d) g.base i h in
      let l : a + 0 ≡ v.total = rw e at g.left in
      sym (take_all a s (omega (arith, g.long))) ∙ sym (append-nil (take a s)) ∙ (rw e at g.done)

  module _ (h : i < v.count) where
    abbrev Y : List ℕ
    Y = take (nth v i).length (drop (nth v i).start d)

    pub gather_fits : ((nth v i).start + (nth v i).length ≤ length d) × (a + (nth v i).length ≤ length s) × (length s ≤ 1048576) × (i < 16)
    gather_fits =
        (ends v (length d) g.base i h, omega (arith, g.long, g.left, at_size v (length d) g.base i h), omega (arith, g.long, g.base.valid.total, g.base.valid.fit.small), below v (length d) g.base i h)

    len : length Y ≡ (nth v i).length
    len = length-take-le (nth v i).length (drop (nth v i).start d) (simp length-drop (omega (arith, gather_fits.0)))

    pub gather_step : Gathered v d (put s a Y) (a + (nth v i).length) (i + 1)
    unfolding bytes_of
    gather_step =
        let f : a + length Y ≤ length s = omega (arith, len, gather_fits.1) in
        let t : take (a + (nth v i).length) (put s a Y) ≡ take a s ++ Y = rw len at (take_put s a Y f) in
        record {
          base = g.base;
          long = length_put s a Y f ∙ g.long;
          left = omega (arith, g.left, at_size v (length d) g.base i h);
          done = rw t (append_assoc (take a s) Y (bytes_of d (drop (i + 1) (segments_of v))) ∙ (rw (at_first v (length d) g.base i h) at g.done));
        }

-- ---- scatter

pub record Scattered (v : IoVector) (l₀ src l : List ℕ) (a i : ℕ) : Type 0 where
  pub base : Base v (length l₀)
  pub keeps : length l ≡ length l₀
  pub long : length src ≡ v.total
  pub left : a + size_of (drop i (segments_of v)) ≡ v.total
  pub rest : scatter_of l₀ (segments_of v) src ≡ scatter_of l (drop i (segments_of v)) (drop a src)

module _ (v : IoVector) (l₀ src l : List ℕ) (a i : ℕ) (g : Scattered v l₀ src l a i) where
  pub scatter_end : v.count ≤ i → l ≡ scatter_of l₀ (segments_of v) src
  unfolding scatter_of
  scatter_end h = sym (rw (past v (length l₀) g.base i h) at g.rest)

  module _ (h : i < v.count) where
    abbrev Z : List ℕ
    Z = take (nth v i).length (drop a src)

    pub scatter_fits : ((nth v i).start + (nth v i).length ≤ length l) × (a + (nth v i).length ≤ length src) × (length src ≤ 1048576) × (i < 16)
    scatter_fits =
        (omega (arith, ends v (length l₀) g.base i h, g.keeps), omega (arith, g.long, g.left, at_size v (length l₀) g.base i h), omega (arith, g.long, g.base.valid.total, g.base.valid.fit.small), below v (length l₀) g.base i h)

    zlen : length Z ≡ (nth v i).length
    zlen = length-take-le (nth v i).length (drop a src) (simp length-drop (omega (arith, scatter_fits.1)))

    pub scatter_step : Scattered v l₀ src (put l (nth v i).start Z) (a + (nth v i).length) (i + 1)
    unfolding scatter_of
    scatter_step =
        let f : (nth v i).start + length Z ≤ length l = omega (arith, zlen, scatter_fits.0) in
        record {
          base = g.base;
          keeps = length_put l (nth v i).start Z f ∙ g.keeps;
          long = g.long;
          left = omega (arith, g.left, at_size v (length l₀) g.base i h);
          rest = (rw (at_first v (length l₀) g.base i h) at g.rest) ∙ ap (λ (t : List ℕ). scatter_of (put l (nth v i).start Z) (drop (i + 1) (segments_of v)) t) (drop-drop (nth v i).length a src);
        }

-- ---- fill

pub record Filled (v : IoVector) (l₀ : List ℕ) (x : ℕ) (l : List ℕ) (i : ℕ) : Type 0 where
  pub base : Base v (length l₀)
  pub keeps : length l ≡ length l₀
  pub rest : fill_of l₀ (segments_of v) x ≡ fill_of l (drop i (segments_of v)) x

module _ (v : IoVector) (l₀ : List ℕ) (x : ℕ) (l : List ℕ) (i : ℕ) (g : Filled v l₀ x l i) where
  pub fill_end : v.count ≤ i → l ≡ fill_of l₀ (segments_of v) x
  unfolding fill_of
  fill_end h = sym (rw (past v (length l₀) g.base i h) at g.rest)

  module _ (h : i < v.count) where
    pub fill_fits : ((nth v i).start + (nth v i).length ≤ length l) × (i < 16)
    fill_fits = (omega (arith, ends v (length l₀) g.base i h, g.keeps), below v (length l₀) g.base i h)

    pub fill_step : Filled v l₀ x (put l (nth v i).start (replicate (nth v i).length x)) (i + 1)
    unfolding fill_of
    fill_step = record {
      base = g.base;
      keeps = length_put l (nth v i).start (replicate (nth v i).length x) (omega (arith, length-replicate (nth v i).length x, fill_fits.0)) ∙ g.keeps;
      rest = rw (at_first v (length l₀) g.base i h) at g.rest;
    }

-- ---- a part that was lent comes back

-- filled
pub filled_back : (s : List ℕ) (a n x : ℕ) (ys : List ℕ) → a + n ≤ length s → ys ≡ replicate (length (take (a + n - a) (drop a s))) x → put_mid a (a + n - a) s ys ≡ put s a (replicate n x)
unfolding put
filled_back s a n x ys h e =
    let m : a + n - a ≡ n = omega arith in
    let l : length (take n (drop a s)) ≡ n = length-take-le n (drop a s) (simp length-drop (omega arith)) in
    rw (e, m, l, length-replicate)

-- ---- where a pass begins

pub copies_of : (d : List ℕ) (v : IoVector) (n : ℕ) → copies d v n ≡ true → Valid (length d) v × (n ≡ v.total)
unfolding copies
copies_of d v n e =
    (valid (length d) v (and_left (is_valid (length d) v) (eqb n v.total) e), eqb-true n v.total (and_right (is_valid (length d) v) (eqb n v.total) e))

pub gather_start : (v : IoVector) (d s : List ℕ) → length v.segments ≡ 16 → copies d v (length s) ≡ true → Gathered v d s 0 0
gather_start v d s w e =
    let c = copies_of d v (length s) e in
    record { base = record { valid = c.0; wide = w }; long = c.1; left = omega (arith, c.0.total); done = refl }

pub scatter_start : (v : IoVector) (l src : List ℕ) → length v.segments ≡ 16 → copies l v (length src) ≡ true → Scattered v l src l 0 0
scatter_start v l src w e =
    let c = copies_of l v (length src) e in
    record { base = record { valid = c.0; wide = w }; keeps = refl; long = c.1; left = omega (arith, c.0.total); rest = refl }

pub fill_start : (v : IoVector) (l : List ℕ) (x : ℕ) → length v.segments ≡ 16 → is_valid (length l) v ≡ true → Filled v l x l 0
fill_start v l x w e = record { base = record { valid = valid (length l) v e; wide = w }; keeps = refl; rest = refl }
