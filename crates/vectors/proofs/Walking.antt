-- The two walks to a split's position. Assumes nothing.
use mathlib.Core.Path.{◌≡◌, refl, sym, ap, ◌∙◌}
use mathlib.Core.List.{List}
use Prim.Native.Nat.{ℕ, ◌+◌, ◌-◌, ◌*◌, ◌≤◌, ◌<◌}
use native.Mathlib.Decide.{dec_lt}
use native.Mathlib.Omega.{arith}
use lib.Dec.{eqb}
use lib.ListN.{length, take, drop}
use borrow.Author.Tests.{lt-ltb, le-ltb, ne_eqb}
use Rattle.arithmetic.specs.Rounding.{pick}
use Rattle.vectors.specs.declared.vector.Segment.{Segment}
use Rattle.vectors.specs.declared.vector.IoVector.{IoVector}
use Rattle.vectors.specs.Vectors.{none, segments_of, size_of, lies_in, is_past_half, looked_at}
use Rattle.vectors.specs.Positions.{position, position_of, meeting, split_at, IsVector}
use Rattle.vectors.specs.SegmentLaws.{size_cut, all_at, lies, Valid, valid}
use Rattle.vectors.specs.SplitLaws.{position_at, position_from_end, position_past, head_count, tail_count, looked_past}
use Rattle.vectors.proofs.Pass.{nth, in_use, same, none_left, size}

-- ---- a walk ends with a position, where head and tail meet, and the number of segments that it looked at

module _ (v : IoVector) (wide : length v.segments ≡ 16) (s : IsVector v) where
  abbrev ps : List Segment
  ps = segments_of v

  sound : Valid s.over v
  sound = valid s.over v s.is

  long : length ps ≡ v.count
  long = in_use v wide sound.few

  -- "at or past the total": behind the last segment, and none looked at
  pub past_end : (mid : ℕ) → v.total ≤ mid → meeting (position v.count 0) 0 ≡ split_at ps mid
  past_end mid h =
      let l : size_of ps ≤ mid = omega (arith, sound.total) in
      rw (position_past ps mid l, looked_past s.over ps mid sound.fit.lie l, long)

  -- the segments before i, and those from i on
  before : (i : ℕ) → size_of (take i ps) + size_of (drop i ps) ≡ v.total
  before i = size_cut i ps ∙ sym sound.total

  step : (i : ℕ) → i < v.count → (size_of (drop i ps) ≡ (nth v i).length + size_of (drop (i + 1) ps)) × (0 < (nth v i).length)
  step i h =
      let l : i < length ps = omega (arith, long) in
      let p = (lies s.over _ (all_at (lies_in s.over) ps i none l sound.fit.lie)).positive in
      (size v wide i l, rw (same v wide i l) at p)

  rest_none : size_of (drop v.count ps) ≡ 0
  unfolding size_of
  rest_none = ap size_of (none_left v wide v.count (omega (arith, long)))

  -- a position that a walk has found: up to half the head's segments were to be looked at, past half the tail's
  module _ (mid i m : ℕ) (e : position_of ps mid ≡ position i m) where
    head_looked : mid ≤ v.total - mid → (n : ℕ) → n ≡ pick (eqb m 0) i (i + 1) → meeting (position i m) n ≡ split_at ps mid
    unfolding looked_at is_past_half
    head_looked l n f =
        let k : 2 * mid ≤ size_of ps = omega (arith, sound.total) in
        rw (le-ltb (size_of ps) (2 * mid) k, head_count s.over ps mid sound.fit.lie, e, f)

    tail_looked : mid < v.total → v.total - mid < mid → meeting (position i m) (v.count - i) ≡ split_at ps mid
    unfolding looked_at is_past_half
    tail_looked h l =
        let k : size_of ps < 2 * mid = omega (arith, sound.total) in
        rw (lt-ltb (size_of ps) (2 * mid) k, tail_count s.over ps mid sound.fit.lie, e, long)

-- ---- up to half, from the first segment: those before i and `rest` bytes more are the head

pub record Forth (v : IoVector) (mid i rest : ℕ) : Type 0 where
  pub wide : length v.segments ≡ 16
  pub asked : IsVector v
  pub before_end : mid < v.total
  pub half : mid ≤ v.total - mid
  pub reach : i ≤ v.count
  pub sum : size_of (take i (segments_of v)) + rest ≡ mid

pub forth_start : (v : IoVector) (mid : ℕ) → length v.segments ≡ 16 → IsVector v → mid < v.total → mid ≤ v.total - mid → Forth v mid 0 mid
unfolding size_of
forth_start v mid w s h l = record { wide = w; asked = s; before_end = h; half = l; reach = omega arith; sum = omega arith }

module _ (v : IoVector) (mid i rest : ℕ) (g : Forth v mid i rest) where
  abbrev s : IsVector v
  s = g.asked

  pub forth_few : (i < v.count) × (v.count ≤ 16)
  forth_few = elim (dec_lt i v.count) [
    | yes l ↦ (l, (sound v g.wide s).few)
    | no l ↦
        let e : i ≡ v.count = omega (arith, g.reach) in
        absurd (omega (arith, g.sum, g.before_end, before v g.wide s i, ap (λ (k : ℕ). size_of (drop k (segments_of v))) e, rest_none v g.wide s))
  ]

  -- one segment more before
  more : size_of (take (i + 1) (segments_of v)) ≡ size_of (take i (segments_of v)) + (nth v i).length
  more = omega (arith, before v g.wide s i, before v g.wide s (i + 1), (step v g.wide s i forth_few.0).0)

  found : rest < (nth v i).length → position_of (segments_of v) mid ≡ position i rest
  found l =
      let e : mid - size_of (take i (segments_of v)) ≡ rest = omega (arith, g.sum) in
      let b : mid < size_of (take (i + 1) (segments_of v)) = omega (arith, g.sum, more) in
      position_at (segments_of v) i mid (omega (arith, long v g.wide s, forth_few.0)) (omega (arith, g.sum)) b ∙ ap (λ (m : ℕ). position i m) e

  pub forth_clean : rest ≡ 0 → meeting (position i 0) i ≡ split_at (segments_of v) mid
  forth_clean z =
      let l : rest < (nth v i).length = omega (arith, (step v g.wide s i forth_few.0).1) in
      head_looked v g.wide s mid i 0 (found l ∙ ap (λ (m : ℕ). position i m) z) g.half i refl

  pub forth_inside : (rest ≡ 0 → ⊥) → rest < (nth v i).length → meeting (position i rest) (i + 1) ≡ split_at (segments_of v) mid
  forth_inside z l = head_looked v g.wide s mid i rest (found l) g.half (i + 1) (rw (ne_eqb rest 0 z))

  pub forth_next : (nth v i).length ≤ rest → Forth v mid (i + 1) (rest - (nth v i).length)
  forth_next l = record {
    wide = g.wide;
    asked = g.asked;
    before_end = g.before_end;
    half = g.half;
    reach = omega (arith, forth_few.0);
    sum = omega (arith, g.sum, more);
  }

-- ---- past half, from the last segment: `rest` bytes and those from i on are the tail

pub record Back (v : IoVector) (mid i rest : ℕ) : Type 0 where
  pub wide : length v.segments ≡ 16
  pub asked : IsVector v
  pub before_end : mid < v.total
  pub past_half : v.total - mid < mid
  pub reach : i ≤ v.count
  pub some : 0 < rest
  pub sum : mid + (rest + size_of (drop i (segments_of v))) ≡ v.total

pub back_start : (v : IoVector) (mid : ℕ) → length v.segments ≡ 16 → IsVector v → mid < v.total → v.total - mid < mid
    → Back v mid v.count (v.total - mid)
back_start v mid w s h l = record {
  wide = w;
  asked = s;
  before_end = h;
  past_half = l;
  reach = omega arith;
  some = omega arith;
  sum = omega (arith, rest_none v w s);
}

module _ (v : IoVector) (mid i rest : ℕ) (g : Back v mid i rest) where
  abbrev t : IsVector v
  t = g.asked

  pub back_few : (0 < i) × (v.count ≤ 16)
  back_few = elim (dec_lt 0 i) [
    | yes l ↦ (l, (sound v g.wide t).few)
    | no l ↦
        let e : i ≡ 0 = omega arith in
        absurd (omega (arith, g.sum, g.some, (sound v g.wide t).total, ap (λ (k : ℕ). size_of (drop k (segments_of v))) e))
  ]

  from : size_of (drop (i - 1) (segments_of v)) ≡ (nth v (i - 1)).length + size_of (drop i (segments_of v))
  from =
      let e : i - 1 + 1 ≡ i = omega (arith, back_few.0) in
      rw e at (step v g.wide t (i - 1) (omega (arith, g.reach, back_few.0))).0

  pub back_here : rest ≤ (nth v (i - 1)).length
      → meeting (position (i - 1) ((nth v (i - 1)).length - rest)) (v.count - (i - 1)) ≡ split_at (segments_of v) mid
  back_here l =
      let e : i - 1 + 1 ≡ i = omega (arith, back_few.0) in
      let q : size_of (segments_of v) ≡ v.total = sym (sound v g.wide t).total in
      let m : mid + size_of (drop (i - 1) (segments_of v)) - size_of (segments_of v) ≡ (nth v (i - 1)).length - rest = omega (arith, from, g.sum) in
      let b : mid + size_of (drop (i - 1 + 1) (segments_of v)) < size_of (segments_of v) = rw e (omega (arith, g.sum, g.some)) in
      let f = position_from_end (segments_of v) (i - 1) mid (omega (arith, long v g.wide t, g.reach, back_few.0)) b (omega (arith, from, g.sum)) in
      tail_looked v g.wide t mid (i - 1) _ (f ∙ ap (λ (k : ℕ). position (i - 1) k) m) g.before_end g.past_half

  pub back_next : (nth v (i - 1)).length < rest → Back v mid (i - 1) (rest - (nth v (i - 1)).length)
  back_next l = record {
    wide = g.wide;
    asked = g.asked;
    before_end = g.before_end;
    past_half = g.past_half;
    reach = omega (arith, g.reach);
    some = omega arith;
    sum = omega (arith, g.sum, from);
  }
