-- The two vectors around a split's position. Assumes nothing.
use Rattle.std.specs.Prelude.{Ok, Err}
use mathlib.Core.Path.{◌≡◌, ap, ◌∙◌, subst}
use mathlib.Core.Bool.{true, false}
use mathlib.Core.List.{List, [], ◌∷◌, ◌++◌}
use Prim.Native.Nat.{ℕ, ◌+◌, ◌-◌, ◌≤◌, ◌<◌}
use native.Mathlib.Omega.{arith}
use lib.ListN.{length, take, drop, get_or, set, length-drop}
use lib.Seq.{take_all, length-take-le}
use borrow.Author.Tests.{eq-eqb, ne_eqb}
use Rattle.arithmetic.specs.declared.refusals.Refusal.TheVariants.{Segment as BadSegment}
use Rattle.vectors.specs.declared.vector.Segment.{Segment}
use Rattle.vectors.specs.declared.vector.IoVector.{IoVector}
use Rattle.vectors.specs.declared.vector.SplitPosition.{SplitPosition}
use Rattle.vectors.specs.declared.vector.Split.{Split}
use Rattle.vectors.specs.Vectors.{segment, none, segments_of, size_of, lies_in, vector_of, is_valid, split_of, split_tail_of}
use Rattle.vectors.specs.Joining.{Room, Joins}
use Rattle.vectors.specs.Positions.{position_of, split_at, head_at, tail_at, Cut}
use Rattle.vectors.specs.SegmentLaws.{size_cut, size_at, all_at, lies, Valid, valid}
use Rattle.vectors.specs.SplitLaws.{Located, located}
use Rattle.vectors.proofs.Pass.{nth, in_use, same, first}
use Rattle.vectors.proofs.Building.{room_of, joins_of}

-- the position of a split of a valid vector
pub cut_of : (n : ℕ) (v : IoVector) (mid : ℕ) (c : SplitPosition) → length v.segments ≡ 16 → n < 18446744073709551616 → Valid n v → c ≡ position_of (segments_of v) mid → Cut v c
cut_of n v mid c w z h e =
    let ps = segments_of v in
    let k = in_use v w h.few in
    let p : Located ps mid = located n ps mid h.fit.lie in
    let part : (c.inside ≡ 0 → ⊥) → (c.index < length ps) × (c.inside < (get_or ps c.index none).length) = rw e p.part in
    let read : c.index < length ps → get_or ps c.index none ≡ nth v c.index = λ l. same v w c.index l in
    record {
      few = h.few;
      small = h.fit.small;
      reach = rw e (omega (arith, p.reach));
      part = λ y. (omega (arith, (part y).0), subst (λ (s : Segment). c.inside < s.length) (read (part y).0) (part y).1);
      ends = λ y.
          let m = subst (λ (s : Segment). s.start + s.length ≤ n) (read (part y).0) (lies n (get_or ps c.index none) (all_at (lies_in n) ps c.index none (part y).0 h.fit.lie)).ends in
          omega arith;
    }

-- ---- the parts

module _ (v : IoVector) (c : SplitPosition) (wide : length v.segments ≡ 16) (g : Cut v c) where
  abbrev ps : List Segment
  ps = segments_of v

  long : length ps ≡ v.count
  long = in_use v wide g.few

  front : length (take c.index ps) ≡ c.index
  front = length-take-le c.index ps (omega (arith, long, g.reach))

  pub head_joins : (u : IoVector) → u ≡ vector_of [] → Joins u v 0 c.index
  unfolding size_of
  head_joins u e = joins_of u [] e v 0 c.index (omega (arith, g.reach, g.few)) (omega (arith, g.reach)) g.few (omega (arith, size_cut c.index ps, g.small))

  pub head_clean : (u : IoVector) → c.inside ≡ 0 → u ≡ vector_of (take c.index ps) → u ≡ vector_of (head_at ps c)
  unfolding head_at
  head_clean u z e = rw (eq-eqb c.inside 0 z) e

  all_of : take (v.count - c.index) (drop c.index ps) ≡ drop c.index ps
  all_of = take_all (v.count - c.index) (drop c.index ps) (simp length-drop (omega (arith, long)))

  pub tail_joins : (u : IoVector) → u ≡ vector_of [] → Joins u v c.index (v.count - c.index)
  unfolding size_of
  tail_joins u e = joins_of u [] e v c.index (v.count - c.index) (omega (arith, g.few)) (omega (arith, g.reach)) g.few (rw all_of (omega (arith, size_cut c.index ps, g.small)))

  pub tail_clean : (u : IoVector) → c.inside ≡ 0 → u ≡ vector_of (take (v.count - c.index) (drop c.index ps)) → u ≡ vector_of (tail_at ps c)
  unfolding tail_at
  tail_clean u z e = rw (eq-eqb c.inside 0 z) (rw all_of at e)

  module _ (z : c.inside ≡ 0 → ⊥) where
    abbrev p : Segment
    p = nth v c.index

    pub in_array : c.index < 16
    in_array = omega (arith, (g.part z).0, g.few)

    used : c.index < length ps
    used = omega (arith, (g.part z).0, long)

    read : get_or ps c.index none ≡ p
    read = same v wide c.index used

    size : size_of (take c.index ps) + (p.length + size_of (drop (c.index + 1) ps)) ≡ size_of ps
    size = omega (arith, size_cut c.index ps, size_at ps c.index none used, ap (λ (s : Segment). s.length) read)

    pub head_room : (u : IoVector) → u ≡ vector_of (take c.index ps) → Room u (segment p.start c.inside)
    head_room u e =
        room_of u (take c.index ps) e (segment p.start c.inside) (omega (arith, front, in_array)) (omega (arith, size, (g.part z).1, g.small))

    pub head_inner : (u : IoVector) → u ≡ vector_of (take c.index ps ++ (segment p.start c.inside ∷ [])) → u ≡ vector_of (head_at ps c)
    unfolding head_at
    head_inner u e = rw (ne_eqb c.inside 0 z, read) e

    -- the segments from the position on, before the first is cut
    from : take (v.count - c.index) (drop c.index ps) ≡ p ∷ drop (c.index + 1) ps
    from = all_of ∙ first v wide c.index used

    module _ (u : IoVector) (e : u ≡ vector_of (take (v.count - c.index) (drop c.index ps))) where
      whole : u ≡ vector_of (p ∷ drop (c.index + 1) ps)
      whole = e ∙ ap vector_of from

      abbrev f : Segment
      f = get_or u.segments 0 none

      pub tail_ends : (f.start + c.inside < 18446744073709551616) × (c.inside ≤ f.length) × (c.inside ≤ u.total)
      unfolding vector_of size_of
      tail_ends = rw whole (omega (arith, g.ends z, g.part z))

      pub tail_inner : record {
        segments = set u.segments 0 (segment (f.start + c.inside) (f.length - c.inside));
        count = u.count;
        total = u.total - c.inside;
      } ≡ vector_of (tail_at ps c)
      unfolding tail_at vector_of size_of
      tail_inner =
          let n : p.length + size_of (drop (c.index + 1) ps) - c.inside ≡ p.length - c.inside + size_of (drop (c.index + 1) ps) = omega (arith, g.part z) in
          rw (ne_eqb c.inside 0 z, read, whole, n)

-- ---- what the splits return

module _ (n : ℕ) (v : IoVector) (mid : ℕ) where
  pub split_refused : is_valid n v ≡ false → Err BadSegment ≡ split_of n v mid
  unfolding split_of
  split_refused e = rw e

  pub tail_refused : is_valid n v ≡ false → Err BadSegment ≡ split_tail_of n v mid
  unfolding split_tail_of
  tail_refused e = rw e

  module _ (s : Split) (e : is_valid n v ≡ true) (p : s ≡ split_at (segments_of v) mid) where
    pub split_done : (h t : IoVector) → h ≡ vector_of (head_at (segments_of v) s.head) → t ≡ vector_of (tail_at (segments_of v) s.tail)
        → Ok (record { head = h; tail = t; looked = s.looked }) ≡ split_of n v mid
    unfolding split_of
    split_done h t f g =
        let q = located n (segments_of v) mid (valid n v e).fit.lie in
        rw (e, f, g, p, q.head, q.tail)

    pub tail_done : (t : IoVector) → t ≡ vector_of (tail_at (segments_of v) s.tail)
        → Ok (record { vector = t; looked = s.looked }) ≡ split_tail_of n v mid
    unfolding split_tail_of
    tail_done t g =
        let q = located n (segments_of v) mid (valid n v e).fit.lie in
        rw (e, g, p, q.tail)
