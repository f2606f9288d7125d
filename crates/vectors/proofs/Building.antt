-- A vector with segments joined at its end, one a turn. Assumes nothing.
use mathlib.Core.Path.{◌≡◌, sym, ap, ◌∙◌}
use mathlib.Core.List.{List, [], ◌∷◌, ◌++◌, append_assoc, append-nil}
use Prim.Native.Nat.{ℕ, suc, ◌+◌, ◌-◌, ◌≤◌, ◌<◌}
use native.Mathlib.Numerals.{add-one}
use native.Mathlib.Omega.{arith}
use lib.ListN.{length, take, drop, get_or, set, replicate, length-append, length-take}
use lib.Seq.{set-append_seam, append_snoc, take-suc, take-take, take_all}
use Rattle.std.proofs.lemmas.List.{drop-take}
use Rattle.vectors.specs.declared.vector.Segment.{Segment}
use Rattle.vectors.specs.declared.vector.IoVector.{IoVector}
use Rattle.vectors.specs.Vectors.{none, segments_of, size_of, vector_of}
use Rattle.vectors.specs.Joining.{Room, Joins, Gluing}
use Rattle.vectors.specs.SegmentLaws.{size_append, size_cut, segments_of_lem}

-- a vector that is one of a list is that of its own segments
pub plain_of : (v : IoVector) (ps : List Segment) → v ≡ vector_of ps → v ≡ vector_of (segments_of v)
plain_of v ps e = rw e (ap vector_of (sym (segments_of_lem ps)))

-- one segment more
pub with_is : (v : IoVector) (ps : List Segment) (p : Segment) → v ≡ vector_of ps → length ps < 16
    → record { segments = set v.segments v.count p; count = v.count + 1; total = v.total + p.length } ≡ vector_of (ps ++ (p ∷ []))
unfolding vector_of size_of
with_is v ps p e h =
    let n : length (ps ++ (p ∷ [])) ≡ length ps + 1 = length-append ps (p ∷ []) in
    let k : 16 - length ps ≡ suc (16 - (length ps + 1)) = omega arith in
    let l : set (ps ++ replicate (16 - length ps) none) (length ps) p ≡ (ps ++ (p ∷ [])) ++ replicate (16 - length (ps ++ (p ∷ []))) none =
    rw (n, k) (set-append_seam ps none (replicate (16 - (length ps + 1)) none) p ∙ sym (append_snoc ps p (replicate (16 - (length ps + 1)) none))) in
    let z : size_of (ps ++ (p ∷ [])) ≡ size_of ps + p.length = size_append ps (p ∷ []) ∙ (omega arith) in
    rw (e, l, n, z)

pub with_room : (v : IoVector) (p : Segment) → Room v p
    → record { segments = set v.segments v.count p; count = v.count + 1; total = v.total + p.length } ≡ vector_of (segments_of v ++ (p ∷ []))
unfolding vector_of
with_room v p r =
    let n : v.count ≡ length (segments_of v) = ap (λ (w : IoVector). w.count) r.plain in
    with_is v (segments_of v) p r.plain (omega (arith, r.few))

-- ---- the loop of `join`, over a part of the other's segments

-- the part that the loop goes over
abbrev pub part : IoVector → ℕ → ℕ → List Segment
part w s n = take (s + n - s) (drop s w.segments)

part_is : (w : IoVector) (s n : ℕ) → s + n ≤ w.count → part w s n ≡ take n (drop s (segments_of w))
part_is w s n h =
    let e : s + n - s ≡ n = omega arith in
    ap (λ (m : ℕ). take m (drop s w.segments)) e
    ∙ sym (drop-take s n w.segments) ∙ ap (drop s) (sym (take-take (s + n) w.count w.segments h)) ∙ drop-take s n (segments_of w)

-- of v₀, before which qs may be joined, i are behind its own
pub record Joining (v₀ : IoVector) (qs : List Segment) (v : IoVector) (i : ℕ) : Type 0 where
  pub plain : v₀ ≡ vector_of (segments_of v₀)
  pub few : v₀.count + length qs ≤ 16
  pub small : v₀.total + size_of qs ≤ 1048576
  pub is : v ≡ vector_of (segments_of v₀ ++ take i qs)

pub join_start : (v w : IoVector) (s n : ℕ) → Joins v w s n → Joining v (part w s n) v 0
join_start v w s n j = record {
  plain = j.plain;
  few = omega (arith, length-take (s + n - s) (drop s w.segments), j.few);
  small = rw (part_is w s n j.whole) j.small;
  is = j.plain ∙ ap vector_of (sym (append-nil (segments_of v)));
}

pub join_end : (v₀ w : IoVector) (s n : ℕ) (v : IoVector) (i : ℕ) → Joins v₀ w s n → Joining v₀ (part w s n) v i → length (part w s n) ≤ i
    → v ≡ vector_of (segments_of v₀ ++ take n (drop s (segments_of w)))
join_end v₀ w s n v i j g h =
    g.is ∙ ap (λ (l : List Segment). vector_of (segments_of v₀ ++ l)) (take_all i (part w s n) h ∙ part_is w s n j.whole)

module _ (v₀ : IoVector) (qs : List Segment) (v : IoVector) (i : ℕ) (g : Joining v₀ qs v i) (h : i < length qs) where
  taken : take (i + 1) qs ≡ take i qs ++ (get_or qs i none ∷ [])
  taken = rw add-one (take-suc qs i none h)

  size_taken : size_of (take (i + 1) qs) ≡ size_of (take i qs) + (get_or qs i none).length
  unfolding size_of
  size_taken = ap size_of taken ∙ size_append (take i qs) (get_or qs i none ∷ []) ∙ (omega arith)

  pub join_room : Room v (get_or qs i none)
  unfolding vector_of
  join_room =
      let c : v.count ≡ length (segments_of v₀ ++ take i qs) = ap (λ (u : IoVector). u.count) g.is in
      let t : v.total ≡ size_of (segments_of v₀ ++ take i qs) = ap (λ (u : IoVector). u.total) g.is in
      let c₀ : v₀.count ≡ length (segments_of v₀) = ap (λ (u : IoVector). u.count) g.plain in
      let t₀ : v₀.total ≡ size_of (segments_of v₀) = ap (λ (u : IoVector). u.total) g.plain in
      record {
        plain = plain_of v (segments_of v₀ ++ take i qs) g.is;
        few = omega (arith, length-append (segments_of v₀) (take i qs), length-take i qs, g.few);
        small = omega (arith, size_append (segments_of v₀) (take i qs), size_taken, size_cut (i + 1) qs, g.small);
      }

  pub join_next : (u : IoVector) → u ≡ vector_of (segments_of v ++ (get_or qs i none ∷ [])) → Joining v₀ qs u (i + 1)
  join_next u e =
      let s₁ : segments_of v ≡ segments_of v₀ ++ take i qs = rw g.is (segments_of_lem (segments_of v₀ ++ take i qs)) in
      record {
        plain = g.plain;
        few = g.few;
        small = g.small;
        is = e ∙ ap vector_of (ap (λ (l : List Segment). l ++ (get_or qs i none ∷ [])) s₁ ∙ append_assoc (segments_of v₀) (take i qs) (get_or qs i none ∷ []) ∙ ap (λ (l : List Segment). segments_of v₀ ++ l) (sym taken));
      }

-- ---- what a caller of `join` and `put_last` shows, over the vector of a list

-- the segments of a vector that is that of a list
pub its : {u : IoVector} {xs : List Segment} → u ≡ vector_of xs → segments_of u ≡ xs
its {u} {xs} e = rw e (segments_of_lem xs)

pub grown : {u r : IoVector} (xs ys : List Segment) → u ≡ vector_of xs → r ≡ vector_of (segments_of u ++ ys) → r ≡ vector_of (xs ++ ys)
grown xs ys e f = rw (its e) at f

module _ (u : IoVector) (ps : List Segment) (e : u ≡ vector_of ps) where
  pub count_of : u.count ≡ length ps
  unfolding vector_of
  count_of = rw e

  pub total_of : u.total ≡ size_of ps
  unfolding vector_of
  total_of = rw e

  pub room_of : (p : Segment) → length ps < 16 → size_of ps + p.length ≤ 1048576 → Room u p
  room_of p h k = record { plain = plain_of u ps e; few = omega (arith, count_of); small = omega (arith, total_of) }

  pub joins_of : (w : IoVector) (s n : ℕ) → length ps + n ≤ 16 → s + n ≤ w.count → w.count ≤ 16
      → size_of ps + size_of (take n (drop s (segments_of w))) ≤ 1048576 → Joins u w s n
  joins_of w s n h k m z = record { plain = plain_of u ps e; few = omega (arith, count_of); whole = k; most = m; small = omega (arith, total_of) }

  pub gluing_of : (n : ℕ) → length ps ≤ 16 → size_of ps + n ≤ 1048576 → Gluing u n
  gluing_of n h k = record { plain = plain_of u ps e; few = omega (arith, count_of); small = omega (arith, total_of) }
