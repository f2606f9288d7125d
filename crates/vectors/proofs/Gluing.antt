-- A vector with segments glued behind its own: the last one made longer, or one more, and the rest joined. Assumes nothing.
use Rattle.std.specs.Prelude.{Option, Some, None, Err, ok_or}
use mathlib.Core.Path.{◌≡◌, refl, sym, ap, ◌∙◌}
use mathlib.Core.Bool.{true, false, false≢true}
use mathlib.Core.List.{List, [], ◌∷◌, ◌++◌}
use Prim.Native.Nat.{ℕ, suc, ◌+◌, ◌-◌, ◌≤◌, ◌<◌}
use native.Mathlib.Decide.{dec_le, dec_lt}
use native.Mathlib.Omega.{arith}
use lib.ListN.{length, take, drop, get_or, set, replicate, length-append, length-take, length-drop}
use lib.Seq.{set-append_left, length-take-le}
use borrow.Author.Tests.{le-leb, lt-leb}
use Rattle.arithmetic.specs.declared.refusals.Refusal.{Refusal}
use Rattle.arithmetic.specs.declared.refusals.Refusal.TheVariants.{Segment as BadSegment}
use Rattle.vectors.specs.declared.vector.Segment.{Segment}
use Rattle.vectors.specs.declared.vector.IoVector.{IoVector}
use Rattle.vectors.specs.Vectors.{none, segments_of, size_of, vector_of, touches, glued}
use Rattle.vectors.specs.Joining.{Room, Joins, last_touches, Gluing, Lengthens, GluesAll, glued_of}
use Rattle.vectors.specs.SegmentLaws.{size_cut, size_at}
use Rattle.vectors.specs.SeamLaws.{joint, glued_size, last_is, glued_last, glued_length, glued_apart, glued_nothing, glued_more}
use Rattle.vectors.proofs.Pass.{nth, in_use, same, first}
use Rattle.vectors.proofs.Building.{count_of, total_of, joins_of, grown}

-- ---- the last segment

-- the two numbers of a vector that is that of its segments
pub plain_count : {v : IoVector} {n : ℕ} → Gluing v n → length (segments_of v) ≡ v.count
plain_count {v} g = sym (count_of v (segments_of v) g.plain)

plain_total : {v : IoVector} {n : ℕ} → Gluing v n → size_of (segments_of v) ≡ v.total
plain_total {v} g = sym (total_of v (segments_of v) g.plain)

-- no segments touch nothing
pub none_last : (ps : List Segment) (q : Segment) → length ps < 1 → false ≡ last_touches ps q
unfolding last_touches
none_last [] q h = refl
none_last (p ∷ ps) q h = absurd (omega (arith, h))

pub last_of : (ps : List Segment) (q : Segment) → 1 ≤ length ps → touches (get_or ps (length ps - 1) none) q ≡ last_touches ps q
last_of ps q h = sym (last_is q ps (length ps - 1) (omega arith))

-- a vector of no segments has no last one
touching_some : (v : IoVector) (q : Segment) → last_touches (segments_of v) q ≡ true → 0 < v.count
touching_some v q e = elim (dec_lt 0 v.count) [
  | yes h ↦ h
  | no h ↦ let z : length (segments_of v) < 1 = omega (arith, length-take v.count v.segments) in absurd (false≢true (none_last (segments_of v) q z ∙ e))
]

-- a vector of these fields is that of the list
made : (xs l : List Segment) (c t : ℕ) → l ≡ xs ++ replicate (16 - length xs) none → c ≡ length xs → t ≡ size_of xs
    → record { segments = l; count = c; total = t } ≡ vector_of xs
unfolding vector_of
made xs l c t e f g = rw (e, f, g)

-- the last segment as long as the two
module _ (v : IoVector) (q : Segment) (wide : length v.segments ≡ 16) (g : Lengthens v q) where
  abbrev ps : List Segment
  ps = segments_of v

  pub some_left : 1 ≤ v.count
  some_left = touching_some v q g.touching

  long : length ps ≡ suc (v.count - 1)
  long = omega (arith, plain_count g.asked, some_left)

  last : get_or ps (v.count - 1) none ≡ nth v (v.count - 1)
  last = same v wide (v.count - 1) (omega (arith, long))

  pub last_length : (nth v (v.count - 1)).length ≤ v.total
  last_length =
      omega (arith, plain_total g.asked, size_cut (v.count - 1) ps, size_at ps (v.count - 1) none (omega (arith, long)), ap (λ (p : Segment). p.length) last)

  pub lengthened : record {
    segments = set v.segments (v.count - 1) (joint (nth v (v.count - 1)) q);
    count = v.count;
    total = v.total + q.length;
  } ≡ vector_of (glued ps (q ∷ []))
  unfolding vector_of size_of
  lengthened =
      let k = v.count - 1 in
      let is : glued ps (q ∷ []) ≡ set ps k (joint (nth v k) q) =
      glued_last q ps k long g.touching ∙ ap (λ (p : Segment). set ps k (joint p q)) last in
      let n : length (glued ps (q ∷ [])) ≡ length ps = glued_length q ps g.touching in
      let l : set v.segments k (joint (nth v k) q) ≡ glued ps (q ∷ []) ++ replicate (16 - length (glued ps (q ∷ []))) none =
      ap (λ (w : IoVector). set w.segments k (joint (nth v k) q)) g.asked.plain
      ∙ set-append_left ps (replicate (16 - length ps) none) k (joint (nth v k) q) (omega (arith, long))
      ∙ ap (λ (t : List Segment). t ++ replicate (16 - length ps) none) (sym is)
      ∙ ap (λ (m : ℕ). glued ps (q ∷ []) ++ replicate (16 - m) none) (sym n) in
      let c : v.count ≡ length (glued ps (q ∷ [])) = omega (arith, n, plain_count g.asked) in
      let z : v.total + q.length ≡ size_of (glued ps (q ∷ [])) = omega (arith, glued_size (q ∷ []) ps, plain_total g.asked) in
      made (glued ps (q ∷ [])) _ _ _ l c z

-- what `glue` and `glue_all` return
module _ (v : IoVector) (qs : List Segment) where
  pub glue_fits : (u : IoVector) → length (glued (segments_of v) qs) ≤ 16 → u ≡ vector_of (glued (segments_of v) qs) → Some u ≡ glued_of v qs
  unfolding glued_of
  glue_fits u h e = rw (le-leb _ _ h, e)

  pub glue_over : 16 < length (glued (segments_of v) qs) → None ≡ glued_of v qs
  unfolding glued_of
  glue_over h = rw (lt-leb _ _ h)

  -- what the caller learns of it
  pub glued_is : (r : IoVector) → Some r ≡ glued_of v qs → (r ≡ vector_of (glued (segments_of v) qs)) × (length (glued (segments_of v) qs) ≤ 16)
  glued_is r e = elim (dec_le (length (glued (segments_of v) qs)) 16) [
    | yes h ↦ let f = glue_fits (vector_of (glued (segments_of v) qs)) h refl in ((cc), h)
    | no h ↦ let f = glue_over (omega arith) in cc
  ]

  pub glued_not : None ≡ glued_of v qs → 16 < length (glued (segments_of v) qs)
  glued_not e = elim (dec_le (length (glued (segments_of v) qs)) 16) [
    | yes h ↦ let f = glue_fits (vector_of (glued (segments_of v) qs)) h refl in cc
    | no h ↦ omega arith
  ]

-- where one of the two does not fit, its caller's refusal is 202
pub refused_is : {o : Option (Unit {0})} {r : Refusal} → o ≡ None → Err r ≡ ok_or o BadSegment → r ≡ BadSegment
refused_is z e = let f = rw z at e in cc

-- ---- `glue`

module _ (v : IoVector) (q : Segment) (g : Gluing v q.length) where
  pub glue_touching : last_touches (segments_of v) q ≡ true → (u : IoVector) → u ≡ vector_of (glued (segments_of v) (q ∷ []))
      → Some u ≡ glued_of v (q ∷ [])
  glue_touching t u e = glue_fits v (q ∷ []) u (omega (arith, glued_length q (segments_of v) t, plain_count g, g.few)) e

  module _ (t : last_touches (segments_of v) q ≡ false) where
    apart : length (glued (segments_of v) (q ∷ [])) ≡ v.count + 1
    apart = ap length (glued_apart q (segments_of v) t) ∙ length-append (segments_of v) (q ∷ []) ∙ (omega (arith, plain_count g))

    pub glue_full : v.count ≡ 16 → None ≡ glued_of v (q ∷ [])
    glue_full h = glue_over v (q ∷ []) (omega (arith, apart))

    pub glue_room : (v.count ≡ 16 → ⊥) → Room v q
    glue_room h = record { plain = g.plain; few = omega (arith, g.few); small = g.small }

    pub glue_added : (v.count ≡ 16 → ⊥) → (u : IoVector) → u ≡ vector_of (segments_of v ++ (q ∷ []))
        → Some u ≡ glued_of v (q ∷ [])
    glue_added h u e =
        glue_fits v (q ∷ []) u (omega (arith, apart, g.few)) (e ∙ ap vector_of (sym (glued_apart q (segments_of v) t)))

-- ---- `glue_all`

module _ (v w : IoVector) (s n : ℕ) (g : GluesAll v w s n) where
  abbrev qs : List Segment
  qs = take n (drop s (segments_of w))

  pub glue_nothing : n ≡ 0 → Some v ≡ glued_of v qs
  glue_nothing z =
      let e : glued (segments_of v) qs ≡ segments_of v = rw z (glued_nothing (segments_of v)) in
      glue_fits v qs v (omega (arith, ap length e, plain_count g.asked, g.asked.few)) (g.asked.plain ∙ ap vector_of (sym e))

  module _ (wide : length w.segments ≡ 16) (h : n ≡ 0 → ⊥) where
    abbrev q : Segment
    q = nth w s

    abbrev rest : List Segment
    rest = take (n - 1) (drop (s + 1) (segments_of w))

    first_is : qs ≡ q ∷ rest
    first_is =
        let k : n ≡ suc (n - 1) = omega arith in
        let l : s < length (segments_of w) = omega (arith, in_use w wide g.most, g.whole) in
        ap (λ (m : ℕ). take m (drop s (segments_of w))) k ∙ ap (take (suc (n - 1))) (first w wide s l)

    sizes : size_of qs ≡ q.length + size_of rest
    unfolding size_of
    sizes = ap size_of first_is

    many : length rest ≡ n - 1
    many = length-take-le (n - 1) (drop (s + 1) (segments_of w)) (simp length-drop (omega (arith, in_use w wide g.most, g.whole)))

    whole_is : glued (segments_of v) qs ≡ glued (segments_of v) (q ∷ []) ++ rest
    whole_is = ap (glued (segments_of v)) first_is ∙ glued_more q (segments_of v) rest

    length_is : length (glued (segments_of v) qs) ≡ length (glued (segments_of v) (q ∷ [])) + (n - 1)
    length_is = ap length whole_is ∙ length-append (glued (segments_of v) (q ∷ [])) rest ∙ (omega (arith, many))

    pub asks_first : Gluing v q.length
    asks_first = record { plain = g.asked.plain; few = g.asked.few; small = omega (arith, g.asked.small, sizes) }

    -- the first does not fit
    pub glue_refused : None ≡ glued_of v (q ∷ []) → None ≡ glued_of v qs
    glue_refused e = glue_over v qs (omega (arith, length_is, glued_not v (q ∷ []) e))

    module _ (r : IoVector) (e : Some r ≡ glued_of v (q ∷ [])) where
      is : r ≡ vector_of (glued (segments_of v) (q ∷ []))
      is = (glued_is v (q ∷ []) r e).0

      count : r.count ≡ length (glued (segments_of v) (q ∷ []))
      count = count_of r _ is

      pub first_few : r.count ≤ 16
      first_few = omega (arith, count, (glued_is v (q ∷ []) r e).1)

      pub glue_many : 16 - r.count < n - 1 → None ≡ glued_of v qs
      glue_many h = glue_over v qs (omega (arith, length_is, count))

      module _ (left : n - 1 ≤ 16 - r.count) where
        pub glue_joins : Joins r w (s + 1) (n - 1)
        unfolding size_of
        glue_joins =
            joins_of r (glued (segments_of v) (q ∷ [])) is w (s + 1) (n - 1)
            (omega (arith, left, count, first_few))
            (omega (arith, g.whole))
            g.most
            (omega (arith, glued_size (q ∷ []) (segments_of v), sizes, plain_total g.asked, g.asked.small))

        pub glue_joined : (u : IoVector) → u ≡ vector_of (segments_of r ++ rest) → Some u ≡ glued_of v qs
        glue_joined u f =
            glue_fits v qs u (omega (arith, length_is, left, count, first_few))
            (grown (glued (segments_of v) (q ∷ [])) rest is f ∙ ap vector_of (sym whole_is))
