-- What insert and append show of a vector: each step of the building, and which lists fit. Assumes nothing.
use Rattle.std.specs.Prelude.{Ok, Some, None}
use mathlib.Core.Path.{◌≡◌, refl, sym, ap, ◌∙◌}
use mathlib.Core.Bool.{Bool, true, false, ◌&&◌, and-false, false≢true}
use mathlib.Core.List.{List, [], ◌∷◌}
use Prim.Native.Nat.{ℕ, ◌+◌, ◌-◌, ◌≤◌, ◌<◌}
use native.Mathlib.Omega.{arith}
use lib.Dec.{leb}
use lib.ListN.{length, take, drop, length-take, length-drop, drop_of_length-le}
use lib.Seq.{take_all}
use borrow.Author.Tests.{le-leb, lt-leb, leb-true}
use Rattle.arithmetic.specs.SettingsLaws.{and_left, and_right, both}
use Rattle.vectors.specs.declared.vector.Segment.{Segment}
use Rattle.vectors.specs.declared.vector.IoVector.{IoVector}
use Rattle.vectors.specs.Vectors.{segments_of, size_of, lies_in, all_segments, segments_fit, vector_of, is_valid, glued, refused_vector}
use Rattle.vectors.specs.Vectors.{changed_to, push_of, inserted_at, insert_of, append_of}
use Rattle.vectors.specs.Joining.{Joins, Gluing, GluesAll, glued_of}
use Rattle.vectors.specs.SegmentLaws.{size_cut, all_cut, Valid, valid, valid_true}
use Rattle.vectors.specs.SeamLaws.{glued_size, glued_lies, glued_longer, glued_nothing}
use Rattle.vectors.proofs.Pass.{in_use}
use Rattle.vectors.proofs.Building.{its, joins_of, gluing_of}
use Rattle.vectors.proofs.Gluing.{glued_is, glued_not}

-- ---- what a call returns whose segments would be js, of a valid vector

module _ (n : ℕ) (v : IoVector) (js : List Segment) where
  too_many : 16 < length js → refused_vector ≡ changed_to n v js
  unfolding changed_to segments_fit
  too_many h = rw (lt-leb (length js) 16 h, and-false)

  too_long : 1048576 < size_of js → refused_vector ≡ changed_to n v js
  unfolding changed_to segments_fit
  too_long h = rw (lt-leb (size_of js) 1048576 h, and-false (all_segments (lies_in n) js), and-false, and-false)

  changed : (u : IoVector) → is_valid n v ≡ true → all_segments (lies_in n) js ≡ true → length js ≤ 16 → size_of js ≤ 1048576 → u ≡ vector_of js
      → Ok u ≡ changed_to n v js
  unfolding changed_to segments_fit
  changed u e a h k f = rw (e, a, le-leb (length js) 16 h, le-leb (size_of js) 1048576 k, f)

-- what was glued behind the vector of xs
module _ (u : IoVector) (xs qs : List Segment) (e : u ≡ vector_of xs) where
  fitting : (r : IoVector) → Some r ≡ glued_of u qs → (r ≡ vector_of (glued xs qs)) × (length (glued xs qs) ≤ 16)
  fitting r g = rw (its e) at (glued_is u qs r g)

  not_fitting : None ≡ glued_of u qs → 16 < length (glued xs qs)
  not_fitting g = rw (its e) at (glued_not u qs g)

-- ---- tests of what other calls returned

pub tests_are : (x : Bool) {a b c d : Bool} → a ≡ b → c ≡ d → ((x && a) && c) ≡ ((x && b) && d)
tests_are x e f = rw (e, f)

pub both_are : {a b c d : Bool} → a ≡ b → c ≡ d → (a && c) ≡ (b && d)
both_are e f = rw (e, f)

-- ---- insert

pub insert_not : (n : ℕ) (v : IoVector) (i : ℕ) (p : Segment) → ((leb i v.count && is_valid n v) && lies_in n p) ≡ false
    → refused_vector ≡ insert_of n v i p
unfolding insert_of changed_to
insert_not n v i p t = go (leb i v.count) (lies_in n p) (is_valid n v) refl refl refl
  where
    go : (a b c : Bool) → leb i v.count ≡ a → lies_in n p ≡ b → is_valid n v ≡ c → refused_vector ≡ insert_of n v i p
    go false b c e f g = rw e
    go true false c e f g = rw (e, f)
    go true true false e f g = rw (e, f, g)
    go true true true e f g = absurd (false≢true (sym (rw (e, f, g) at t)))

module _ (n : ℕ) (v : IoVector) (i : ℕ) (p : Segment) (wide : length v.segments ≡ 16)
    (t : ((leb i v.count && is_valid n v) && lies_in n p) ≡ true) where
  abbrev ps : List Segment
  ps = segments_of v

  abbrev front : List Segment
  front = glued (take i ps) (p ∷ [])

  pub insert_reach : i ≤ v.count
  insert_reach = leb-true _ _ (and_left (leb i v.count) (is_valid n v) (and_left (leb i v.count && is_valid n v) (lies_in n p) t))

  pub insert_valid : Valid n v
  insert_valid = valid n v (and_right (leb i v.count) (is_valid n v) (and_left (leb i v.count && is_valid n v) (lies_in n p) t))

  lie : lies_in n p ≡ true
  lie = and_right (leb i v.count && is_valid n v) (lies_in n p) t

  long : length ps ≡ v.count
  long = in_use v wide insert_valid.few

  insert_is : changed_to n v (glued front (drop i ps)) ≡ insert_of n v i p
  unfolding insert_of inserted_at
  insert_is = rw (le-leb i v.count insert_reach, lie)

  sizes : size_of (glued front (drop i ps)) ≡ v.total + p.length
  unfolding size_of
  sizes =
      omega (arith, glued_size (drop i ps) front, glued_size (p ∷ []) (take i ps), size_cut i ps, insert_valid.total)

  all_lie : all_segments (lies_in n) (glued front (drop i ps)) ≡ true
  unfolding all_segments
  all_lie =
      let a : (all_segments (lies_in n) (take i ps) && all_segments (lies_in n) (drop i ps)) ≡ true = all_cut (lies_in n) i ps ∙ insert_valid.fit.lie in
      let f = and_left (all_segments (lies_in n) (take i ps)) (all_segments (lies_in n) (drop i ps)) a in
      let b = and_right (all_segments (lies_in n) (take i ps)) (all_segments (lies_in n) (drop i ps)) a in
      glued_lies (drop i ps) n b front (glued_lies (p ∷ []) n (both _ _ lie refl) (take i ps) f)

  pub insert_long : 1048576 - v.total < p.length → refused_vector ≡ insert_of n v i p
  insert_long h = too_long n v (glued front (drop i ps)) (omega (arith, sizes, insert_valid.total, insert_valid.fit.small)) ∙ insert_is

  module _ (h : p.length ≤ 1048576 - v.total) where
    small : size_of (glued front (drop i ps)) ≤ 1048576
    small = omega (arith, sizes, insert_valid.total, insert_valid.fit.small)

    pub insert_first : (u : IoVector) → u ≡ vector_of [] → Joins u v 0 i
    unfolding size_of
    insert_first u e =
        joins_of u [] e v 0 i (omega (arith, insert_reach, insert_valid.few)) (omega (arith, insert_reach)) insert_valid.few
        (omega (arith, size_cut i ps, insert_valid.fit.small))

    module _ (u : IoVector) (e : u ≡ vector_of (take i ps)) where
      pub insert_glues : Gluing u p.length
      insert_glues =
          gluing_of u (take i ps) e p.length (omega (arith, length-take i ps, long, insert_valid.few))
          (omega (arith, size_cut i ps, insert_valid.total, insert_valid.fit.small))

      pub insert_full : None ≡ glued_of u (p ∷ []) → refused_vector ≡ insert_of n v i p
      insert_full g =
          too_many n v (glued front (drop i ps))
          (omega (arith, not_fitting u (take i ps) (p ∷ []) e g, glued_longer front (drop i ps))) ∙ insert_is

      module _ (r : IoVector) (g : Some r ≡ glued_of u (p ∷ [])) where
        first_is : (r ≡ vector_of front) × (length front ≤ 16)
        first_is = fitting u (take i ps) (p ∷ []) e r g

        rest : take (v.count - i) (drop i ps) ≡ drop i ps
        rest = take_all (v.count - i) (drop i ps) (simp length-drop (omega (arith, long)))

        pub insert_rest : GluesAll r v i (v.count - i)
        insert_rest = record {
          asked = gluing_of r front first_is.0 (size_of (take (v.count - i) (drop i ps))) first_is.1
              (rw rest (omega (arith, small, glued_size (drop i ps) front)));
          whole = omega (arith, insert_reach);
          most = insert_valid.few;
        }

        pub insert_over : None ≡ glued_of r (take (v.count - i) (drop i ps)) → refused_vector ≡ insert_of n v i p
        insert_over k =
            too_many n v (glued front (drop i ps)) (not_fitting r front (drop i ps) first_is.0 (k ∙ ap (glued_of r) rest)) ∙ insert_is

        pub insert_done : (w : IoVector) → Some w ≡ glued_of r (take (v.count - i) (drop i ps)) → Ok w ≡ insert_of n v i p
        insert_done w k =
            let y = fitting r front (drop i ps) first_is.0 w (k ∙ ap (glued_of r) rest) in
            changed n v (glued front (drop i ps)) w (valid_true n v insert_valid) all_lie y.1 small y.0 ∙ insert_is

-- push is an insert at the end
pub push_is : (n : ℕ) (v : IoVector) (p : Segment) → insert_of n v v.count p ≡ push_of n v p
unfolding insert_of inserted_at push_of
push_is n v p =
    let ps = segments_of v in
    let l : length ps ≤ v.count = omega (arith, length-take v.count v.segments) in
    let e : glued (glued (take v.count ps) (p ∷ [])) (drop v.count ps) ≡ glued ps (p ∷ []) =
    ap (glued (glued (take v.count ps) (p ∷ []))) (drop_of_length-le ps l) ∙ glued_nothing (glued (take v.count ps) (p ∷ []))
    ∙ ap (λ (x : List Segment). glued x (p ∷ [])) (take_all v.count ps l) in
    rw (le-leb v.count v.count (omega arith), e)

-- ---- append

pub append_not : (n : ℕ) (v w : IoVector) → (is_valid n w && is_valid n v) ≡ false → refused_vector ≡ append_of n v w
unfolding append_of changed_to
append_not n v w t = go (is_valid n w) (is_valid n v) refl refl
  where
    go : (a b : Bool) → is_valid n w ≡ a → is_valid n v ≡ b → refused_vector ≡ append_of n v w
    go false b e f = rw e
    go true false e f = rw (e, f)
    go true true e f = absurd (false≢true (sym (rw (e, f) at t)))

module _ (n : ℕ) (v w : IoVector) (wide : length v.segments ≡ 16) (wide' : length w.segments ≡ 16)
    (t : (is_valid n w && is_valid n v) ≡ true) where
  abbrev js : List Segment
  js = glued (segments_of v) (segments_of w)

  pub append_valid : Valid n v
  append_valid = valid n v (and_right (is_valid n w) (is_valid n v) t)

  other : Valid n w
  other = valid n w (and_left (is_valid n w) (is_valid n v) t)

  append_is : changed_to n v js ≡ append_of n v w
  unfolding append_of
  append_is = rw (and_left (is_valid n w) (is_valid n v) t)

  both_sizes : size_of js ≡ v.total + w.total
  both_sizes = omega (arith, glued_size (segments_of w) (segments_of v), append_valid.total, other.total)

  pub append_long : 1048576 - v.total < w.total → refused_vector ≡ append_of n v w
  append_long h = too_long n v js (omega (arith, both_sizes, append_valid.total, append_valid.fit.small)) ∙ append_is

  own : take v.count (segments_of v) ≡ segments_of v
  own = take_all v.count (segments_of v) (omega (arith, in_use v wide append_valid.few))

  others : take w.count (segments_of w) ≡ segments_of w
  others = take_all w.count (segments_of w) (omega (arith, in_use w wide' other.few))

  pub append_first : (u : IoVector) → u ≡ vector_of [] → Joins u v 0 v.count
  unfolding size_of
  append_first u e =
      joins_of u [] e v 0 v.count (omega (arith, append_valid.few)) (omega arith) append_valid.few
      (rw own (omega (arith, append_valid.fit.small)))

  module _ (h : w.total ≤ 1048576 - v.total) (u : IoVector) (e : u ≡ vector_of (take v.count (segments_of v))) where
    is_own : u ≡ vector_of (segments_of v)
    is_own = e ∙ ap vector_of own

    pub append_rest : GluesAll u w 0 w.count
    append_rest = record {
      asked = gluing_of u (segments_of v) is_own (size_of (take w.count (segments_of w)))
          (omega (arith, in_use v wide append_valid.few, append_valid.few))
          (rw others (omega (arith, append_valid.total, append_valid.fit.small, other.total)));
      whole = omega arith;
      most = other.few;
    }

    pub append_over : None ≡ glued_of u (take w.count (segments_of w)) → refused_vector ≡ append_of n v w
    append_over k = too_many n v js (not_fitting u (segments_of v) (segments_of w) is_own (k ∙ ap (glued_of u) others)) ∙ append_is

    pub append_done : (r : IoVector) → Some r ≡ glued_of u (take w.count (segments_of w)) → Ok r ≡ append_of n v w
    append_done r k =
        let y = fitting u (segments_of v) (segments_of w) is_own r (k ∙ ap (glued_of u) others) in
        changed n v js r (valid_true n v append_valid)
        (glued_lies (segments_of w) n other.fit.lie (segments_of v) append_valid.fit.lie) y.1
        (omega (arith, both_sizes, append_valid.total, append_valid.fit.small)) y.0
        ∙ append_is
