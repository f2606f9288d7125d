-- Laws of a split: bytes, sizes and flat positions of head and tail are those of the whole, and parts of a list that fits fit. Assumes
-- nothing.
use Rattle.std.specs.Prelude.{◌≡◌, Bool, true, false, ◌⊎◌, ℕ, zero, suc, ◌+◌, ◌-◌, ◌*◌, ◌≤◌, ◌<◌, min, eqb, take, drop, get_or}
use Rattle.std.proofs.Math.Path.{refl, ap}
use Rattle.std.proofs.Common.{sym, ◌∙◌, inl, inr, not-suc-le-zero, le_of_suc-le-suc, add-one, length-append, take-add, drop-drop}
use Rattle.std.proofs.Common.{length-take-le, lt-ltb, le-ltb, eq-eqb, ne_eqb}
use mathlib.Core.List.{List, [], ◌∷◌, ◌++◌, append_assoc, append-nil}
use Rattle.std.proofs.Math.Logic.{⊎_elim}
use Rattle.std.proofs.Math.Decide.{dec_lt}
use native.Mathlib.Omega.{arith}
use Rattle.std.proofs.Math.ListN.{length, length-drop}
use Rattle.arithmetic.specs.Rounding.{pick}
use Rattle.arithmetic.specs.SettingsLaws.{and_left, and_right, both}
use Rattle.vectors.specs.declared.vector.Segment.{Segment}
use Rattle.vectors.specs.declared.vector.SplitPosition.{SplitPosition}
use Rattle.vectors.specs.Vectors.{segment, none, size_of, lies_in, all_segments, segments_fit, head_of, tail_of, is_past_half, looked_at}
use Rattle.vectors.specs.Vectors.{bytes_of}
use Rattle.vectors.specs.Positions.{position, behind, position_of, head_at, tail_at}
use Rattle.vectors.specs.Places.{place_of}
use Rattle.vectors.specs.SegmentLaws.{size_cut, Lies, lies, lies_true, fit, fit_true}

-- ---- the three cases of a split at a list's first segment

pub record Before (p : Segment) (ps : List Segment) (mid : ℕ) : Type 0 where
  pub is : mid ≡ 0
  pub head : head_of (p ∷ ps) mid ≡ []
  pub tail : tail_of (p ∷ ps) mid ≡ p ∷ ps

pub record Within (p : Segment) (ps : List Segment) (mid : ℕ) : Type 0 where
  pub some : 0 < mid
  pub is : mid < p.length
  pub head : head_of (p ∷ ps) mid ≡ segment p.start mid ∷ []
  pub tail : tail_of (p ∷ ps) mid ≡ segment (p.start + mid) (p.length - mid) ∷ ps

pub record Past (p : Segment) (ps : List Segment) (mid : ℕ) : Type 0 where
  pub some : 0 < mid
  pub is : p.length ≤ mid
  pub head : head_of (p ∷ ps) mid ≡ p ∷ head_of ps (mid - p.length)
  pub tail : tail_of (p ∷ ps) mid ≡ tail_of ps (mid - p.length)

pub cases : (p : Segment) (ps : List Segment) (mid : ℕ) → Before p ps mid ⊎ (Within p ps mid ⊎ Past p ps mid)
unfolding head_of tail_of
cases p ps mid = elim (dec_lt 0 mid) [
  | yes h ↦
      let z : mid ≡ 0 → ⊥ = omega arith in
      elim (dec_lt mid p.length) [
        | yes l ↦ inr (inl (record {
          some = h;
          is = l;
          head = simp (ne_eqb mid 0 z, lt-ltb mid p.length l);
          tail = simp (ne_eqb mid 0 z, lt-ltb mid p.length l);
        }))
        | no l ↦
            let k : p.length ≤ mid = omega arith in
            inr (inr (record {
              some = h;
              is = k;
              head = simp (ne_eqb mid 0 z, le-ltb mid p.length k);
              tail = simp (ne_eqb mid 0 z, le-ltb mid p.length k);
            }))
      ]
  | no h ↦ let z : mid ≡ 0 = omega arith in inl (record { is = z; head = simp (eq-eqb mid 0 z); tail = simp (eq-eqb mid 0 z) })
]

-- ---- bytes

pub parts : (d : List ℕ) (s m n : ℕ) → take m (drop s d) ++ take n (drop (s + m) d) ≡ take (m + n) (drop s d)
parts d s m n = ap (λ (t : List ℕ). take m (drop s d) ++ take n t) (sym (drop-drop m s d)) ∙ sym (take-add m n (drop s d))

-- the bytes of the head and then of the tail are those of the whole, wherever the split falls
pub split_bytes : (d : List ℕ) (ps : List Segment) (mid : ℕ) → bytes_of d (head_of ps mid) ++ bytes_of d (tail_of ps mid) ≡ bytes_of d ps
unfolding bytes_of head_of tail_of
split_bytes d [] mid = refl
split_bytes d (p ∷ ps) mid =
    ⊎_elim (λ b. rw (b.head, b.tail)) (λ r. ⊎_elim (λ w. inside w) (λ b. past b (split_bytes d ps (mid - p.length))) r) (cases p ps mid)
  where
    inside : Within p ps mid → bytes_of d (head_of (p ∷ ps) mid) ++ bytes_of d (tail_of (p ∷ ps) mid) ≡ bytes_of d (p ∷ ps)
    inside w =
        let a = take mid (drop p.start d) in
        let b = take (p.length - mid) (drop (p.start + mid) d) in
        let e : mid + (p.length - mid) ≡ p.length = omega (arith, w.is) in
        rw (w.head, w.tail)
        (ap (λ (t : List ℕ). t ++ (b ++ bytes_of d ps)) (append-nil a)
        ∙ sym (append_assoc a b (bytes_of d ps))
        ∙ ap (λ (t : List ℕ). t ++ bytes_of d ps) (parts d p.start mid (p.length - mid) ∙ ap (λ (n : ℕ). take n (drop p.start d)) e))

    past : Past p ps mid → bytes_of d (head_of ps (mid - p.length)) ++ bytes_of d (tail_of ps (mid - p.length)) ≡ bytes_of d ps
        → bytes_of d (head_of (p ∷ ps) mid) ++ bytes_of d (tail_of (p ∷ ps) mid) ≡ bytes_of d (p ∷ ps)
    past b ih = rw (b.head, b.tail, append_assoc, ih)

-- ---- sizes

pub head_size : (ps : List Segment) (mid : ℕ) → size_of (head_of ps mid) ≡ min mid (size_of ps)
unfolding size_of head_of
head_size [] mid = omega arith
head_size (p ∷ ps) mid =
    ⊎_elim (λ b. rw b.head (omega (arith, b.is)))
    (λ r. ⊎_elim (λ w. rw w.head (omega (arith, w.is))) (λ b. rw b.head (omega (arith, b.is, head_size ps (mid - p.length)))) r)
    (cases p ps mid)

pub tail_size : (ps : List Segment) (mid : ℕ) → size_of (tail_of ps mid) ≡ size_of ps - mid
unfolding size_of tail_of
tail_size [] mid = omega arith
tail_size (p ∷ ps) mid =
    ⊎_elim (λ b. rw b.tail (omega (arith, b.is)))
    (λ r. ⊎_elim (λ w. rw w.tail (omega (arith, w.is))) (λ b. rw b.tail (omega (arith, b.is, tail_size ps (mid - p.length)))) r)
    (cases p ps mid)

-- ---- what fits

head_few : (ps : List Segment) (mid : ℕ) → length (head_of ps mid) ≤ length ps
unfolding head_of
head_few [] mid = omega arith
head_few (p ∷ ps) mid =
    ⊎_elim (λ b. rw b.head (omega arith))
    (λ r. ⊎_elim (λ w. rw w.head (omega arith)) (λ b. rw b.head (omega (arith, head_few ps (mid - p.length)))) r)
    (cases p ps mid)

tail_few : (ps : List Segment) (mid : ℕ) → length (tail_of ps mid) ≤ length ps
unfolding tail_of
tail_few [] mid = omega arith
tail_few (p ∷ ps) mid =
    ⊎_elim (λ b. rw b.tail (omega arith))
    (λ r. ⊎_elim (λ w. rw w.tail (omega arith)) (λ b. rw b.tail (omega (arith, tail_few ps (mid - p.length)))) r)
    (cases p ps mid)

module _ (n : ℕ) where
  head_lies : (ps : List Segment) (mid : ℕ) → all_segments (lies_in n) ps ≡ true → all_segments (lies_in n) (head_of ps mid) ≡ true
  unfolding head_of all_segments
  head_lies [] mid e = refl
  head_lies (p ∷ ps) mid e =
      let l = lies n p (and_left (lies_in n p) (all_segments (lies_in n) ps) e) in
      ⊎_elim (λ b. rw b.head)
      (λ r. ⊎_elim (λ w. rw w.head (both _ _ (lies_true n (segment p.start mid) (record {
        positive = w.some;
        ends = omega (arith, w.is, l.ends);
      })) refl))
      (λ b. rw b.head (both _ _ (and_left (lies_in n p) (all_segments (lies_in n) ps) e)
      (head_lies ps (mid - p.length) (and_right (lies_in n p) (all_segments (lies_in n) ps) e)))) r)
      (cases p ps mid)

  tail_lies : (ps : List Segment) (mid : ℕ) → all_segments (lies_in n) ps ≡ true → all_segments (lies_in n) (tail_of ps mid) ≡ true
  unfolding tail_of all_segments
  tail_lies [] mid e = refl
  tail_lies (p ∷ ps) mid e =
      let l = lies n p (and_left (lies_in n p) (all_segments (lies_in n) ps) e) in
      let r = and_right (lies_in n p) (all_segments (lies_in n) ps) e in
      ⊎_elim (λ b. rw b.tail e)
      (λ k. ⊎_elim (λ w. rw w.tail (both _ _ (lies_true n (segment (p.start + mid) (p.length - mid))
      (record { positive = omega (arith, w.is); ends = omega (arith, w.is, l.ends) })) r))
      (λ b. rw b.tail (tail_lies ps (mid - p.length) r)) k)
      (cases p ps mid)

  pub head_fits : (ps : List Segment) (mid : ℕ) → segments_fit n ps ≡ true → segments_fit n (head_of ps mid) ≡ true
  head_fits ps mid e =
      let f = fit n ps e in
      fit_true n (head_of ps mid) (record {
        few = omega (arith, f.few, head_few ps mid);
        lie = head_lies ps mid f.lie;
        small = omega (arith, f.small, head_size ps mid);
      })

  pub tail_fits : (ps : List Segment) (mid : ℕ) → segments_fit n ps ≡ true → segments_fit n (tail_of ps mid) ≡ true
  tail_fits ps mid e =
      let f = fit n ps e in
      fit_true n (tail_of ps mid) (record {
        few = omega (arith, f.few, tail_few ps mid);
        lie = tail_lies ps mid f.lie;
        small = omega (arith, f.small, tail_size ps mid);
      })

-- ---- flat positions

-- byte i of the head is byte i of the whole
pub head_place : (ps : List Segment) (mid i : ℕ) → i < mid → i < size_of ps → place_of (head_of ps mid) i ≡ place_of ps i
unfolding place_of size_of head_of
head_place [] mid i h l = absurd (omega arith)
head_place (p ∷ ps) mid i h l =
    ⊎_elim (λ b. absurd (omega (arith, b.is)))
    (λ r. ⊎_elim (λ w. inside w) (λ b. past b (λ g. head_place ps (mid - p.length) (i - p.length) (omega (arith, b.is)) (omega arith)))
    r)
    (cases p ps mid)
  where
    inside : Within p ps mid → place_of (head_of (p ∷ ps) mid) i ≡ place_of (p ∷ ps) i
    inside w = let k : i < p.length = omega (arith, w.is) in rw w.head (rw (lt-ltb i mid h, lt-ltb i p.length k))

    past : Past p ps mid → (p.length ≤ i → place_of (head_of ps (mid - p.length)) (i - p.length) ≡ place_of ps (i - p.length)) →
        place_of (head_of (p ∷ ps) mid) i ≡ place_of (p ∷ ps) i
    past b f = rw b.head (elim (dec_lt i p.length) [
      | yes k ↦ rw (lt-ltb i p.length k)
      | no k ↦ let g : p.length ≤ i = omega arith in rw (le-ltb i p.length g) (f g)
    ])

-- and byte i of the tail is byte mid + i
pub tail_place : (ps : List Segment) (mid i : ℕ) → mid + i < size_of ps → place_of (tail_of ps mid) i ≡ place_of ps (mid + i)
unfolding place_of size_of tail_of
tail_place [] mid i l = absurd (omega arith)
tail_place (p ∷ ps) mid i l =
    ⊎_elim (λ b. before b)
    (λ r. ⊎_elim (λ w. inside w) (λ b. past b (tail_place ps (mid - p.length) i (omega (arith, b.is)))) r)
    (cases p ps mid)
  where
    before : Before p ps mid → place_of (tail_of (p ∷ ps) mid) i ≡ place_of (p ∷ ps) (mid + i)
    before b = let k : i ≡ mid + i = omega (arith, b.is) in rw b.tail (ap (place_of (p ∷ ps)) k)

    inside : Within p ps mid → place_of (tail_of (p ∷ ps) mid) i ≡ place_of (p ∷ ps) (mid + i)
    inside w = rw w.tail (elim (dec_lt i (p.length - mid)) [
      | yes k ↦
          let m : mid + i < p.length = omega arith in
          rw (lt-ltb i (p.length - mid) k, lt-ltb (mid + i) p.length m) (omega arith)
      | no k ↦
          let g : p.length - mid ≤ i = omega arith in
          let m : p.length ≤ mid + i = omega (arith, w.is) in
          let e : i - (p.length - mid) ≡ mid + i - p.length = omega (arith, w.is) in
          rw (le-ltb i (p.length - mid) g, le-ltb (mid + i) p.length m) (ap (place_of ps) e)
    ])

    past : Past p ps mid → place_of (tail_of ps (mid - p.length)) i ≡ place_of ps (mid - p.length + i)
        → place_of (tail_of (p ∷ ps) mid) i ≡ place_of (p ∷ ps) (mid + i)
    past b f =
        let m : p.length ≤ mid + i = omega (arith, b.is) in
        let e : mid - p.length + i ≡ mid + i - p.length = omega (arith, b.is) in
        rw (b.tail, le-ltb (mid + i) p.length m) (f ∙ ap (place_of ps) e)

-- of two lists joined, the first's bytes come first
pub place_left : (ps qs : List Segment) (i : ℕ) → i < size_of ps → place_of (ps ++ qs) i ≡ place_of ps i
unfolding place_of size_of
place_left [] qs i l = absurd (omega arith)
place_left (p ∷ ps) qs i l = elim (dec_lt i p.length) [
  | yes k ↦ rw (lt-ltb i p.length k)
  | no k ↦ let g : p.length ≤ i = omega arith in rw (le-ltb i p.length g) (place_left ps qs (i - p.length) (omega arith))
]

pub place_right : (ps qs : List Segment) (i : ℕ) → place_of (ps ++ qs) (size_of ps + i) ≡ place_of qs i
unfolding place_of size_of
place_right [] qs i = let k : 0 + i ≡ i = omega arith in ap (place_of qs) k
place_right (p ∷ ps) qs i =
    let m : p.length ≤ p.length + size_of ps + i = omega arith in
    let e : p.length + size_of ps + i - p.length ≡ size_of ps + i = omega arith in
    rw (le-ltb (p.length + size_of ps + i) p.length m) (ap (place_of (ps ++ qs)) e ∙ place_right ps qs i)

-- ---- the position of a split

-- byte mid lies in the segment at i where the segments before it hold at most mid bytes, and with it more
pub position_at : (ps : List Segment) (i mid : ℕ) → i < length ps → size_of (take i ps) ≤ mid → mid < size_of (take (i + 1) ps) →
    position_of ps mid ≡ position i (mid - size_of (take i ps))
unfolding position_of size_of
position_at [] i mid h a b = absurd (not-suc-le-zero h)
position_at (p ∷ ps) zero mid h a b =
    let l : mid < p.length = omega arith in
    rw (lt-ltb mid p.length l) (ap (λ (m : ℕ). position 0 m) (omega arith))
position_at (p ∷ ps) (suc i) mid h a b =
    let l : p.length ≤ mid = omega arith in
    let d : mid < p.length + size_of (take (suc i) ps) = rw add-one at b in
    let c : mid - p.length < size_of (take (i + 1) ps) = rw add-one (omega arith) in
    let e = position_at ps i (mid - p.length) (le_of_suc-le-suc h) (omega arith) c in
    rw (le-ltb mid p.length l, e, add-one) (ap (λ (m : ℕ). position (suc i) m) (omega arith))

-- and so it does where the segments behind it hold less than the bytes from mid on, and with it as many: a walk from the last segment
-- finds the position that one from the first finds
pub position_from_end : (ps : List Segment) (i mid : ℕ) → i < length ps → mid + size_of (drop (i + 1) ps) < size_of ps →
    size_of ps ≤ mid + size_of (drop i ps) → position_of ps mid ≡ position i (mid + size_of (drop i ps) - size_of ps)
position_from_end ps i mid h a b =
    let e : mid - size_of (take i ps) ≡ mid + size_of (drop i ps) - size_of ps = omega (arith, size_cut i ps) in
    position_at ps i mid h (omega (arith, size_cut i ps)) (omega (arith, size_cut (i + 1) ps)) ∙ ap (λ (m : ℕ). position i m) e

-- at the total or past it the position is behind the last segment
pub position_past : (ps : List Segment) (mid : ℕ) → size_of ps ≤ mid → position_of ps mid ≡ position (length ps) 0
unfolding position_of size_of
position_past [] mid h = refl
position_past (p ∷ ps) mid h =
    let l : p.length ≤ mid = omega arith in
    rw (le-ltb mid p.length l, position_past ps (mid - p.length) (omega arith)) (ap (λ (i : ℕ). position i 0) (omega arith))

picked : (t : Bool) (p : Segment) (a b : List Segment) → pick t (p ∷ a) (p ∷ b) ≡ p ∷ pick t a b
picked true p a b = refl
picked false p a b = refl

-- one segment more in front
head_behind : (p : Segment) (ps : List Segment) (c : SplitPosition) → head_at (p ∷ ps) (behind 1 c) ≡ p ∷ head_at ps c
unfolding head_at
head_behind p ps c = rw add-one (picked (eqb c.inside 0) p (take c.index ps)
    (take c.index ps ++ (segment (get_or ps c.index none).start c.inside ∷ [])))

tail_behind : (p : Segment) (ps : List Segment) (c : SplitPosition) → tail_at (p ∷ ps) (behind 1 c) ≡ tail_at ps c
unfolding tail_at
tail_behind p ps c = rw (add-one c.index, add-one (suc c.index))

-- in a list of no empty segments
pub record Located (ps : List Segment) (mid : ℕ) : Type 0 where
  pub head : head_at ps (position_of ps mid) ≡ head_of ps mid
  pub tail : tail_at ps (position_of ps mid) ≡ tail_of ps mid
  pub reach : (position_of ps mid).index ≤ length ps
  pub part : ((position_of ps mid).inside ≡ 0 → ⊥) → ((position_of ps mid).index < length ps)
      × ((position_of ps mid).inside < (get_or ps (position_of ps mid).index none).length)

pub located : (n : ℕ) (ps : List Segment) (mid : ℕ) → all_segments (lies_in n) ps ≡ true → Located ps mid
unfolding position_of head_of tail_of head_at tail_at all_segments
located n [] mid e = record { head = refl; tail = refl; reach = omega arith; part = λ z. absurd (z refl) }
located n (p ∷ ps) mid e =
    let l = lies n p (and_left (lies_in n p) (all_segments (lies_in n) ps) e) in
    ⊎_elim (λ b. first b l) (λ r. ⊎_elim (λ w. inside w) (λ b. past b
    (located n ps (mid - p.length) (and_right (lies_in n p) (all_segments (lies_in n) ps) e))) r) (cases p ps mid)
  where
    first : Before p ps mid → Lies n p → Located (p ∷ ps) mid
    first b l =
        let k : mid < p.length = omega (arith, b.is, l.positive) in
        let q : position_of (p ∷ ps) mid ≡ position 0 0 = rw (lt-ltb mid p.length k) (ap (λ (m : ℕ). position 0 m) b.is) in
        record { head = rw q (sym b.head); tail = rw q (sym b.tail); reach = rw q (omega arith); part = rw q (λ z. absurd (z refl)) }

    inside : Within p ps mid → Located (p ∷ ps) mid
    inside w =
        let q : position_of (p ∷ ps) mid ≡ position 0 mid = simp (lt-ltb mid p.length w.is) in
        let z : mid ≡ 0 → ⊥ = omega (arith, w.some) in
        record {
          head = rw q (rw (ne_eqb mid 0 z, lt-ltb mid p.length w.is));
          tail = rw q (rw (ne_eqb mid 0 z, lt-ltb mid p.length w.is));
          reach = rw q (omega arith);
          part = rw q (λ y. (omega arith, w.is));
        }

    past : Past p ps mid → Located ps (mid - p.length) → Located (p ∷ ps) mid
    past b i =
        let q : position_of (p ∷ ps) mid ≡ behind 1 (position_of ps (mid - p.length)) = simp (le-ltb mid p.length b.is) in
        record {
          head = rw q (head_behind p ps (position_of ps (mid - p.length)) ∙ ap (λ (t : List Segment). p ∷ t) i.head ∙ sym b.head);
          tail = rw q (tail_behind p ps (position_of ps (mid - p.length)) ∙ i.tail ∙ sym b.tail);
          reach = rw q (omega (arith, i.reach));
          part = rw (q, add-one) (λ z. (omega (arith, (i.part z).0), (i.part z).1));
        }

-- ---- the segments looked at

head_at_0 : (ps : List Segment) → head_of ps 0 ≡ []
unfolding head_of
head_at_0 [] = refl
head_at_0 (p ∷ ps) = refl

-- the head has those before the position, and one more where that lies inside one; the tail has all the others, and that one too
module _ (n : ℕ) (ps : List Segment) (mid : ℕ) (e : all_segments (lies_in n) ps ≡ true) where
  abbrev c : SplitPosition
  c = position_of ps mid

  front : length (take c.index ps) ≡ c.index
  front = length-take-le c.index ps (located n ps mid e).reach

  pub head_count : length (head_of ps mid) ≡ pick (eqb c.inside 0) c.index (c.index + 1)
  unfolding head_at
  head_count =
      ap length (sym (located n ps mid e).head) ∙ (elim (dec_lt 0 c.inside) [
        | yes l ↦
            let z : c.inside ≡ 0 → ⊥ = omega arith in
            rw (ne_eqb c.inside 0 z) (length-append (take c.index ps) _ ∙ ap (λ (k : ℕ). k + 1) front)
        | no l ↦ let z : c.inside ≡ 0 = omega arith in rw (eq-eqb c.inside 0 z) front
      ])

  pub tail_count : length (tail_of ps mid) ≡ length ps - c.index
  unfolding tail_at
  tail_count =
      ap length (sym (located n ps mid e).tail) ∙ (elim (dec_lt 0 c.inside) [
        | yes l ↦
            let z : c.inside ≡ 0 → ⊥ = omega arith in
            rw (ne_eqb c.inside 0 z) (omega (arith, length-drop (c.index + 1) ps, ((located n ps mid e).part z).0))
        | no l ↦ let z : c.inside ≡ 0 = omega arith in rw (eq-eqb c.inside 0 z) (length-drop c.index ps)
      ])

  -- of a split at or past the total none
  pub looked_past : size_of ps ≤ mid → looked_at ps mid ≡ 0
  unfolding looked_at is_past_half head_of
  looked_past h = elim (dec_lt (size_of ps) (2 * mid)) [
    | yes l ↦
        let q = ap (λ (p : SplitPosition). p.index) (position_past ps mid h) in
        rw (lt-ltb (size_of ps) (2 * mid) l) (omega (arith, tail_count, q))
    | no l ↦
        let z : mid ≡ 0 = omega arith in
        let k : 2 * mid ≤ size_of ps = omega arith in
        rw (le-ltb (size_of ps) (2 * mid) k) (ap length (ap (head_of ps) z ∙ head_at_0 ps))
  ]

-- of one at 0 none
pub looked_at_0 : (ps : List Segment) → looked_at ps 0 ≡ 0
unfolding looked_at is_past_half
looked_at_0 ps = let k : 2 * 0 ≤ size_of ps = omega arith in rw (le-ltb (size_of ps) (2 * 0) k) (ap length (head_at_0 ps))

-- ---- computed: three segments of 3, 4 and 7 bytes, of which half is 7. Up to it the head's two are looked at, past it the tail's one.

abbrev uneven : List Segment
uneven = segment 2 3 ∷ (segment 8 4 ∷ (segment 19 7 ∷ []))

pub looked_at_half : looked_at uneven 7 ≡ 2
unfolding looked_at is_past_half head_of tail_of size_of
looked_at_half = refl

pub looked_past_half : looked_at uneven 8 ≡ 1
unfolding looked_at is_past_half head_of tail_of size_of
looked_past_half = refl
