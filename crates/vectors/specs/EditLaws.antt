-- What push, insert, append and the splits return is valid, or the call was refused and the vector is as it was. Assumes nothing.
use Rattle.std.specs.Prelude.{◌≡◌, refl, Result, Ok, Err, Bool, true, false, ◌&&◌, List, [], ◌∷◌, ◌⊎◌, ℕ, leb}
use Rattle.std.proofs.Common.{ap, inl, inr}
use Rattle.arithmetic.specs.Rounding.{pick}
use Rattle.arithmetic.specs.RoundingLaws.{picked}
use Rattle.arithmetic.specs.SettingsLaws.{and_right}
use Rattle.arithmetic.specs.declared.refusals.Refusal.{Refusal}
use Rattle.arithmetic.specs.declared.refusals.Refusal.TheVariants.{Segment as BadSegment}
use Rattle.vectors.specs.declared.vector.Segment.{Segment}
use Rattle.vectors.specs.declared.vector.IoVector.{IoVector}
use Rattle.vectors.specs.Vectors.{segments_of, lies_in, segments_fit, vector_of, is_valid, glued, refused_vector}
use Rattle.vectors.specs.Vectors.{vector_after, changed_to, push_of, inserted_at}
use Rattle.vectors.specs.Vectors.{insert_of, append_of, head_of, tail_of, halves_of, rest_of, split_of, split_tail_of}
use Rattle.vectors.specs.Vectors.{halves_after, tail_after}
use Rattle.vectors.specs.SegmentLaws.{fit_true, valid, segments_of_lem, vector_valid}
use Rattle.vectors.specs.SplitLaws.{head_fits, tail_fits}

-- the edit was carried out: the vector has the segments ps, and is valid
pub record EditedTo (n : ℕ) (ps : List Segment) (c : Result IoVector Refusal) : Type 0 where
  pub vector : IoVector
  pub done : c ≡ Ok vector
  pub segments : segments_of vector ≡ ps
  pub valid : is_valid n vector ≡ true

-- it was refused, and its caller has the vector as it was
abbrev pub LeftAs : IoVector → Result IoVector Refusal → Type 0
LeftAs v c = (c ≡ refused_vector) × (vector_after v c ≡ v)

left : (v : IoVector) (c : Result IoVector Refusal) → c ≡ refused_vector → LeftAs v c
left v c e = (e, ap (vector_after v) e)

pub changed : (n : ℕ) (v : IoVector) (ps : List Segment) → EditedTo n ps (changed_to n v ps) ⊎ LeftAs v (changed_to n v ps)
unfolding changed_to
changed n v ps = go (is_valid n v && segments_fit n ps) refl
  where
    go : (t : Bool) → (is_valid n v && segments_fit n ps) ≡ t → EditedTo n ps (changed_to n v ps) ⊎ LeftAs v (changed_to n v ps)
    go true e =
        let f = vector_valid n ps (and_right (is_valid n v) (segments_fit n ps) e) in
        inl (record { vector = vector_of ps; done = rw e; segments = segments_of_lem ps; valid = f })
    go false e = inr (left v _ (rw e))

module _ (n : ℕ) (v : IoVector) where
  -- a call that is carried out if t, and then gives the segments ps
  when_asked : (t : Bool) (ps : List Segment) → EditedTo n ps (pick t (changed_to n v ps) refused_vector)
      ⊎ LeftAs v (pick t (changed_to n v ps) refused_vector)
  when_asked true ps = changed n v ps
  when_asked false ps = inr (left v _ refl)

  pub pushed : (p : Segment) → EditedTo n (glued (segments_of v) (p ∷ [])) (push_of n v p) ⊎ LeftAs v (push_of n v p)
  unfolding push_of
  pushed p = when_asked (lies_in n p) (glued (segments_of v) (p ∷ []))

  pub inserted : (i : ℕ) (p : Segment) → EditedTo n (inserted_at i (segments_of v) p) (insert_of n v i p)
      ⊎ LeftAs v (insert_of n v i p)
  unfolding insert_of
  inserted i p = when_asked (leb i v.count && lies_in n p) (inserted_at i (segments_of v) p)

  pub appended : (w : IoVector)
      → EditedTo n (glued (segments_of v) (segments_of w)) (append_of n v w) ⊎ LeftAs v (append_of n v w)
  unfolding append_of
  appended w = when_asked (is_valid n w) (glued (segments_of v) (segments_of w))

-- the two parts of a valid vector, as its split gives them, are valid
module _ (n : ℕ) (v : IoVector) (mid : ℕ) (e : is_valid n v ≡ true) where
  pub split_head : (segments_of (halves_after v (split_of n v mid)).head ≡ head_of (segments_of v) mid)
      × (is_valid n (halves_after v (split_of n v mid)).head ≡ true)
  unfolding split_of
  split_head = rw e (
    segments_of_lem (head_of (segments_of v) mid),
    vector_valid n (head_of (segments_of v) mid)
        (head_fits n (segments_of v) mid (fit_true n (segments_of v) (valid n v e).fit)),
  )

  pub split_tail : (segments_of (halves_after v (split_of n v mid)).tail ≡ tail_of (segments_of v) mid)
      × (is_valid n (halves_after v (split_of n v mid)).tail ≡ true)
  unfolding split_of
  split_tail = rw e (
    segments_of_lem (tail_of (segments_of v) mid),
    vector_valid n (tail_of (segments_of v) mid)
        (tail_fits n (segments_of v) mid (fit_true n (segments_of v) (valid n v e).fit)),
  )

  -- a split for the tail alone gives the other's tail and number
  pub tail_only : split_tail_of n v mid
      ≡ Ok (record { vector = (halves_after v (split_of n v mid)).tail; looked = (halves_after v (split_of n v mid)).looked })
  unfolding split_of split_tail_of
  tail_only = rw e

  pub split_done : split_of n v mid ≡ Ok (halves_of v mid)
  unfolding split_of
  split_done = rw e

-- what the caller has after either split: the parts, or, where it is refused, the vector as it was, and no segment was looked at
module _ (n : ℕ) (v : IoVector) (mid : ℕ) where
  pub split_after : halves_after v (split_of n v mid)
      ≡ pick (is_valid n v) (halves_of v mid) (record { head = v; tail = vector_of []; looked = 0 })
  unfolding split_of
  split_after = picked (halves_after v) (is_valid n v) (Ok (halves_of v mid)) (Err BadSegment)

  pub split_tail_after : tail_after v (split_tail_of n v mid) ≡ pick (is_valid n v) (rest_of v mid) (record { vector = v; looked = 0 })
  unfolding split_tail_of
  split_tail_after = picked (tail_after v) (is_valid n v) (Ok (rest_of v mid)) (Err BadSegment)
