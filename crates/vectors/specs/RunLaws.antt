-- What push, insert and append give, in positions of the data: the maximal runs, or 202 for more than 16; and that they and both splits
-- keep a vector in which no two neighbours touch. Assumes nothing.
use Rattle.std.specs.Prelude.{◌≡◌, Result, Ok, Err, Bool, ◌&&◌, not, ◌⊎◌, ℕ, zero, suc, ◌+◌, ◌-◌, ◌≤◌, ◌<◌, ltb, leb, length, take, get_or}
use Rattle.std.proofs.Math.Path.{refl, sym, ap}
use Rattle.std.proofs.Common.{◌∙◌, ⊎_elim, arith, length-append, get_or-append-add, eq-eqb, ne_eqb, lt-ltb, le-leb, ltb-true, le-ltb}
use Rattle.std.proofs.Math.Bool.{true, false}
use mathlib.Core.List.{List, [], ◌∷◌, ◌++◌, append_assoc}
use Rattle.std.proofs.Math.Decide.{dec_lt, ℕ_discrete}
use Rattle.std.proofs.Math.ListN.{drop, get_or-append}
use Rattle.std.proofs.Math.Seq.{append_snoc}
use Rattle.std.proofs.lemmas.Bool.{not-true}
use Rattle.arithmetic.specs.SettingsLaws.{and_left, and_right, both}
use Rattle.arithmetic.specs.Rounding.{pick}
use Rattle.arithmetic.specs.RoundingLaws.{picked}
use Rattle.arithmetic.specs.declared.refusals.Refusal.{Refusal}
use Rattle.arithmetic.specs.declared.refusals.Refusal.TheVariants.{Segment as BadSegment}
use Rattle.vectors.specs.declared.vector.Segment.{Segment}
use Rattle.vectors.specs.declared.vector.IoVector.{IoVector}
use Rattle.vectors.specs.Vectors.{segment, segments_of, size_of, lies_in, all_segments, segments_fit, is_valid, touches, seam}
use Rattle.vectors.specs.Vectors.{glued, changed_to, push_of, inserted_at, insert_of, append_of, head_of, tail_of, split_of}
use Rattle.vectors.specs.Vectors.{refused_vector, vector_after, vector_of, halves_of, rest_of, split_tail_of, halves_after, tail_after}
use Rattle.vectors.specs.Runs.{not_empty, touches_first, none_touch, up_from, positions, run_from, runs, MaximalRuns}
use Rattle.vectors.specs.Runs.{runs_or_refused, RunsAs}
use Rattle.vectors.specs.Places.{place_of}
use Rattle.vectors.specs.SegmentLaws.{valid, segments_of_lem, all_cut}
use Rattle.vectors.specs.SplitLaws.{cases}
use Rattle.vectors.specs.SeamLaws.{Touching, same_end, seam_cases, glued_lies, glued_none_touch}
use Rattle.vectors.specs.EditLaws.{EditedTo, LeftAs, pushed, inserted, appended}

-- ---- positions

up_length : (s n : ℕ) → length (up_from s n) ≡ n
unfolding up_from
up_length s zero = refl
up_length s (suc n) = ap suc (up_length (s + 1) n)

up_at : (s n i : ℕ) → i < n → get_or (up_from s n) i 0 ≡ s + i
unfolding up_from
up_at s zero i h = absurd (omega arith)
up_at s (suc n) zero h = let e : s ≡ s + 0 = omega arith in e
up_at s (suc n) (suc i) h = let e : s + 1 + i ≡ s + suc i = omega arith in up_at (s + 1) n i (omega arith) ∙ e

up_append : (s m n : ℕ) → up_from s m ++ up_from (s + m) n ≡ up_from s (m + n)
unfolding up_from
up_append s zero n = let e : 0 + n ≡ n = omega arith in let f : s + 0 ≡ s = omega arith in rw (e, f)
up_append s (suc m) n =
    let e : suc m + n ≡ suc (m + n) = omega arith in
    let f : s + suc m ≡ s + 1 + m = omega arith in
    rw (e, f) (ap (λ (l : List ℕ). s ∷ l) (up_append (s + 1) m n))

-- as many as there are bytes
pub positions_length : (ps : List Segment) → length (positions ps) ≡ size_of ps
unfolding positions size_of
positions_length [] = refl
positions_length (p ∷ ps) =
    omega (arith, length-append (up_from p.start p.length) (positions ps), up_length p.start p.length, positions_length ps)

pub positions_append : (ps qs : List Segment) → positions (ps ++ qs) ≡ positions ps ++ positions qs
unfolding positions
positions_append [] qs = refl
positions_append (p ∷ ps) qs =
    ap (λ (l : List ℕ). up_from p.start p.length ++ l) (positions_append ps qs)
    ∙ sym (append_assoc (up_from p.start p.length) (positions ps) (positions qs))

-- position i is where byte i of the segments stands
pub positions_at : (ps : List Segment) (i : ℕ) → i < size_of ps → get_or (positions ps) i 0 ≡ place_of ps i
unfolding positions place_of size_of
positions_at [] i h = absurd (omega arith)
positions_at (p ∷ ps) i h =
    let a = up_from p.start p.length in
    let n : length a ≡ p.length = up_length p.start p.length in
    elim (dec_lt i p.length) [
      | yes l ↦ rw (lt-ltb i p.length l) (get_or-append a (positions ps) 0 i (omega (arith, n)) ∙ up_at p.start p.length i l)
      | no l ↦
          let g : p.length ≤ i = omega arith in
          let k : i ≡ length a + (i - p.length) = omega (arith, n) in
          rw (le-ltb i p.length g) (ap (λ (j : ℕ). get_or (a ++ positions ps) j 0) k ∙ get_or-append-add a (positions ps) (i - p.length) 0
          ∙ positions_at ps (i - p.length) (omega arith))
    ]

seam_positions : (p : Segment) (qs : List Segment) → positions (seam p qs) ≡ up_from p.start p.length ++ positions qs
unfolding positions seam
seam_positions p [] = refl
seam_positions p (q ∷ qs) = ⊎_elim touching (λ a. rw a.is) (seam_cases p q qs)
  where
    touching : Touching p q qs → positions (seam p (q ∷ qs)) ≡ up_from p.start p.length ++ positions (q ∷ qs)
    touching t =
        let a = up_from p.start p.length in
        let b = up_from q.start q.length in
        let e : up_from p.start (p.length + q.length) ≡ a ++ b =
        sym (up_append p.start p.length q.length) ∙ ap (λ (s : ℕ). a ++ up_from s q.length) t.ends in
        rw t.is (ap (λ (l : List ℕ). l ++ positions qs) e ∙ append_assoc a b (positions qs))

-- the positions of the two, in order
pub glued_positions : (ps qs : List Segment) → positions (glued ps qs) ≡ positions (ps ++ qs)
unfolding positions glued
glued_positions [] qs = refl
glued_positions (p ∷ []) qs = seam_positions p qs
glued_positions (p ∷ (r ∷ ps)) qs = ap (λ (l : List ℕ). up_from p.start p.length ++ l) (glued_positions (r ∷ ps) qs)

-- ---- runs

module _ (x : ℕ) (q : Segment) (qs : List Segment) where
  from_next : x + 1 ≡ q.start → run_from x (q ∷ qs) ≡ segment x (q.length + 1) ∷ qs
  unfolding run_from
  from_next e = rw (eq-eqb (x + 1) q.start e)

  from_apart : (x + 1 ≡ q.start → ⊥) → run_from x (q ∷ qs) ≡ segment x 1 ∷ (q ∷ qs)
  unfolding run_from
  from_apart e = rw (ne_eqb (x + 1) q.start e)

from_positions : (x : ℕ) (qs : List Segment) → positions (run_from x qs) ≡ x ∷ positions qs
unfolding positions run_from up_from
from_positions x [] = refl
from_positions x (q ∷ qs) = elim (ℕ_discrete (x + 1) q.start) [
  | yes e ↦
      let l : q.length + 1 ≡ suc q.length = omega arith in
      rw (from_next x q qs e, l) (ap (λ (s : ℕ). x ∷ (up_from s q.length ++ positions qs)) e)
  | no e ↦ rw (from_apart x q qs e)
]

from_filled : (x : ℕ) (qs : List Segment) → all_segments not_empty qs ≡ true → all_segments not_empty (run_from x qs) ≡ true
unfolding all_segments run_from not_empty
from_filled x [] f = refl
from_filled x (q ∷ qs) f = elim (ℕ_discrete (x + 1) q.start) [
  | yes e ↦
      rw (from_next x q qs e) (both _ _ (lt-ltb 0 (q.length + 1) (omega arith)) (and_right (not_empty q) (all_segments not_empty qs) f))
  | no e ↦ rw (from_apart x q qs e) f
]

from_longest : (x : ℕ) (qs : List Segment) → none_touch qs ≡ true → none_touch (run_from x qs) ≡ true
unfolding none_touch run_from touches_first touches
from_longest x [] f = refl
from_longest x (q ∷ qs) f = elim (ℕ_discrete (x + 1) q.start) [
  | yes e ↦ rw (from_next x q qs e) (rw (same_end (segment x (q.length + 1)) q qs (omega arith)) f)
  | no e ↦ rw (from_apart x q qs e) (rw (ne_eqb (x + 1) q.start e) f)
]

-- `runs` gives the maximal runs ..
pub runs_are : (xs : List ℕ) → MaximalRuns xs (runs xs)
unfolding runs positions all_segments none_touch
runs_are [] = record { same = refl; filled = refl; longest = refl }
runs_are (x ∷ xs) =
    let m = runs_are xs in
    record {
      same = from_positions x (runs xs) ∙ ap (λ (l : List ℕ). x ∷ l) m.same;
      filled = from_filled x (runs xs) m.filled;
      longest = from_longest x (runs xs) m.longest;
    }

-- a run of m + 1 positions before the runs of xs, where it does not touch their first
one_more : (xs : List ℕ) (s m : ℕ) → touches_first (segment s (suc m)) (runs xs) ≡ false
    → runs (up_from s (suc m) ++ xs) ≡ segment s (suc m) ∷ runs xs
unfolding runs run_from up_from touches_first touches
one_more xs s zero f = before (runs xs) f
  where
    before : (qs : List Segment) → touches_first (segment s 1) qs ≡ false → run_from s qs ≡ segment s 1 ∷ qs
    before [] f = refl
    before (q ∷ qs) f = rw f
one_more xs s (suc m) f =
    let t : touches_first (segment (s + 1) (suc m)) (runs xs) ≡ false =
    same_end (segment (s + 1) (suc m)) (segment s (suc (suc m))) (runs xs) (omega arith) ∙ f in
    let e : suc m + 1 ≡ suc (suc m) = omega arith in
    rw (one_more xs (s + 1) m t) (from_next s (segment (s + 1) (suc m)) (runs xs) refl ∙ ap (λ (k : ℕ). segment s k ∷ runs xs) e)

-- a segment before a list that is its own runs, whose first it does not touch
behind : (p : Segment) (ps : List Segment) (m : ℕ) → p.length ≡ suc m → touches_first p ps ≡ false → ps ≡ runs (positions ps)
    → p ∷ ps ≡ runs (positions (p ∷ ps))
unfolding positions
behind p ps m n e i =
    let q : p ≡ segment p.start (suc m) = ap (λ (k : ℕ). segment p.start k) n in
    let t : touches_first (segment p.start (suc m)) (runs (positions ps)) ≡ false =
    ap (touches_first (segment p.start (suc m))) (sym i) ∙ ap (λ (r : Segment). touches_first r ps) (sym q) ∙ e in
    ap (λ (r : Segment). r ∷ ps) q ∙ ap (λ (l : List Segment). segment p.start (suc m) ∷ l) i
    ∙ sym (ap (λ (k : ℕ). runs (up_from p.start k ++ positions ps)) n ∙ one_more (positions ps) p.start m t)

-- .. and there are no others
pub runs_only : (xs : List ℕ) (ps : List Segment) → MaximalRuns xs ps → ps ≡ runs xs
unfolding runs positions all_segments not_empty none_touch
runs_only xs ps m = go ps m.filled m.longest ∙ ap runs m.same
  where
    go : (ps : List Segment) → all_segments not_empty ps ≡ true → none_touch ps ≡ true → ps ≡ runs (positions ps)
    go [] f t = refl
    go (p ∷ ps) f t =
        let h : 0 < p.length = ltb-true _ _ (and_left (not_empty p) (all_segments not_empty ps) f) in
        let n : p.length ≡ suc (p.length - 1) = omega arith in
        let i : ps ≡ runs (positions ps) =
        go ps (and_right (not_empty p) (all_segments not_empty ps) f) (and_right (not (touches_first p ps)) (none_touch ps) t) in
        let e : touches_first p ps ≡ false = not-true _ (and_left (not (touches_first p ps)) (none_touch ps) t) in
        behind p ps (p.length - 1) n e i

-- ---- no two neighbours touch

-- in either part of such a list
pub none_touch_cut : (i : ℕ) (ps : List Segment) → none_touch ps ≡ true → (none_touch (take i ps) ≡ true) × (none_touch (drop i ps) ≡ true)
unfolding none_touch touches_first
none_touch_cut zero ps e = (refl, e)
none_touch_cut (suc i) [] e = (refl, refl)
none_touch_cut (suc i) (p ∷ ps) e =
    let c = none_touch_cut i ps (and_right (not (touches_first p ps)) (none_touch ps) e) in
    (both _ _ (first i ps (and_left (not (touches_first p ps)) (none_touch ps) e)) c.0, c.1)
  where
    first : (i : ℕ) (qs : List Segment) → not (touches_first p qs) ≡ true → not (touches_first p (take i qs)) ≡ true
    first zero qs e = refl
    first (suc i) [] e = refl
    first (suc i) (q ∷ qs) e = e

-- in the head of a split, whose segments start where they did
head_first : (r : Segment) (ps : List Segment) (mid : ℕ) → not (touches_first r ps) ≡ true → not (touches_first r (head_of ps mid)) ≡ true
unfolding head_of touches_first touches
head_first r [] mid e = refl
head_first r (p ∷ ps) mid e =
    ⊎_elim (λ b. rw b.head) (λ k. ⊎_elim (λ w. rw w.head e) (λ b. rw b.head e) k) (cases p ps mid)

pub head_none_touch : (ps : List Segment) (mid : ℕ) → none_touch ps ≡ true → none_touch (head_of ps mid) ≡ true
unfolding head_of none_touch touches_first
head_none_touch [] mid e = refl
head_none_touch (p ∷ ps) mid e =
    let f = and_left (not (touches_first p ps)) (none_touch ps) e in
    let g = and_right (not (touches_first p ps)) (none_touch ps) e in
    ⊎_elim (λ b. rw b.head) (λ k. ⊎_elim (λ w. rw w.head) (λ b. rw b.head
    (both _ _ (head_first p ps (mid - p.length) f) (head_none_touch ps (mid - p.length) g))) k) (cases p ps mid)

-- and in its tail, whose segments end where they did
pub tail_none_touch : (ps : List Segment) (mid : ℕ) → none_touch ps ≡ true → none_touch (tail_of ps mid) ≡ true
unfolding tail_of none_touch
tail_none_touch [] mid e = refl
tail_none_touch (p ∷ ps) mid e =
    let g = and_right (not (touches_first p ps)) (none_touch ps) e in
    ⊎_elim (λ b. rw b.tail e) (λ k. ⊎_elim (λ w. rw w.tail
    (rw (same_end (segment (p.start + mid) (p.length - mid)) p ps (omega (arith, w.is))) e))
    (λ b. rw b.tail (tail_none_touch ps (mid - p.length) g)) k) (cases p ps mid)

-- ---- two lists glued

module _ (n : ℕ) where
  -- a segment of the data is not empty
  pub lies_filled : (ps : List Segment) → all_segments (lies_in n) ps ≡ true → all_segments not_empty ps ≡ true
  unfolding all_segments lies_in not_empty
  lies_filled [] e = refl
  lies_filled (p ∷ ps) e =
      both _ _ (and_left (ltb 0 p.length) (leb (p.start + p.length) n) (and_left (lies_in n p) (all_segments (lies_in n) ps) e))
      (lies_filled ps (and_right (lies_in n p) (all_segments (lies_in n) ps) e))

  -- segments of the data in which no two neighbours touch
  pub record Separate (ps : List Segment) : Type 0 where
    pub lie : all_segments (lies_in n) ps ≡ true
    pub none_touch_lem : none_touch ps ≡ true

  -- the parts of such a list
  pub cut_separate : (ps : List Segment) → Separate ps → (i : ℕ) → Separate (take i ps) × Separate (drop i ps)
  cut_separate ps a i =
      let l : (all_segments (lies_in n) (take i ps) && all_segments (lies_in n) (drop i ps)) ≡ true = all_cut (lies_in n) i ps ∙ a.lie in
      let t = all_segments (lies_in n) (take i ps) in
      let d = all_segments (lies_in n) (drop i ps) in
      let c = none_touch_cut i ps a.none_touch_lem in
      (record { lie = and_left t d l; none_touch_lem = c.0 }, record { lie = and_right t d l; none_touch_lem = c.1 })

  -- glued they are the maximal runs of the positions of the two, in order
  module _ (ps qs : List Segment) (a : Separate ps) (b : Separate qs) where
    pub glued_separate : Separate (glued ps qs)
    glued_separate = record {
      lie = glued_lies qs n b.lie ps a.lie;
      none_touch_lem = glued_none_touch qs ps a.none_touch_lem b.none_touch_lem;
    }

    pub glued_runs : glued ps qs ≡ runs (positions (ps ++ qs))
    glued_runs = runs_only (positions (ps ++ qs)) (glued ps qs) (record {
      same = glued_positions ps qs;
      filled = lies_filled (glued ps qs) glued_separate.lie;
      longest = glued_separate.none_touch_lem;
    })

  -- a call on a valid vector whose segments would be ps
  changed_runs : (v : IoVector) (ps : List Segment) → is_valid n v ≡ true → Separate ps
      → changed_to n v ps ≡ runs_or_refused (positions ps)
  unfolding changed_to runs_or_refused segments_fit
  changed_runs v ps e a =
      let r : runs (positions ps) ≡ ps =
      sym (runs_only (positions ps) ps (record { same = refl; filled = lies_filled ps a.lie; longest = a.none_touch_lem })) in
      rw (e, a.lie, r, positions_length ps)

  runs_as : (v : IoVector) (xs : List ℕ) (c : Result IoVector Refusal) → c ≡ runs_or_refused xs → RunsAs v xs c
  unfolding runs_or_refused
  runs_as v xs c e =
      let t = leb (length (runs xs)) 16 && leb (length xs) 1048576 in
      (e, ap (vector_after v) e ∙ picked (vector_after v) t (Ok (vector_of (runs xs))) refused_vector)

  module _ (v : IoVector) (e : is_valid n v ≡ true) (t : none_touch (segments_of v) ≡ true) where
    own : Separate (segments_of v)
    own = record { lie = (valid n v e).fit.lie; none_touch_lem = t }

    module _ (p : Segment) (f : lies_in n p ≡ true) where
      one : Separate (p ∷ [])
      unfolding all_segments none_touch touches_first
      one = record { lie = both _ _ f refl; none_touch_lem = refl }

      -- push gives the maximal runs of the positions, or 202 for more than 16 runs or more than 1,048,576 positions
      pub push_runs : RunsAs v (positions (segments_of v ++ (p ∷ []))) (push_of n v p)
      unfolding push_of
      push_runs =
          let ps = segments_of v in
          runs_as v _ _ (rw f (changed_runs v (glued ps (p ∷ [])) e (glued_separate ps (p ∷ []) own one)
          ∙ ap runs_or_refused (glued_positions ps (p ∷ []))))

      -- and so does insert
      pub insert_runs : (i : ℕ) → i ≤ v.count →
          RunsAs v (positions (take i (segments_of v) ++ (p ∷ drop i (segments_of v)))) (insert_of n v i p)
      unfolding insert_of inserted_at
      insert_runs i h =
          let ps = segments_of v in
          let a = cut_separate ps own i in
          let front = glued (take i ps) (p ∷ []) in
          let x : positions (glued front (drop i ps)) ≡ positions (take i ps ++ (p ∷ drop i ps)) =
          glued_positions front (drop i ps) ∙ positions_append front (drop i ps)
          ∙ ap (λ (l : List ℕ). l ++ positions (drop i ps)) (glued_positions (take i ps) (p ∷ []))
          ∙ sym (positions_append (take i ps ++ (p ∷ [])) (drop i ps)) ∙ ap positions (append_snoc (take i ps) p (drop i ps)) in
          runs_as v _ _ (rw (le-leb i v.count h, f) (changed_runs v (glued front (drop i ps)) e
          (glued_separate front (drop i ps) (glued_separate (take i ps) (p ∷ []) a.0 one) a.1) ∙ ap runs_or_refused x))

    -- and append
    pub append_runs : (w : IoVector) → is_valid n w ≡ true → none_touch (segments_of w) ≡ true →
        RunsAs v (positions (segments_of v ++ segments_of w)) (append_of n v w)
    unfolding append_of
    append_runs w f u =
        let ps = segments_of v in
        let qs = segments_of w in
        runs_as v _ _ (rw f (changed_runs v (glued ps qs) e
        (glued_separate ps qs own (record { lie = (valid n w f).fit.lie; none_touch_lem = u }))
        ∙ ap runs_or_refused (glued_positions ps qs)))

-- ---- no two neighbours of a vector touch

abbrev pub NoneTouch : IoVector → Type 0
NoneTouch v = none_touch (segments_of v) ≡ true

-- what the caller has after a call keeps it where the segments that the call would give do
kept : (n : ℕ) (v : IoVector) (ps : List Segment) (c : Result IoVector Refusal) → NoneTouch v → none_touch ps ≡ true
    → EditedTo n ps c ⊎ LeftAs v c → NoneTouch (vector_after v c)
kept n v ps c e f r = ⊎_elim (λ d. rw d.done (rw d.segments f)) (λ d. rw d.1 e) r

module _ (n : ℕ) (v : IoVector) (e : NoneTouch v) where
  pub push_keeps : (p : Segment) → NoneTouch (vector_after v (push_of n v p))
  unfolding none_touch touches_first
  push_keeps p =
      kept n v (glued (segments_of v) (p ∷ [])) (push_of n v p) e (glued_none_touch (p ∷ []) (segments_of v) e refl) (pushed n v p)

  pub insert_keeps : (i : ℕ) (p : Segment) → NoneTouch (vector_after v (insert_of n v i p))
  unfolding inserted_at none_touch touches_first
  insert_keeps i p =
      let ps = segments_of v in
      let c = none_touch_cut i ps e in
      kept n v (inserted_at i ps p) (insert_of n v i p) e
      (glued_none_touch (drop i ps) (glued (take i ps) (p ∷ [])) (glued_none_touch (p ∷ []) (take i ps) c.0 refl) c.1)
      (inserted n v i p)

  pub append_keeps : (w : IoVector) → NoneTouch w → NoneTouch (vector_after v (append_of n v w))
  append_keeps w f =
      kept n v (glued (segments_of v) (segments_of w)) (append_of n v w) e (glued_none_touch (segments_of w) (segments_of v) e f)
      (appended n v w)

  -- both parts of a split, refused or not
  pub split_keeps : (mid : ℕ) → NoneTouch (halves_after v (split_of n v mid)).head × NoneTouch (halves_after v (split_of n v mid)).tail
  unfolding split_of none_touch vector_of
  split_keeps mid = go (is_valid n v)
    where
      ps : List Segment
      ps = segments_of v

      go : (t : Bool) → NoneTouch (halves_after v (pick t (Ok (halves_of v mid)) (Err BadSegment))).head
          × NoneTouch (halves_after v (pick t (Ok (halves_of v mid)) (Err BadSegment))).tail
      go true = rw (segments_of_lem (head_of ps mid), segments_of_lem (tail_of ps mid)) (head_none_touch ps mid e, tail_none_touch ps mid e)
      go false = (e, refl)

  pub split_tail_keeps : (mid : ℕ) → NoneTouch (tail_after v (split_tail_of n v mid)).vector
  unfolding split_tail_of
  split_tail_keeps mid = go (is_valid n v)
    where
      go : (t : Bool) → NoneTouch (tail_after v (pick t (Ok (rest_of v mid)) (Err BadSegment))).vector
      go true = rw (segments_of_lem (tail_of (segments_of v) mid)) (tail_none_touch (segments_of v) mid e)
      go false = e

-- ---- computed

-- 12+4 between 10+2 and 16+4 makes one of the three
pub between_two : inserted_at 1 (segment 10 2 ∷ (segment 16 4 ∷ [])) (segment 12 4) ≡ segment 10 10 ∷ []
unfolding inserted_at glued seam touches
between_two = refl

-- the same positions make one run; a position left out makes two, and so does going back
pub runs_between : runs (up_from 10 10) ≡ segment 10 10 ∷ []
unfolding runs run_from up_from
runs_between = refl

pub runs_apart : runs (10 ∷ (11 ∷ (13 ∷ (12 ∷ [])))) ≡ segment 10 2 ∷ (segment 13 1 ∷ (segment 12 1 ∷ []))
unfolding runs run_from
runs_apart = refl
