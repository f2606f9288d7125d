-- Laws of write blockers: what enter and leave answer, and what they change, that both keep `Reached`, who has noted whom, who waits, and
-- that somebody entered is always free. Assumes nothing.
use Rattle.std.specs.Prelude.{◌≡◌, Ok, Err, Bool, ◌&&◌, ◌⊎◌, ◌≢◌, List, [], ◌∷◌, map, ℕ, zero, suc, ◌+◌, ◌<◌, ◌≤◌, ltb, eqb, set, replicate}
use Rattle.std.specs.Result.{result_unwrap_or}
use Rattle.std.proofs.Math.Path.{refl, sym, ap}
use Rattle.std.proofs.Common.{◌∙◌, inl, inr, ⊎_elim, arith, get_or-set_same, lt-ltb, le-ltb, eq-eqb, ne_eqb}
use Rattle.std.proofs.Math.Bool.{true, false, not, false≢true, and-false, and_comm}
use Rattle.std.proofs.Math.Decide.{ℕ_discrete, dec_lt}
use Rattle.std.proofs.Math.ListN.{length, get_or, length-set, length-map, get_or-replicate, get_or-map, get_or-eq_default}
use Rattle.std.proofs.Math.Seq.{get_or-set_other}
use Rattle.arithmetic.specs.Rounding.{pick}
use Rattle.arithmetic.specs.Loops.{any_here, any_none, any_found}
use Rattle.arithmetic.specs.SettingsLaws.{and_left, and_right}
use Rattle.arithmetic.specs.declared.offsets.Range.{Range}
use Rattle.arithmetic.specs.declared.refusals.Refusal.TheVariants.{Slot}
use Rattle.blockers.specs.declared.Kind.{Kind}
use Rattle.blockers.specs.declared.Kind.TheVariants.{Absent, Weak, Strong}
use Rattle.blockers.specs.declared.Blocker.{Blocker}
use Rattle.blockers.specs.declared.Blockers.{Blockers}
use Rattle.blockers.specs.Blockers.{overlaps, present, is_entered, conflict, notes, notes_of, vacant, nowhere, blocker_at, no_blockers}
use Rattle.blockers.specs.Blockers.{Changed, changed, refused, changed_to, entered_of, forgetting, left_of, has_noted, waits_of}
use Rattle.blockers.specs.Reached.{Meet, Entered, Reached}

-- ---- ranges

pub overlaps_symmetric : (a b : Range) → overlaps a b ≡ overlaps b a
unfolding overlaps
overlaps_symmetric a b = and_comm (ltb a.start.0 b.end.0) (ltb b.start.0 a.end.0)

-- ranges that touch do not overlap
pub touching : (a b : Range) → a.end.0 ≡ b.start.0 → overlaps a b ≡ false
unfolding overlaps
touching a b e = rw (le-ltb b.start.0 a.end.0 (omega arith)) (and-false (ltb a.start.0 b.end.0))

-- "an empty range strictly inside another overlaps it"
pub empty_inside : (a b : Range) → a.start.0 ≡ a.end.0 → b.start.0 < a.start.0 → a.end.0 < b.end.0 → overlaps a b ≡ true
unfolding overlaps
empty_inside a b e h g = rw (lt-ltb a.start.0 b.end.0 (omega arith), lt-ltb b.start.0 a.end.0 (omega arith))

-- ---- which calls are carried out

-- the blocker that enters
abbrev pub entering : Kind → Range → Blockers → Blocker
entering k r b = record { kind = k; range = r; noted = notes_of k r b }

module _ (k : Kind) (p : ℕ) (r : Range) (b : Blockers) where
  -- into a vacant slot
  pub enter_done : p < 8 → is_entered (blocker_at b p) ≡ false → entered_of k p r b ≡ changed_to (set b.slots p (entering k r b))
  unfolding entered_of
  enter_done h e = simp (lt-ltb p 8 h, e)

  -- a refused call changes nothing: past slot 7, and where one is entered
  pub enter_past : 8 ≤ p → entered_of k p r b ≡ refused b
  unfolding entered_of
  enter_past h = simp (le-ltb p 8 h)

  pub enter_taken : Entered b p → entered_of k p r b ≡ refused b
  unfolding entered_of
  enter_taken e = simp (e, and-false)

  -- what the call answers: the blockers with the entered one, or 208
  pub enter_answer : p < 8 → is_entered (blocker_at b p) ≡ false
      → changed (entered_of k p r b) ≡ Ok (record { slots = set b.slots p (entering k r b) })
  enter_answer h e = rw (enter_done h e) refl

  pub enter_refused : (8 ≤ p) ⊎ Entered b p → changed (entered_of k p r b) ≡ Err Slot
  enter_refused s = ⊎_elim (λ h. rw (enter_past h) refl) (λ e. rw (enter_taken e) refl) s

module _ (p : ℕ) (b : Blockers) where
  -- out of a slot where one is entered
  pub leave_done : p < 8 → Entered b p → left_of p b ≡ changed_to (set (map (forgetting p) b.slots) p vacant)
  unfolding left_of
  leave_done h e = simp (lt-ltb p 8 h, e)

  -- a refused call changes nothing: past slot 7, and where none is entered
  pub leave_past : 8 ≤ p → left_of p b ≡ refused b
  unfolding left_of
  leave_past h = simp (le-ltb p 8 h)

  pub leave_none : is_entered (blocker_at b p) ≡ false → left_of p b ≡ refused b
  unfolding left_of
  leave_none e = simp (e, and-false)

  -- what the call answers: the blockers without the one that left, or 208
  pub leave_answer : p < 8 → Entered b p → changed (left_of p b) ≡ Ok (record { slots = set (map (forgetting p) b.slots) p vacant })
  leave_answer h e = rw (leave_done h e) refl

  pub leave_refused : (8 ≤ p) ⊎ (is_entered (blocker_at b p) ≡ false) → changed (left_of p b) ≡ Err Slot
  leave_refused s = ⊎_elim (λ h. rw (leave_past h) refl) (λ e. rw (leave_none e) refl) s

-- ---- what the caller has: the answer, or else what it had, is what the laws below call the blockers after the call

answered : (b : Blockers) (t : Bool) (l : List Blocker)
    → result_unwrap_or (changed (pick t (changed_to l) (refused b))) b ≡ (pick t (changed_to l) (refused b)).blockers
answered b true l = refl
answered b false l = refl

pub enter_after : (k : Kind) (p : ℕ) (r : Range) (b : Blockers)
    → result_unwrap_or (changed (entered_of k p r b)) b ≡ (entered_of k p r b).blockers
unfolding entered_of
enter_after k p r b = answered b (ltb p 8 && not (is_entered (blocker_at b p))) (set b.slots p (entering k r b))

pub leave_after : (p : ℕ) (b : Blockers) → result_unwrap_or (changed (left_of p b)) b ≡ (left_of p b).blockers
unfolding left_of
leave_after p b = answered b (ltb p 8 && is_entered (blocker_at b p)) (set (map (forgetting p) b.slots) p vacant)

-- ---- what enter changes

no_conflict : (k : Kind) → conflict k Absent ≡ false
unfolding conflict
no_conflict Absent = refl
no_conflict Weak = refl
no_conflict Strong = refl

module _ (k : Kind) (p : ℕ) (r : Range) (b : Blockers) where
  -- no other slot's blocker
  pub entered_other : (q : ℕ) → q ≢ p → blocker_at (entered_of k p r b).blockers q ≡ blocker_at b q
  unfolding entered_of
  entered_other q n = go (ltb p 8 && not (is_entered (blocker_at b p)))
    where
      go : (t : Bool) → blocker_at (pick t (changed_to (set b.slots p (entering k r b))) (refused b)).blockers q ≡ blocker_at b q
      go true = get_or-set_other b.slots p q (entering k r b) nowhere n
      go false = refl

  module _ (l : length b.slots ≡ 8) (h : p < 8) (e : is_entered (blocker_at b p) ≡ false) where
    -- the entered one has the kind and the range given
    pub entered_own : blocker_at (entered_of k p r b).blockers p ≡ entering k r b
    entered_own = rw (enter_done k p r b h e) (get_or-set_same b.slots p (entering k r b) nowhere (omega arith))

    -- and has noted those that `notes` says
    pub entered_notes : (q : ℕ) → has_noted (entered_of k p r b).blockers p q ≡ notes k r (blocker_at b q)
    unfolding notes_of notes
    entered_notes q =
        let none : notes k r nowhere ≡ false = rw (no_conflict k) in
        ap (λ (x : Blocker). get_or x.noted q false) entered_own
        ∙ ap (λ (d : Bool). get_or (map (notes k r) b.slots) q d) (sym none)
        ∙ get_or-map (notes k r) b.slots q nowhere

-- ---- what leave changes

within : (b : Blockers) (p : ℕ) → Entered b p → p < length b.slots
within b p e = elim (dec_lt p (length b.slots)) [
  | yes h ↦ h
  | no h ↦ absurd (false≢true (sym (ap is_entered (get_or-eq_default b.slots nowhere {n = p} (omega arith))) ∙ e))
]

cleared : (l : List Bool) (p : ℕ) → get_or (set l p false) p false ≡ false
cleared [] p = refl
cleared (x ∷ l) zero = refl
cleared (x ∷ l) (suc p) = cleared l p

module _ (p : ℕ) (b : Blockers) where
  others : (q : ℕ) → q ≢ p → get_or (set (map (forgetting p) b.slots) p vacant) q nowhere ≡ forgetting p (blocker_at b q)
  unfolding forgetting
  others q n = get_or-set_other (map (forgetting p) b.slots) p q vacant nowhere n ∙ get_or-map (forgetting p) b.slots q nowhere

  -- what is read of another slot's blocker, where it does not read the note of p
  unchanged : {A : Type 0} (f : Blocker → A) (q : ℕ) → q ≢ p → f (forgetting p (blocker_at b q)) ≡ f (blocker_at b q) →
      f (blocker_at (left_of p b).blockers q) ≡ f (blocker_at b q)
  unfolding left_of
  unchanged f q n same = go (ltb p 8 && is_entered (blocker_at b p))
    where
      go : (t : Bool)
          → f (blocker_at (pick t (changed_to (set (map (forgetting p) b.slots) p vacant)) (refused b)).blockers q) ≡ f (blocker_at b q)
      go true = ap f (others q n) ∙ same
      go false = refl

  -- no other slot's kind or range
  pub left_kind : (q : ℕ) → q ≢ p → (blocker_at (left_of p b).blockers q).kind ≡ (blocker_at b q).kind
  unfolding forgetting
  left_kind q n = unchanged (λ x. x.kind) q n refl

  pub left_range : (q : ℕ) → q ≢ p → (blocker_at (left_of p b).blockers q).range ≡ (blocker_at b q).range
  unfolding forgetting
  left_range q n = unchanged (λ x. x.range) q n refl

  -- and no other slot's note of a third
  pub left_notes : (q s : ℕ) → q ≢ p → s ≢ p → has_noted (left_of p b).blockers q s ≡ has_noted b q s
  unfolding forgetting
  left_notes q s n m = unchanged (λ x. get_or x.noted s false) q n (get_or-set_other (blocker_at b q).noted p s false false m)

  module _ (h : p < 8) (e : Entered b p) where
    -- the one that leaves is gone
    pub left_own : blocker_at (left_of p b).blockers p ≡ vacant
    left_own = rw (leave_done p b h e) (get_or-set_same (map (forgetting p) b.slots) p vacant nowhere (rw length-map (within b p e)))

    -- and nobody notes it any more
    pub left_note : (q : ℕ) → has_noted (left_of p b).blockers q p ≡ false
    unfolding forgetting
    left_note q = elim (ℕ_discrete q p) [
      | yes i ↦ rw i (ap (λ (x : Blocker). get_or x.noted p false) left_own ∙ get_or-replicate 8 p false false h)
      | no n ↦ rw (leave_done p b h e) (ap (λ (x : Blocker). get_or x.noted p false) (others q n) ∙ cleared (blocker_at b q).noted p)
    ]

-- ---- the blockers that are reached

conflict_there : (k l : Kind) → conflict k l ≡ true → present l ≡ true
unfolding conflict
conflict_there k Absent e = absurd (false≢true (sym (no_conflict k) ∙ e))
conflict_there k Weak e = refl
conflict_there k Strong e = refl

-- p and q meet in b as they do in c where both have there the same kinds and ranges
met : (b c : Blockers) (p q : ℕ) → (blocker_at b p).kind ≡ (blocker_at c p).kind → (blocker_at b p).range ≡ (blocker_at c p).range →
    (blocker_at b q).kind ≡ (blocker_at c q).kind → (blocker_at b q).range ≡ (blocker_at c q).range → Meet c p q → Meet b p q
unfolding Meet
met b c p q pk pr qk qr m = (λ i. conflict (pk i) (qk i) && overlaps (qr i) (pr i)) ∙ m

met_same : (b c : Blockers) (p q : ℕ) → blocker_at b p ≡ blocker_at c p → blocker_at b q ≡ blocker_at c q → Meet c p q → Meet b p q
met_same b c p q u v m = met b c p q (λ i. (u i).kind) (λ i. (u i).range) (λ i. (v i).kind) (λ i. (v i).range) m

-- none is entered at first
none_entered : (p : ℕ) → is_entered (blocker_at no_blockers p) ≡ false
unfolding no_blockers
none_entered p = elim (dec_lt p 8) [
  | yes h ↦ ap is_entered (get_or-replicate 8 p vacant nowhere h)
  | no h ↦ ap is_entered (get_or-eq_default (replicate 8 vacant) nowhere {n = p} (omega arith))
]

none_noted : (p q : ℕ) → p < 8 → q < 8 → has_noted no_blockers p q ≡ false
unfolding no_blockers
none_noted p q h g =
    ap (λ (x : Blocker). get_or x.noted q false) (get_or-replicate 8 p vacant nowhere h) ∙ get_or-replicate 8 q false false g

pub none_reached : Reached no_blockers (λ p. 0) 0
unfolding no_blockers
none_reached = record {
  slots = refl;
  notes = λ p h. ap (λ (x : Blocker). length x.noted) (get_or-replicate 8 p vacant nowhere h);
  past = λ p e. absurd (false≢true (sym (none_entered p) ∙ e));
  apart = λ p q e f i. absurd (false≢true (sym (none_entered p) ∙ e));
  noted = λ p q h g e. absurd (false≢true (sym (none_noted p q h g) ∙ e));
  notes_all = λ p q h g e f l m. absurd (false≢true (sym (none_entered p) ∙ e));
}

-- the order of entering once p has entered at this time
unfoldable pub ranked : (ℕ → ℕ) → ℕ → ℕ → ℕ → ℕ
ranked rank clock p q = pick (eqb q p) clock (rank q)

module _ (rank : ℕ → ℕ) (clock p : ℕ) where
  ranked_own : (q : ℕ) → q ≡ p → ranked rank clock p q ≡ clock
  unfolding ranked
  ranked_own q i = simp (eq-eqb q p i)

  ranked_other : (q : ℕ) → q ≢ p → ranked rank clock p q ≡ rank q
  unfolding ranked
  ranked_other q n = simp (ne_eqb q p n)

module _ (k : Kind) (p : ℕ) (r : Range) (b : Blockers) (rank : ℕ → ℕ) (clock : ℕ) (is : present k ≡ true) (R : Reached b rank clock)
    (h : p < 8) (e : is_entered (blocker_at b p) ≡ false) where
  abbrev after : Blockers
  after = (entered_of k p r b).blockers

  abbrev rank' : ℕ → ℕ
  rank' = ranked rank clock p

  own : blocker_at after p ≡ entering k r b
  own = entered_own k p r b R.slots h e

  other : (q : ℕ) → q ≢ p → blocker_at after q ≡ blocker_at b q
  other = entered_other k p r b

  vacated : (q : ℕ) → Entered b q → q ≢ p
  vacated q f i = false≢true (sym e ∙ ap (λ (x : ℕ). is_entered (blocker_at b x)) (sym i) ∙ f)

  before : (q : ℕ) → q ≢ p → Entered after q → Entered b q
  before q n f = sym (ap is_entered (other q n)) ∙ f

  still : (q : ℕ) → q ≢ p → Entered b q → Entered after q
  still q n f = ap is_entered (other q n) ∙ f

  long : length after.slots ≡ 8
  long = ap (λ (x : Changed). length x.blockers.slots) (enter_done k p r b h e) ∙ (length-set b.slots p (entering k r b) ∙ R.slots)

  long_notes : (q : ℕ) → q < 8 → length (blocker_at after q).noted ≡ 8
  unfolding notes_of
  long_notes q g = elim (ℕ_discrete q p) [
    | yes i ↦ rw i (ap (λ (x : Blocker). length x.noted) own ∙ length-map b.slots (notes k r) ∙ R.slots)
    | no n ↦ ap (λ (x : Blocker). length x.noted) (other q n) ∙ R.notes q g
  ]

  earlier : (q : ℕ) → q ≢ p → Entered after q → rank' q < clock
  earlier q n f = rw (ranked_other rank clock p q n) (R.past q (before q n f))

  in_past : (q : ℕ) → Entered after q → rank' q < clock + 1
  in_past q f = elim (ℕ_discrete q p) [
    | yes i ↦ omega (arith, ranked_own rank clock p q i)
    | no n ↦ omega (arith, earlier q n f)
  ]

  all_apart : (q s : ℕ) → Entered after q → Entered after s → rank' q ≡ rank' s → q ≡ s
  all_apart q s f g i = elim (ℕ_discrete q p) [
    | yes u ↦ elim (ℕ_discrete s p) [
      | yes v ↦ u ∙ sym v
      | no m ↦ absurd (omega (arith, ranked_own rank clock p q u, earlier s m g))
    ]
    | no n ↦ elim (ℕ_discrete s p) [
      | yes v ↦ absurd (omega (arith, ranked_own rank clock p s v, earlier q n f))
      | no m ↦ R.apart q s (before q n f) (before s m g) (sym (ranked_other rank clock p q n) ∙ i ∙ ranked_other rank clock p s m)
    ]
  ]

  -- the entered one meets those that it has noted
  own_meets : (q : ℕ) → q ≢ p → (conflict (blocker_at after p).kind (blocker_at after q).kind && overlaps (blocker_at after q).range
      (blocker_at after p).range) ≡ notes k r (blocker_at b q)
  unfolding notes
  own_meets q n = λ i. conflict (own i).kind (other q n i).kind && overlaps (other q n i).range (own i).range

  own_noted : (q : ℕ) → q < 8 → has_noted after p q ≡ true → (Entered after p) × (Entered after q) × (rank' q < rank' p) × (Meet after p q)
  unfolding Meet notes
  own_noted q g f =
      let m : notes k r (blocker_at b q) ≡ true = sym (entered_notes k p r b R.slots h e q) ∙ f in
      let x : Entered b q = conflict_there k (blocker_at b q).kind (and_left _ _ m) in
      let n : q ≢ p = vacated q x in (
        ap is_entered own ∙ is,
        still q n x,
        omega (arith, ranked_own rank clock p p refl, earlier q n (still q n x)),
        own_meets q n ∙ m,
      )

  other_noted : (s q : ℕ) → s ≢ p → s < 8 → q < 8 → has_noted after s q ≡ true → (Entered after s) × (Entered after q) × (rank' q < rank' s)
      × (Meet after s q)
  other_noted s q n c g f =
      let o = R.noted s q c g (sym (ap (λ (x : Blocker). get_or x.noted q false) (other s n)) ∙ f) in
      let m : q ≢ p = vacated q o.1 in (
        still s n o.0,
        still q m o.1,
        omega (arith, o.2, ranked_other rank clock p s n, ranked_other rank clock p q m),
        met_same after b s q (other s n) (other q m) o.3,
      )

  all_noted : (s q : ℕ) → s < 8 → q < 8 → has_noted after s q ≡ true → (Entered after s) × (Entered after q) × (rank' q < rank' s)
      × (Meet after s q)
  all_noted s q c g f = elim (ℕ_discrete s p) [
    | yes i ↦ rw i (own_noted q g (rw i at f))
    | no n ↦ other_noted s q n c g f
  ]

  notes_own : (q : ℕ) → q ≢ p → Meet after p q → has_noted after p q ≡ true
  unfolding Meet
  notes_own q n m = entered_notes k p r b R.slots h e q ∙ sym (own_meets q n) ∙ m

  notes_each : (s q : ℕ) → s < 8 → q < 8 → Entered after s → Entered after q → rank' q < rank' s → Meet after s q
      → has_noted after s q ≡ true
  notes_each s q c g x y l m = elim (ℕ_discrete s p) [
    | yes u ↦ elim (ℕ_discrete q p) [
      | yes v ↦ absurd (omega (arith, ranked_own rank clock p s u, ranked_own rank clock p q v))
      | no n ↦ rw u (notes_own q n (rw u at m))
    ]
    | no n ↦ elim (ℕ_discrete q p) [
      | yes v ↦ absurd (omega (arith, ranked_own rank clock p q v, earlier s n x))
      | no o ↦
          ap (λ (x : Blocker). get_or x.noted q false) (other s n)
          ∙ R.notes_all s q c g (before s n x) (before q o y) (omega (arith, ranked_other rank clock p s n, ranked_other rank clock p q o))
          (met_same b after s q (sym (other s n)) (sym (other q o)) m)
    ]
  ]

  -- entering keeps the blockers reached
  pub enter_reached : Reached (entered_of k p r b).blockers (ranked rank clock p) (clock + 1)
  enter_reached = record { slots = long; notes = long_notes; past = in_past; apart = all_apart; noted = all_noted; notes_all = notes_each }

module _ (p : ℕ) (b : Blockers) (rank : ℕ → ℕ) (clock : ℕ) (R : Reached b rank clock) (h : p < 8) (e : Entered b p) where
  abbrev rest : Blockers
  rest = (left_of p b).blockers

  gone : (q : ℕ) → Entered rest q → q ≢ p
  gone q f i = false≢true (sym (ap is_entered (left_own p b h e)) ∙ ap (λ (x : ℕ). is_entered (blocker_at rest x)) (sym i) ∙ f)

  was : (q : ℕ) → q ≢ p → Entered rest q → Entered b q
  was q n f = ap present (sym (left_kind p b q n)) ∙ f

  stays : (q : ℕ) → q ≢ p → Entered b q → Entered rest q
  stays q n f = ap present (left_kind p b q n) ∙ f

  rest_long : length rest.slots ≡ 8
  rest_long = ap (λ (x : Changed). length x.blockers.slots) (leave_done p b h e)
      ∙ (length-set (map (forgetting p) b.slots) p vacant ∙ length-map b.slots (forgetting p) ∙ R.slots)

  rest_notes : (q : ℕ) → q < 8 → length (blocker_at rest q).noted ≡ 8
  unfolding forgetting
  rest_notes q g = elim (ℕ_discrete q p) [
    | yes i ↦ rw i (ap (λ (x : Blocker). length x.noted) (left_own p b h e))
    | no n ↦
        ap (λ (x : Changed). length (blocker_at x.blockers q).noted) (leave_done p b h e)
        ∙ ap (λ (x : Blocker). length x.noted) (others p b q n)
        ∙ length-set (blocker_at b q).noted p false
        ∙ R.notes q g
  ]

  rest_noted : (q s : ℕ) → q < 8 → s < 8 → has_noted rest q s ≡ true → (Entered rest q) × (Entered rest s) × (rank s < rank q)
      × (Meet rest q s)
  rest_noted q s g c f =
      let n : q ≢ p = λ i. false≢true (sym (get_or-replicate 8 s false false c)
      ∙ sym (ap (λ (x : Blocker). get_or x.noted s false) (left_own p b h e)) ∙ ap (λ (x : ℕ). has_noted rest x s) (sym i) ∙ f) in
      let m : s ≢ p = λ i. false≢true (sym (left_note p b h e q) ∙ ap (λ (x : ℕ). has_noted rest q x) (sym i) ∙ f) in
      let o = R.noted q s g c (sym (left_notes p b q s n m) ∙ f) in (
        stays q n o.0,
        stays s m o.1,
        o.2,
        met rest b q s (left_kind p b q n) (left_range p b q n) (left_kind p b s m)
            (left_range p b s m) o.3,
      )

  rest_all : (q s : ℕ) → q < 8 → s < 8 → Entered rest q → Entered rest s → rank s < rank q → Meet rest q s → has_noted rest q s ≡ true
  rest_all q s g c x y l m =
      let n : q ≢ p = gone q x in
      let o : s ≢ p = gone s y in
      left_notes p b q s n o
      ∙ R.notes_all q s g c (was q n x) (was s o y) l (met b rest q s (sym (left_kind p b q n)) (sym (left_range p b q n))
      (sym (left_kind p b s o)) (sym (left_range p b s o)) m)

  left_reached : Reached (left_of p b).blockers rank clock
  left_reached = record {
    slots = rest_long;
    notes = rest_notes;
    past = λ q f. R.past q (was q (gone q f) f);
    apart = λ q s f g i. R.apart q s (was q (gone q f) f) (was s (gone s g) g) i;
    noted = rest_noted;
    notes_all = rest_all;
  }

-- leaving keeps the blockers reached, refused or not
pub leave_reached : (p : ℕ) (b : Blockers) (rank : ℕ → ℕ) (clock : ℕ) → Reached b rank clock → Reached (left_of p b).blockers rank clock
leave_reached p b rank clock R = elim (dec_lt p 8) [
  | yes h ↦ go h (is_entered (blocker_at b p)) refl
  | no h ↦ rw (leave_past p b (omega arith)) R
]
  where
    go : p < 8 → (t : Bool) → is_entered (blocker_at b p) ≡ t → Reached (left_of p b).blockers rank clock
    go h true e = left_reached p b rank clock R h e
    go h false e = rw (leave_none p b e) R

-- ---- who has noted whom, and who waits

-- past slot 7 none waits
pub past_free : (b : Blockers) (p : ℕ) → length b.slots ≡ 8 → 8 ≤ p → waits_of p b ≡ false
unfolding waits_of
past_free b p l h = any_none 8 _ (λ q g. rw (get_or-eq_default b.slots nowhere {n = p} (omega arith)))

-- "It waits exactly while one that it noted is still there."
pub waits_here : (b : Blockers) (p q : ℕ) → q < 8 → has_noted b p q ≡ true → Entered b q → waits_of p b ≡ true
unfolding waits_of
waits_here b p q h e f = any_here 8 _ q h (rw (e, f))

pub waits_for : (b : Blockers) (p : ℕ) → waits_of p b ≡ true → (q : ℕ) × (q < 8) × (has_noted b p q ≡ true) × (Entered b q)
unfolding waits_of
waits_for b p e = let o = any_found 8 _ e in (o.0, o.1, and_left _ _ o.2, and_right (has_noted b p o.0) _ o.2)

-- a blocker whose noted ones have all left does not wait
pub all_left : (b : Blockers) (p : ℕ) → ((q : ℕ) → q < 8 → has_noted b p q ≡ true → is_entered (blocker_at b q) ≡ false)
    → waits_of p b ≡ false
unfolding waits_of
all_left b p f = any_none 8 _ (λ q h. neither (has_noted b p q) (is_entered (blocker_at b q)) (f q h))
  where
    neither : (s t : Bool) → (s ≡ true → t ≡ false) → (s && t) ≡ false
    neither true t g = g refl
    neither false t g = refl

not_so : (t : Bool) → (t ≡ true → ⊥) → t ≡ false
not_so true f = absurd (f refl)
not_so false f = refl

conflict_symmetric : (k l : Kind) → conflict k l ≡ conflict l k
unfolding conflict
conflict_symmetric Absent Absent = refl
conflict_symmetric Absent Weak = refl
conflict_symmetric Absent Strong = refl
conflict_symmetric Weak Absent = refl
conflict_symmetric Weak Weak = refl
conflict_symmetric Weak Strong = refl
conflict_symmetric Strong Absent = refl
conflict_symmetric Strong Weak = refl
conflict_symmetric Strong Strong = refl

strong_conflicts : (k : Kind) → present k ≡ true → conflict Strong k ≡ true
unfolding conflict
strong_conflicts Absent e = e
strong_conflicts Weak e = refl
strong_conflicts Strong e = refl

strong_conflict : (k l : Kind) → present k ≡ true → present l ≡ true → (k ≡ Strong) ⊎ (l ≡ Strong) → conflict k l ≡ true
strong_conflict k l e f s = ⊎_elim (λ i. rw i (strong_conflicts l f)) (λ i. conflict_symmetric k l ∙ (rw i (strong_conflicts k e))) s

weak_conflict : (k l : Kind) → k ≡ Weak → l ≡ Weak → conflict k l ≡ false
unfolding conflict
weak_conflict k l e f = rw (e, f)

-- p has noted q, or one that has noted q, and so on
pub data Chain (b : Blockers) : ℕ → ℕ → Type 0 where
  one : {p q : ℕ} → p < 8 → q < 8 → has_noted b p q ≡ true → Chain b p q
  more : {p q s : ℕ} → p < 8 → q < 8 → has_noted b p q ≡ true → Chain b q s → Chain b p s

module _ (b : Blockers) where
  pub meet_symmetric : (p q : ℕ) → Meet b p q → Meet b q p
  unfolding Meet
  meet_symmetric p q m = rw (
    conflict_symmetric (blocker_at b q).kind (blocker_at b p).kind,
    overlaps_symmetric (blocker_at b p).range
        (blocker_at b q).range,
  ) m

  -- two entered blockers that overlap, one of them strong, meet
  pub strong_meets : (p q : ℕ) → Entered b p → Entered b q → ((blocker_at b p).kind ≡ Strong)
      ⊎ ((blocker_at b q).kind ≡ Strong) → overlaps (blocker_at b p).range (blocker_at b q).range ≡ true → Meet b p q
  unfolding Meet
  strong_meets p q e f s o = rw (
    strong_conflict (blocker_at b p).kind (blocker_at b q).kind e f s,
    overlaps_symmetric
        (blocker_at b q).range (blocker_at b p).range,
  ) o

  module _ (rank : ℕ → ℕ) (clock : ℕ) (R : Reached b rank clock) where
    -- a slot noted is entered
    pub noted_entered : (p q : ℕ) → p < 8 → q < 8 → has_noted b p q ≡ true → Entered b q
    noted_entered p q h g e = (R.noted p q h g e).1

    -- and so one that has noted another waits
    pub noted_waits : (p q : ℕ) → p < 8 → q < 8 → has_noted b p q ≡ true → waits_of p b ≡ true
    noted_waits p q h g e = waits_here b p q g e (noted_entered p q h g e)

    -- the order of entering falls along the notes
    pub noted_earlier : (p q : ℕ) → p < 8 → q < 8 → has_noted b p q ≡ true → rank q < rank p
    noted_earlier p q h g e = (R.noted p q h g e).2

    -- of two entered blockers one was entered later
    pub one_later : (p q : ℕ) → p ≢ q → Entered b p → Entered b q → (rank q < rank p) ⊎ (rank p < rank q)
    one_later p q n e f = elim (dec_lt (rank q) (rank p)) [
      | yes h ↦ inl h
      | no h ↦ elim (dec_lt (rank p) (rank q)) [
        | yes g ↦ inr g
        | no g ↦ absurd (n (R.apart p q e f (omega arith)))
      ]
    ]

    -- of two entered blockers that meet exactly the later one has noted the other
    pub later_noted : (p q : ℕ) → p < 8 → q < 8 → Entered b p → Entered b q → Meet b p q → rank q < rank p → (has_noted b p q ≡ true)
        × (has_noted b q p ≡ false)
    later_noted p q h g e f m l = (
      R.notes_all p q h g e f l m,
      not_so (has_noted b q p)
          (λ x. let o = noted_earlier q p g h x in omega arith),
    )

    -- two weak ones never note each other, and so never wait for each other
    pub weak_ignored : (p q : ℕ) → p < 8 → q < 8 → (blocker_at b p).kind ≡ Weak → (blocker_at b q).kind ≡ Weak → has_noted b p q ≡ false
    unfolding Meet
    weak_ignored p q h g e f = not_so (has_noted b p q) (λ x. false≢true (sym (weak_conflict _ _ e f)
        ∙ and_left _ _ (R.noted p q h g x).3))

    -- two that do not wait, one of them strong, never overlap
    pub free_apart : (p q : ℕ) → p < 8 → q < 8 → p ≢ q → Entered b p → Entered b q → ((blocker_at b p).kind ≡ Strong)
        ⊎ ((blocker_at b q).kind ≡ Strong) → waits_of p b ≡ false → waits_of q b ≡ false
        → overlaps (blocker_at b p).range (blocker_at b q).range ≡ false
    free_apart p q h g n e f s v w = not_so (overlaps (blocker_at b p).range (blocker_at b q).range) (λ o. ⊎_elim
        (λ l. false≢true (sym v ∙ noted_waits p q h g (later_noted p q h g e f (strong_meets p q e f s o) l).0))
        (λ l. false≢true (sym w ∙ noted_waits q p g h (later_noted q p g h f e (meet_symmetric p q (strong_meets p q e f s o)) l).0))
        (one_later p q n e f))

    -- so nobody waits for itself, however indirectly
    falls : {p q : ℕ} → Chain b p q → rank q < rank p
    falls (one {p} {q} h g e) = noted_earlier p q h g e
    falls (more {p} {q} {s} h g e c) = let l = noted_earlier p q h g e in let m = falls c in omega arith

    pub no_cycle : (p : ℕ) → Chain b p p → ⊥
    no_cycle p c = let l = falls c in omega arith

    -- and where one is entered, somebody entered is free
    search_down : (n p : ℕ) → rank p < n → p < 8 → Entered b p → (q : ℕ) × (q < 8) × (Entered b q) × (waits_of q b ≡ false)
    search_down zero p l h e = absurd (omega arith)
    search_down (suc n) p l h e = go (waits_of p b) refl (λ q m g f. search_down n q m g f)
      where
        go : (t : Bool) → waits_of p b ≡ t → ((q : ℕ) → rank q < n → q < 8 → Entered b q → (s : ℕ) × (s < 8) × (Entered b s)
            × (waits_of s b ≡ false)) → (q : ℕ) × (q < 8) × (Entered b q) × (waits_of q b ≡ false)
        go false w down = (p, h, e, w)
        go true w down =
            let o = waits_for b p w in
            let f = noted_earlier p o.0 h o.1 o.2 in
            down o.0 (omega arith) o.1 o.3

    pub somebody_free : (p : ℕ) → p < 8 → Entered b p → (q : ℕ) × (q < 8) × (Entered b q) × (waits_of q b ≡ false)
    somebody_free p h e = search_down (suc (rank p)) p (omega arith) h e
