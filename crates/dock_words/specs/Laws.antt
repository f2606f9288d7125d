-- What is put is what is got: a row's words decoded and coded, and a row among the rows. Assumes nothing.
use Rattle.std.specs.Prelude.{◌≡◌, refl, Bool, true, false, List, [], ◌∷◌, map, ℕ, zero}
use Rattle.std.specs.Prelude.{suc, ◌+◌, ◌<◌, ◌≤◌, length, drop, get_or, set, replicate, not, cond}
use Rattle.std.specs.List.{position_or_len}
use Rattle.std.proofs.Common.{sym, ◌∙◌, mod-eq_of_lt, arith, get_or-set_other}
use Rattle.std.proofs.lemmas.List.{length-map, drop-set-add, map-set, get_or-map}
use Rattle.std.proofs.Math.ListN.{get_or-map as get_or-map_at}
use Rattle.arithmetic.specs.Rounding.{pick}
use Rattle.vectors.specs.declared.vector.IoVector.{IoVector}
use Rattle.vectors.specs.WordLaws.{vector_back}
use Rattle.vectors.specs.Words.{vector_from, vector_words}
use Rattle.blockers.specs.Blockers.{present, is_entered, blocker_at, nowhere, has_noted, forgetting, notes, notes_of, vacant}
use Rattle.arithmetic.specs.declared.offsets.Range.{Range}
use Rattle.blockers.specs.declared.Kind.{Kind}
use Rattle.blockers.specs.declared.Blocker.{Blocker}
use Rattle.stages.specs.declared.state.State.{State}
use Rattle.stages.specs.Stages.{is_free}
use Rattle.dock.specs.Dock.{no_state, no_vector, first_free}
use Rattle.dock_words.specs.View.{flag_of, flag_word, phase_of, kind_of, stage_of, state_from, state_words, blocker_of, blocker_words}
use Rattle.dock_words.specs.View.{Rows, blockers_of, states_of, vectors_of}
use Rattle.dock_words.specs.TagLaws.{flag_back, phase_back, job_back, course_back, kind_back}

-- ---- a row

pub state_back : (x : State) → x.answer < 256 → state_from (state_words x) ≡ x
unfolding state_from stage_of
state_back x h = rw (phase_back x.phase, mod-eq_of_lt h, job_back x.job, course_back x.course, flag_back x.stage.strong)

flags_back : (l : List Bool) → map flag_of (map flag_word l) ≡ l
flags_back [] = refl
flags_back (b ∷ l) = rw (flag_back b, flags_back l)

pub blocker_back : (b : Blocker) → blocker_of (blocker_words b) ≡ b
unfolding blocker_of
blocker_back b = rw (kind_back b.kind, flags_back b.noted)

pub blocker_width : (b : Blocker) → length b.noted ≡ 8 → length (blocker_words b) ≡ 11
blocker_width b h = omega (arith, length-map b.noted flag_word)

-- note i of a blocker, as it is written
pub blocker_note : (b : Blocker) (i : ℕ) → flag_word (get_or b.noted i false) ≡ get_or (blocker_words b) (3 + i) 0
blocker_note b i = let e : 3 + i ≡ suc (suc (suc i)) = omega arith in rw e (sym (get_or-map_at flag_word b.noted i false))

cleared : (l : List ℕ) (i : ℕ) → map flag_of (set l i 0) ≡ set (map flag_of l) i false
cleared [] i = refl
cleared (x ∷ l) zero = refl
cleared (x ∷ l) (suc i) = rw (cleared l i)

-- with word 3 + q 0 a blocker has forgotten slot q
pub row_forgets : (r : List ℕ) (q : ℕ) → blocker_of (set r (3 + q) 0) ≡ forgetting q (blocker_of r)
unfolding blocker_of forgetting
row_forgets r q =
    rw (
      get_or-set_other r (3 + q) 0 0 0 (λ e. omega (arith, e)),
      get_or-set_other r (3 + q) 1 0 0 (λ e. omega (arith, e)),
      get_or-set_other r (3 + q) 2 0 0 (λ e. omega (arith, e)),
      drop-set-add 3 r q 0,
      cleared (drop 3 r) q,
    )

-- ---- a row among the rows: what is read there, and what a row put in its place changes

module _ (w : List (List ℕ)) (p : ℕ) where
  pub state_row : p < length w → state_from (get_or w p []) ≡ get_or (states_of w) p no_state
  state_row h = sym (get_or-map state_from w p [] no_state h)

  pub state_put : (x : State) (r : List ℕ) → r ≡ state_words x → x.answer < 256 → states_of (set w p r) ≡ set (states_of w) p x
  state_put x r e h = map-set state_from w p r ∙ rw (e, state_back x h)

  -- its phase, in its row's first word
  pub phase_word : p < length w → (get_or (states_of w) p no_state).phase ≡ phase_of (get_or (get_or w p []) 0 0)
  unfolding state_from
  phase_word h = rw (← state_row h)

  pub vector_row : p < length w → vector_from (get_or w p []) ≡ get_or (vectors_of w) p no_vector
  vector_row h = sym (get_or-map vector_from w p [] no_vector h)

  pub vector_put : (v : IoVector) (r : List ℕ) → r ≡ vector_words v → length v.segments ≡ 16
      → vectors_of (set w p r) ≡ set (vectors_of w) p v
  vector_put v r e n = map-set vector_from w p r ∙ rw (e, vector_back v n)

  -- how many segments it has, in its row's first word
  pub count_word : p < length w → (get_or (vectors_of w) p no_vector).count ≡ get_or (get_or w p []) 0 0
  unfolding vector_from
  count_word h = rw (← vector_row h)

  pub blocker_row : p < length w → blocker_of (get_or w p []) ≡ blocker_at (blockers_of w) p
  blocker_row h = sym (get_or-map blocker_of w p [] nowhere h)

  -- any words as its row, decoded
  pub blocker_put : (r : List ℕ) → blockers_of (set w p r) ≡ record { slots = set (blockers_of w).slots p (blocker_of r) }
  blocker_put r = rw (map-set blocker_of w p r)

  pub blocker_part : (b : Blocker) (r : List ℕ) → r ≡ blocker_words b
      → blockers_of (set w p r) ≡ record { slots = set (blockers_of w).slots p b }
  blocker_part b r e = blocker_put r ∙ rw (e, blocker_back b)

  -- its kind, in its row's first word; so whether one is entered
  pub kind_word : p < length w → (blocker_at (blockers_of w) p).kind ≡ kind_of (get_or (get_or w p []) 0 0)
  unfolding blocker_of
  kind_word h = rw (← blocker_row h)

  pub entered_word : p < length w → present (kind_of (get_or (get_or w p []) 0 0)) ≡ is_entered (blocker_at (blockers_of w) p)
  entered_word h = rw (← kind_word h)

  -- whether it has noted slot q, in word 3 + q of its row
  pub note_word : (q : ℕ) → p < length w → flag_of (get_or (drop 3 (get_or w p [])) q 0) ≡ has_noted (blockers_of w) p q
  unfolding blocker_of
  note_word q h = rw (← blocker_row h) (sym (get_or-map_at flag_of (drop 3 (get_or w p [])) q 0))

  -- with that word 0 it has forgotten q
  pub note_cleared : (q : ℕ) → p < length w → blockers_of (set w p (set (get_or w p []) (3 + q) 0))
      ≡ record { slots = set (blockers_of w).slots p (forgetting q (blocker_at (blockers_of w) p)) }
  note_cleared q h = blocker_put (set (get_or w p []) (3 + q) 0) ∙ rw (row_forgets (get_or w p []) q, blocker_row h)

-- the notes of one that enters: as many as there are rows, and that of each row

module _ (k : Kind) (r : Range) (w : Rows) where
  pub notes_length : length (notes_of k r (blockers_of w)) ≡ length w
  unfolding notes_of
  notes_length = length-map (blockers_of w).slots (notes k r) ∙ length-map w blocker_of

  pub note_at : (i : ℕ) → i < length w → notes k r (blocker_of (get_or w i [])) ≡ get_or (notes_of k r (blockers_of w)) i false
  unfolding notes_of
  note_at i h =
      rw (blocker_row w i h) (sym (get_or-map (notes k r) (blockers_of w).slots i nowhere false (rw (length-map w blocker_of) h)))

-- the rows without one that leaves

pub vacant_row : blocker_of (replicate 11 0) ≡ vacant
unfolding blocker_of kind_of
vacant_row = refl

pub left_row : (w : Rows) (p : ℕ) → blockers_of (set w p (replicate 11 0)) ≡ record { slots = set (blockers_of w).slots p vacant }
left_row w p = blocker_put w p (replicate 11 0) ∙ rw vacant_row

-- ---- the lowest free slot, by the phase in each row's first word

pub free_rows : (w : Rows) → position_or_len (λ r. is_free (state_from r).phase) w ≡ first_free (states_of w)
unfolding first_free
free_rows [] = refl
free_rows (r ∷ w) = go (is_free (state_from r).phase) (position_or_len _ w) (first_free (states_of w)) (free_rows w)
  where
    go : (t : Bool) (m n : ℕ) → m ≡ n → cond (not t) (1 + m) 0 ≡ pick t 0 (suc n)
    go true m n e = refl
    go false m n e = omega (arith, e)

pub free_within : (w : Rows) → first_free (states_of w) ≤ length w
unfolding first_free
free_within [] = omega arith
free_within (r ∷ w) = go (is_free (state_from r).phase) (first_free (states_of w)) (free_within w)
  where
    go : (t : Bool) (n : ℕ) → n ≤ length w → pick t 0 (suc n) ≤ suc (length w)
    go true n h = omega arith
    go false n h = omega (arith, h)
