-- A step stored in words, and a job stored there, are what Tell and Begin say of the dock; when a blocker can leave, enter or change.
-- Assumes nothing.
use Rattle.std.proofs.Math.Path.{◌≡◌, refl, sym}
use Rattle.std.proofs.Common.{ap, ◌∙◌, arith, ltb-true, lt-ltb, le-ltb}
use Rattle.std.specs.Prelude.{Bool, ◌&&◌, ℕ, ◌<◌, ◌≤◌, ltb, set, Result, Ok, Err, Option, Some, None}
use Rattle.std.proofs.Math.Bool.{true, false, not}
use mathlib.Core.List.{List}
use Rattle.arithmetic.specs.Rounding.{pick}
use Rattle.arithmetic.specs.Refusals.{when_done, is_done, is_done_lem}
use Rattle.arithmetic.specs.SettingsLaws.{and_left, and_right}
use Rattle.arithmetic.specs.declared.refusals.Refusal.{Refusal}
use Rattle.arithmetic.specs.declared.refusals.Refusal.TheVariants.{Slot}
use Rattle.vectors.specs.declared.vector.IoVector.{IoVector}
use Rattle.blockers.specs.Blockers.{is_entered, blocker_at, left_of, entered_of, changed_to, refused, strength}
use Rattle.blockers.specs.Laws.{left_own, enter_done}
use Rattle.arithmetic.specs.declared.offsets.Range.{Range}
use Rattle.blockers.specs.declared.Kind.{Kind}
use Rattle.blockers.specs.declared.Blocker.{Blocker}
use Rattle.blockers.specs.declared.Blockers.{Blockers}
use Rattle.blockers.specs.Blockers.{Changed}
use Rattle.stages.specs.Stages.{is_blocking}
use Rattle.stages.specs.declared.state.State.{State}
use Rattle.dock.specs.Begin.{Begins, begins, blockers_with, filled, enter_at, Admits, stored_with_by, stored_with}
use Rattle.dock.specs.Tell.{Told, tells, blockers_without, handed, Stepped, refused_step, stored_by, stored, enters_by, ends_at}
use Rattle.dock.specs.Tell.{enters_at}
use Rattle.dock.specs.declared.dock.Dock.{Dock}
use Rattle.dock.specs.declared.open.Opened.{Opened}
use Rattle.dock_words.specs.View.{Rows, blockers_of, states_of, vectors_of, settings_of, buffers_of, dock_of}
use Rattle.dock_words.specs.CallWords.{same_unless, opens_as, opens_over, changes, ToldWords, tells_words, stored_words_by, stored_words}
use Rattle.dock_words.specs.CallWords.{BegunWords, begins_words, stored_job_by, stored_job}

-- ---- what a call leaves in every word

-- words that nothing was written to
pub same_words : {A : Type 0} (t : Bool) (w : List A) → same_unless t w w
unfolding same_unless
same_words true w = tt
same_words false w = refl

-- of a call that is carried out nothing is said
pub done_words : {A : Type 0} (t : Bool) (w w' : List A) → t ≡ true → same_unless t w w'
unfolding same_unless
done_words true w w' e = tt
done_words false w w' e = let z : ◌≡◌ {A = Bool} false true = e in let y : ◌≡◌ {A = ℕ} 0 1 = cc in absurd (omega arith)

pub opened_as : (t : Bool) (d made : Dock) → d ≡ made → opens_as t d made
unfolding opens_as
opened_as true d made e = e
opened_as false d made e = tt

pub not_opened : (t : Bool) (d made : Dock) → t ≡ false → opens_as t d made
unfolding opens_as
not_opened true d made e = let z : ◌≡◌ {A = Bool} true false = e in let y : ◌≡◌ {A = ℕ} 0 1 = cc in absurd (omega arith)
not_opened false d made e = tt

-- an opening that is refused, over words that stay, and one that is carried out
module _ (made : Opened) (o : Result (Unit {0}) Refusal) (e : o ≡ made.outcome) (s : List ℕ) (b x v : Rows) where
  pub refused_opening : (r : Refusal) → o ≡ Err r → (o ≡ made.outcome) × opens_over made s b x v s b x v
  refused_opening r f = (e, (not_opened _ _ _ (ap is_done (sym e ∙ f)), same_words _ _, (same_words _ _, same_words _ _, same_words _ _)))

  pub done_opening : o ≡ (Ok tt) → (s' : List ℕ) (b' x' v' : Rows) → dock_of s' b' x' v' ≡ made.dock
      → ((Ok tt) ≡ made.outcome) × opens_over made s b x v s' b' x' v'
  done_opening f s' b' x' v' d =
      let k = ap is_done (sym e ∙ f) in
      (sym f ∙ e, (opened_as _ _ _ d, done_words _ _ _ k, (done_words _ _ _ k, done_words _ _ _ k, done_words _ _ _ k)))

-- ---- what a call left, held beside the dock

module _ (s : List ℕ) (b x v : Rows) where
  pub tell_stored : (p : ℕ) (o : Result (Unit {0}) Refusal) (b' x' : Rows) (memory scratch : List ℕ) (t : Stepped)
      → tells_words o b' x' memory scratch ≡ stored_words (blockers_of b) (states_of x) p t
      → tells (record { outcome = o; dock = dock_of s b' x' v }) memory scratch ≡ stored (dock_of s b x v) p t
  tell_stored p o b' x' memory scratch t e = ap by e ∙ go t.outcome
    where
      by : ToldWords → Told
      by k = tells (record {
        outcome = k.outcome;
        dock = record {
          settings = settings_of s;
          buffers = buffers_of s;
          blockers = k.blockers;
          states = k.states;
          vectors = vectors_of v;
        };
      }) k.memory k.scratch

      go : (o : Result (Unit {0}) Refusal) → by (stored_words_by o (blockers_of b) (states_of x) p t) ≡ stored_by o (dock_of s b x v) p t
      go (Ok _) = refl
      go (Err r) = refl

  pub begin_stored : (r : Result (Option ℕ) Refusal) (b' x' v' : Rows) (scratch : List ℕ) (w : IoVector) (a : Admits)
      → begins_words r b' x' v' scratch ≡ stored_job (blockers_of b) (states_of x) (vectors_of v) w a
      → begins (record { answer = r; dock = dock_of s b' x' v' }) scratch ≡ stored_with (dock_of s b x v) w a
  begin_stored r b' x' v' scratch w a e = ap by e ∙ go a.answer
    where
      by : BegunWords → Begins
      by k = begins (record {
        answer = k.answer;
        dock = record {
          settings = settings_of s;
          buffers = buffers_of s;
          blockers = k.blockers;
          states = k.states;
          vectors = k.vectors;
        };
      }) k.scratch

      go : (z : Result (Option ℕ) Refusal)
          → by (stored_job_by z (blockers_of b) (states_of x) (vectors_of v) w a) ≡ stored_with_by z (dock_of s b x v) w a
      go (Ok None) = refl
      go (Ok (Some p)) = refl
      go (Err y) = refl

-- a step that is done is stored; one that is refused leaves blockers and states
module _ (B : Blockers) (xs : List State) (p : ℕ) (t : Stepped) (b x : Rows) (memory scratch : List ℕ) where
  pub stored_done : t.outcome ≡ (Ok tt) → blockers_of b ≡ t.blockers → states_of x ≡ set xs p t.state → memory ≡ t.memory
      → scratch ≡ t.scratch → tells_words (Ok tt) b x memory scratch ≡ stored_words B xs p t
  stored_done o e f m n = rw (e, f, m, n) (sym (ap (λ (z : Result (Unit {0}) Refusal). stored_words_by z B xs p t) o))

  pub stored_refused : (r : Refusal) → t.outcome ≡ Err r → blockers_of b ≡ B → states_of x ≡ xs → memory ≡ t.memory
      → scratch ≡ t.scratch → tells_words (Err r) b x memory scratch ≡ stored_words B xs p t
  stored_refused r o e f m n = rw (e, f, m, n) (sym (ap (λ (z : Result (Unit {0}) Refusal). stored_words_by z B xs p t) o))

-- ---- when a blocker can leave, enter or change

module _ (b : Blockers) (p : ℕ) where
  leave_is : is_done (left_of p b).outcome ≡ (ltb p 8 && is_entered (blocker_at b p))
  unfolding left_of
  leave_is = go (ltb p 8 && is_entered (blocker_at b p)) _
    where
      go : (t : Bool) (l : List Blocker) → is_done (pick t (changed_to l) (refused b)).outcome ≡ t
      go true l = refl
      go false l = refl

  enter_is : (k : Kind) (r : Range) → is_done (entered_of k p r b).outcome ≡ (ltb p 8 && not (is_entered (blocker_at b p)))
  unfolding entered_of
  enter_is k r = go (ltb p 8 && not (is_entered (blocker_at b p))) _
    where
      go : (t : Bool) (l : List Blocker) → is_done (pick t (changed_to l) (refused b)).outcome ≡ t
      go true l = refl
      go false l = refl

  module _ (x : State) where
    -- it can leave: it has none, or it is entered
    pub leaves_plain : is_blocking x.phase ≡ false → true ≡ is_done (blockers_without b p x).outcome
    unfolding blockers_without
    leaves_plain e = simp e

    pub leaves_entered : is_blocking x.phase ≡ true → (ltb p 8 && is_entered (blocker_at b p)) ≡ is_done (blockers_without b p x).outcome
    unfolding blockers_without
    leaves_entered e = simp e (sym leave_is)

    -- where it cannot, that is 208
    pub leaves_not : is_done (blockers_without b p x).outcome ≡ false → (blockers_without b p x).outcome ≡ Err Slot
    unfolding blockers_without left_of
    leaves_not = go (is_blocking x.phase) (ltb p 8 && is_entered (blocker_at b p)) _
      where
        go : (u t : Bool) (l : List Blocker) → is_done (pick u (pick t (changed_to l) (refused b)) (record {
          blockers = b;
          outcome = (Ok (tt {0}));
        })).outcome ≡ false
            → (pick u (pick t (changed_to l) (refused b)) (record { blockers = b; outcome = (Ok tt) })).outcome ≡ Err Slot
        go true true l e = let z : ◌≡◌ {A = ℕ} 0 1 = cc in absurd (omega arith)
        go true false l e = refl
        go false t l e = let z : ◌≡◌ {A = ℕ} 0 1 = cc in absurd (omega arith)

    -- it can enter: it has none, or none is entered
    pub enters_plain : is_blocking x.phase ≡ false → true ≡ is_done (blockers_with b p x).outcome
    unfolding blockers_with
    enters_plain e = simp e

    pub enters_past : is_blocking x.phase ≡ true → 8 ≤ p → false ≡ is_done (blockers_with b p x).outcome
    unfolding blockers_with
    enters_past e h = simp e (sym (enter_is (strength x.stage.strong) x.stage.request ∙ simp (le-ltb p 8 h)))

    pub enters_vacant : is_blocking x.phase ≡ true → p < 8
        → not (ltb p 8 && is_entered (blocker_at b p)) ≡ is_done (blockers_with b p x).outcome
    unfolding blockers_with
    enters_vacant e h = simp e (simp (lt-ltb p 8 h) (sym (enter_is (strength x.stage.strong) x.stage.request
        ∙ simp (lt-ltb p 8 h))))

    pub enters_not : is_done (blockers_with b p x).outcome ≡ false → (blockers_with b p x).outcome ≡ Err Slot
    unfolding blockers_with entered_of
    enters_not = go (is_blocking x.phase) (ltb p 8 && not (is_entered (blocker_at b p))) _
      where
        go : (u t : Bool) (l : List Blocker) → is_done (pick u (pick t (changed_to l) (refused b)) (record {
          blockers = b;
          outcome = (Ok (tt {0}));
        })).outcome ≡ false
            → (pick u (pick t (changed_to l) (refused b)) (record { blockers = b; outcome = (Ok tt) })).outcome ≡ Err Slot
        go true true l e = let z : ◌≡◌ {A = ℕ} 0 1 = cc in absurd (omega arith)
        go true false l e = refl
        go false t l e = let z : ◌≡◌ {A = ℕ} 0 1 = cc in absurd (omega arith)

-- where a blocker has left, the next one enters
after_left : (b : Blockers) (p : ℕ) (y : State) → is_done (left_of p b).outcome ≡ true
    → (blockers_with (left_of p b).blockers p y).outcome ≡ Ok tt
unfolding blockers_with
after_left b p y e = go (is_blocking y.phase)
  where
    there : (ltb p 8 && is_entered (blocker_at b p)) ≡ true
    there = sym (leave_is b p) ∙ e

    h : p < 8
    h = ltb-true p 8 (and_left (ltb p 8) (is_entered (blocker_at b p)) there)

    own : is_entered (blocker_at (left_of p b).blockers p) ≡ false
    own = ap is_entered (left_own p b h (and_right (ltb p 8) (is_entered (blocker_at b p)) there))

    go : (t : Bool) → (pick t (entered_of (strength y.stage.strong) p y.stage.request (left_of p b).blockers)
        (record { blockers = (left_of p b).blockers; outcome = (Ok (tt {0})) })).outcome ≡ Ok (tt {0})
    go true = ap (λ (c : Changed). c.outcome) (enter_done (strength y.stage.strong) p y.stage.request (left_of p b).blockers h own)
    go false = refl

module _ (b : Blockers) (p : ℕ) (x y : State) where
  -- of a stage with a blocker: it changes where it can leave
  pub changes_blocking : is_blocking x.phase ≡ true → is_done (blockers_without b p x).outcome ≡ is_done (changes b p x y)
  unfolding blockers_without
  changes_blocking e = simp e (go (left_of p b).outcome refl)
    where
      go : (o : Result (Unit {0}) Refusal) → (left_of p b).outcome ≡ o
          → is_done o ≡ is_done (when_done o (blockers_with (left_of p b).blockers p y).outcome Err)
      go (Ok _) q = sym (ap is_done (after_left b p y (ap is_done q)))
      go (Err r) q = refl

  -- of a stage with none: where the next one can enter
  pub changes_plain : is_blocking x.phase ≡ false → is_done (blockers_with b p y).outcome ≡ is_done (changes b p x y)
  unfolding blockers_without
  changes_plain e = simp e

-- ---- a job ends, or enters its next stage

module _ (b : Blockers) (p share : ℕ) (x : State) (code : ℕ) (y : State) (v : IoVector) (memory scratch : List ℕ) where
  pub ends_left : is_done (blockers_without b p x).outcome ≡ true
      → ends_at b p share x code y v memory scratch ≡ record {
        outcome = (handed share x code v memory scratch).outcome;
        blockers = (blockers_without b p x).blockers;
        state = y;
        memory = (handed share x code v memory scratch).memory;
        scratch = scratch;
      }
  unfolding ends_at
  ends_left e = simp (is_done_lem (blockers_without b p x).outcome e)

  pub ends_stuck : is_done (blockers_without b p x).outcome ≡ false
      → ends_at b p share x code y v memory scratch ≡ refused_step b x Slot memory scratch
  unfolding ends_at
  ends_stuck e = simp (leaves_not b p x e)

module _ (b : Blockers) (p share : ℕ) (x y : State) (v : IoVector) (memory scratch : List ℕ) where
  pub enters_changed : is_done (changes b p x y) ≡ true
      → enters_at b p share x y v memory scratch
      ≡ record {
        outcome = (filled share y v memory scratch).outcome;
        blockers = (blockers_with (blockers_without b p x).blockers p y).blockers;
        state = y;
        memory = memory;
        scratch = (filled share y v memory scratch).scratch;
      }
  unfolding enters_at enter_at
  enters_changed = go (blockers_without b p x).outcome (blockers_with (blockers_without b p x).blockers p y).outcome
    where
      B : Blockers
      B = (blockers_with (blockers_without b p x).blockers p y).blockers

      go : (q n : Result (Unit {0}) Refusal) → is_done (when_done q n Err) ≡ true
          → when_done q (enters_by (when_done n (record {
            blockers = B;
            outcome = (filled share y v memory scratch).outcome;
            scratch = (filled share y v memory scratch).scratch;
          })
          (λ r. record { blockers = B; outcome = n; scratch = scratch })) y memory) (λ r. refused_step b x r memory scratch)
          ≡ record {
            outcome = (filled share y v memory scratch).outcome;
            blockers = B;
            state = y;
            memory = memory;
            scratch = (filled share y v memory scratch).scratch;
          }
      go (Ok _) (Ok _) e = refl
      go (Ok _) (Err r) e = let z : ◌≡◌ {A = ℕ} 0 1 = cc in absurd (omega arith)
      go (Err r) n e = let z : ◌≡◌ {A = ℕ} 0 1 = cc in absurd (omega arith)

  -- where it cannot change, that is 208, and nothing moves
  pub enters_stuck : is_done (changes b p x y) ≡ false
      → ((enters_at b p share x y v memory scratch).outcome ≡ Err Slot) × (memory ≡ (enters_at b p share x y v memory scratch).memory)
      × (scratch ≡ (enters_at b p share x y v memory scratch).scratch)
  unfolding enters_at enter_at
  enters_stuck = go (blockers_without b p x).outcome (leaves_not b p x) (blockers_with (blockers_without b p x).blockers p y).outcome
      (enters_not (blockers_without b p x).blockers p y)
    where
      B : Blockers
      B = (blockers_with (blockers_without b p x).blockers p y).blockers

      there : Result (Unit {0}) Refusal → Result (Unit {0}) Refusal → Stepped
      there q n = when_done q (enters_by (when_done n (record {
        blockers = B;
        outcome = (filled share y v memory scratch).outcome;
        scratch = (filled share y v memory scratch).scratch;
      })
          (λ r. record { blockers = B; outcome = n; scratch = scratch })) y memory) (λ r. refused_step b x r memory scratch)

      go : (q : Result (Unit {0}) Refusal) → (is_done q ≡ false → q ≡ Err Slot) → (n : Result (Unit {0}) Refusal)
          → (is_done n ≡ false → n ≡ Err Slot) →
          is_done (when_done q n Err) ≡ false
          → ((there q n).outcome ≡ Err Slot) × (memory ≡ (there q n).memory) × (scratch ≡ (there q n).scratch)
      go (Ok _) f (Ok _) g e = let z : ◌≡◌ {A = ℕ} 0 1 = cc in absurd (omega arith)
      go (Ok _) f (Err r) g e = (g refl, refl, refl)
      go (Err r) f n g e = (f refl, refl, refl)
