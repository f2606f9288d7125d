-- The invariant of the two sides, slot by slot and pair by pair; that a slot keeps it where others change; that lending other data keeps it; and who waits as others enter and leave. Assumes nothing.
use Rattle.std.specs.Prelude.{Option, Some, None}
use Rattle.std.specs.Prelude.{Ok}
use mathlib.Core.Path.{◌≡◌, refl, sym, ap, ◌∙◌, subst}
use mathlib.Core.Bool.{Bool, true, false}
use mathlib.Core.Logic.{◌≢◌}
use mathlib.Core.List.{List}
use Prim.Native.Nat.{ℕ, ◌+◌, ◌*◌, ◌<◌, ◌≤◌}
use native.Mathlib.Omega.{arith}
use native.Mathlib.Decide.{ℕ_discrete}
use lib.Dec.{leb, eqb}
use lib.ListN.{length, get_or}
use borrow.Author.Tests.{eqb-true, lt-ltb, ltb-true, leb-true}
use Rattle.arithmetic.specs.Rounding.{pick}
use Rattle.arithmetic.specs.SettingsLaws.{and_left, and_right, opened}
use Rattle.arithmetic.specs.Content.{in_range}
use Rattle.arithmetic.specs.declared.settings.Buffers.{Buffers}
use Rattle.arithmetic.specs.declared.offsets.Range.{Range}
use Rattle.vectors.specs.Vectors.{lies_in, all_segments, segments_of, bytes_of, overlap_of, self_overlap_of}
use Rattle.vectors.specs.Places.{covered}
use Rattle.vectors.specs.SegmentLaws.{valid}
use Rattle.vectors.specs.declared.vector.IoVector.{IoVector}
use Rattle.blockers.specs.Blockers.{overlaps, is_entered, present, blocker_at, entered_of, left_of, has_noted, waits_of, strength}
use Rattle.blockers.specs.Reached.{Reached, Entered}
use Rattle.blockers.specs.Laws.{entered_other, left_kind, left_note, left_notes, waits_here, waits_for}
use Rattle.blockers.specs.declared.Blocker.{Blocker}
use Rattle.blockers.specs.declared.Blockers.{Blockers}
use Rattle.stages.specs.Stages.{size_of, blocked_of, is_free, is_pending, is_blocking}
use Rattle.stages.specs.declared.state.State.{State}
use Rattle.dock.specs.Dock.{state_at, vector_at, lent_fits, is_read_job}
use Rattle.dock.specs.Begin.{blockers_with}
use Rattle.dock.specs.Tell.{blockers_without}
use Rattle.dock.specs.declared.dock.Dock.{Dock}
use Rattle.stages.specs.Laws.{never}
use Rattle.theorem_lists.specs.Courses.{has_vector}
use Rattle.theorem_lists.specs.Held.{SlotOf, Held}
use Rattle.theorem_lists.specs.MadeLaws.{data_long}
use Rattle.theorem_lists.specs.PlainStore.{Tracked, Plain}
use Rattle.theorem_lists.specs.Histories.{Lends, World, fits_lent, data_of, LentOf, Same, called}
use Rattle.theorem_lists.proofs.Lists.{bytes_agree}
use Rattle.theorem_lists.proofs.Invariant.{share, Flight, flight_frame}

abbrev pub Taken : Dock → ℕ → Type 0
Taken d p = is_free (state_at d p).phase ≡ false

-- the slot's job, as the plain byte store tracks it
pub record Tracks (w : World) (m : Plain) (p : ℕ) : Type 0 where
  pub j : Tracked
  pub is : m.jobs p ≡ Some j
  pub flight : Flight w.dock.settings w.store w.memory (share w.scratch w.dock.settings.bounce p) (state_at w.dock p) (vector_at w.dock p) (w.carried p) (waits_of p w.dock.blockers) j

pub record SlotInv (w : World) (m : Plain) (p : ℕ) : Type 0 where
  -- where no request is out or waited for, none was carried out
  pub idle : is_pending (state_at w.dock p).phase ≡ false → w.carried p ≡ None
  pub tracks : Taken w.dock p → Tracks w m p

pub record Inv (w : World) (m : Plain) : Type 0 where
  pub held : Held w.dock
  pub long : lent_fits w.dock.buffers (length w.memory) (length w.scratch) ≡ true
  pub same : Same w m
  pub settings : m.settings ≡ w.dock.settings
  pub buffers : m.buffers ≡ w.dock.buffers
  pub slots : (p : ℕ) → p < 8 → SlotInv w m p
  -- no read shares data with another job in flight, or with itself
  pub apart : (p q : ℕ) → p < 8 → q < 8 → p ≢ q → Taken w.dock p → Taken w.dock q → is_read_job (state_at w.dock p).job ≡ true
      → overlap_of (segments_of (vector_at w.dock p)) (segments_of (vector_at w.dock q)) ≡ false
  pub alone : (p : ℕ) → p < 8 → Taken w.dock p → is_read_job (state_at w.dock p).job ≡ true → self_overlap_of (segments_of (vector_at w.dock p)) ≡ false

-- ---- lengths

pub scratch_length : (b : Buffers) (m n : ℕ) → lent_fits b m n ≡ true → n ≡ b.scratch.length
unfolding lent_fits
scratch_length b m n e = eqb-true n b.scratch.length (and_right (eqb m b.«data».length) _ e)

module _ (w : World) (m : Plain) (I : Inv w m) where
  -- eight shares lie in the scratch
  pub room : 8 * w.dock.settings.bounce ≤ length w.scratch
  room = omega (arith, (opened w.dock.settings w.dock.buffers I.held.opened).room, scratch_length w.dock.buffers (length w.memory) (length w.scratch) I.long)

  -- the segments of a job in flight lie in the data
  pub segments_lie : (p : ℕ) → p < 8 → Taken w.dock p → has_vector (state_at w.dock p).job ≡ true → all_segments (lies_in (length w.memory)) (segments_of (vector_at w.dock p)) ≡ true
  segments_lie p h f u =
      let e = data_long w.dock.buffers (length w.memory) (length w.scratch) I.long in
      rw e (valid w.dock.buffers.«data».length (vector_at w.dock p) ((I.held.slots p h).vector f u).0).fit.lie

-- ---- a slot that others leave as it is

module _ (w w' : World) (m m' : Plain) (I : Inv w m) (q : ℕ) (h : q < 8)
    (settings : w'.dock.settings ≡ w.dock.settings) (state : state_at w'.dock q ≡ state_at w.dock q) (vector : vector_at w'.dock q ≡ vector_at w.dock q)
    (carried : w'.carried q ≡ w.carried q) (jobs : m'.jobs q ≡ m.jobs q)
    (data-same : Taken w.dock q → has_vector (state_at w.dock q).job ≡ true → bytes_of w'.memory (segments_of (vector_at w.dock q)) ≡ bytes_of w.memory (segments_of (vector_at w.dock q)))
    (share-same : (i : ℕ) → i < w.dock.settings.bounce → share w'.scratch w.dock.settings.bounce q i ≡ share w.scratch w.dock.settings.bounce q i)
    (store_same : waits_of q w.dock.blockers ≡ false → (state_at w.dock q).stage.strong ≡ true → is_blocking (state_at w.dock q).phase ≡ true → (i : ℕ) → i < size_of (state_at w.dock q).stage.request
    → w'.store ((state_at w.dock q).stage.request.start.0 + i) ≡ w.store ((state_at w.dock q).stage.request.start.0 + i))
    (wait_less : waits_of q w'.dock.blockers ≡ true → waits_of q w.dock.blockers ≡ true) where
  S : SlotOf w.dock q
  S = I.held.slots q h

  tracked : Taken w.dock q → Tracks w' m' q
  tracked f =
      let k = (I.slots q h).tracks f in
      record {
        j = k.j;
        is = jobs ∙ k.is;
        flight =
            rw (settings, state, vector, carried)
            (flight_frame w.dock.settings w.store w'.store w.memory w'.memory (share w.scratch w.dock.settings.bounce q) (share w'.scratch w.dock.settings.bounce q)
            (state_at w.dock q) (vector_at w.dock q) (w.carried q) (waits_of q w.dock.blockers) (waits_of q w'.dock.blockers) k.j
            S.sound S.on_store S.regular (data-same f) share-same store_same wait_less k.flight);
      }

  pub slot_frame : SlotInv w' m' q
  slot_frame = record {
    idle = λ e. carried ∙ (I.slots q h).idle (rw state at e);
    tracks = λ f. tracked (rw state at f);
  }

-- ---- a call is lent other data, but for that of jobs in flight

abbrev pub with_data : World → List ℕ → World
with_data w memory = called w w.dock memory w.scratch

module _ (w : World) (m : Plain) (I : Inv w m) (l : Lends) (fit : fits_lent w l ≡ true) (lent : LentOf w m l) where
  pub lent_scratch : l.scratch ≡ w.scratch
  lent_scratch = (lent fit).0

  lent_long : length l.memory ≡ length w.memory
  lent_long = data_long w.dock.buffers (length l.memory) (length l.scratch) fit ∙ sym (data_long w.dock.buffers (length w.memory) (length w.scratch) I.long)

  -- the dock's vector is the one that was handed to begin
  in_flight : (q : ℕ) → q < 8 → Taken w.dock q → (k : ℕ) → covered (segments_of (vector_at w.dock q)) k ≡ true → covered (data_of (m.jobs q)) k ≡ true
  in_flight q h f k c =
      let t = (I.slots q h).tracks f in
      subst (λ (o : Option Tracked). covered (data_of o) k ≡ true) (sym t.is) (subst (λ (v : IoVector). covered (segments_of v) k ≡ true) (sym t.flight.asked.vector) c)

  pub lent_keeps : Inv (with_data w l.memory) m
  lent_keeps = record {
    held = I.held;
    long = rw lent_long I.long;
    same = I.same;
    settings = I.settings;
    buffers = I.buffers;
    slots = λ q h.
        slot_frame w (with_data w l.memory) m m I q h refl refl refl refl refl
        (λ f u. bytes_agree l.memory w.memory (segments_of (vector_at w.dock q)) lent_long (rw lent_long (segments_lie w m I q h f u)) (λ k c. (lent fit).1 q k (in_flight q h f k c)))
        (λ i k. refl) (λ a b c i k. refl) (λ e. e);
    apart = I.apart;
    alone = I.alone;
  }

-- ---- who waits

module _ (b : Blockers) (rank : ℕ → ℕ) (clock : ℕ) (R : Reached b rank clock) (p q : ℕ) (hp : p < 8) (hq : q < 8) (n : q ≢ p) (y : State) where
  -- as another enters, nobody waits who did not
  pub enter_waits : is_entered (blocker_at b p) ≡ false → waits_of q (blockers_with b p y).blockers ≡ true → waits_of q b ≡ true
  unfolding blockers_with
  enter_waits v = go (is_blocking y.phase)
    where
      c : Blockers
      c = (entered_of (strength y.stage.strong) p (blocked_of y.stage) b).blockers

      found : waits_of q c ≡ true → waits_of q b ≡ true
      found e =
          let o = waits_for c q e in
          let r = o.0 in
          let noted : has_noted b q r ≡ true = sym (ap (λ (x : Blocker). get_or x.noted r false) (entered_other (strength y.stage.strong) p (blocked_of y.stage) b q n)) ∙ o.2 in
          elim (ℕ_discrete r p) [
            | yes i ↦ never (sym v ∙ (rw i at (R.noted q r hq o.1 noted).1))
            | no k ↦ waits_here b q r o.1 noted (sym (ap is_entered (entered_other (strength y.stage.strong) p (blocked_of y.stage) b r k)) ∙ o.3)
          ]

      go : (t : Bool) → waits_of q (pick t (entered_of (strength y.stage.strong) p (blocked_of y.stage) b) (record { blockers = b; outcome = (Ok tt) })).blockers ≡ true → waits_of q b ≡ true
      go true e = found e
      go false e = e

  -- nor as another leaves
  pub leave_waits : is_entered (blocker_at b p) ≡ is_blocking y.phase → waits_of q (blockers_without b p y).blockers ≡ true → waits_of q b ≡ true
  unfolding blockers_without
  leave_waits v = go (is_blocking y.phase) refl
    where
      c : Blockers
      c = (left_of p b).blockers

      found : Entered b p → waits_of q c ≡ true → waits_of q b ≡ true
      found u e =
          let o = waits_for c q e in
          let r = o.0 in
          elim (ℕ_discrete r p) [
            | yes i ↦ never (sym (left_note p b hp u q) ∙ (rw i at o.2))
            | no k ↦ waits_here b q r o.1 (sym (left_notes p b q r n k) ∙ o.2) (sym (ap present (left_kind p b r k)) ∙ o.3)
          ]

      go : (t : Bool) → is_blocking y.phase ≡ t → waits_of q (pick t (left_of p b) (record { blockers = b; outcome = (Ok tt) })).blockers ≡ true → waits_of q b ≡ true
      go true t e = found (v ∙ t) e
      go false t e = e

-- ---- ranges

pub shared_overlap : (a b : Range) (y : ℕ) → in_range a y ≡ true → in_range b y ≡ true → overlaps a b ≡ true
unfolding overlaps
shared_overlap a b y e f =
    let p = leb-true a.start.0 y (and_left _ _ e) in
    let q = ltb-true y a.end.0 (and_right (leb a.start.0 y) _ e) in
    let r = leb-true b.start.0 y (and_left _ _ f) in
    let s = ltb-true y b.end.0 (and_right (leb b.start.0 y) _ f) in
    rw (lt-ltb a.start.0 b.end.0 (omega (arith, p, s)), lt-ltb b.start.0 a.end.0 (omega (arith, q, r)))
