-- THE THEOREM, demand 3: on every lawful list of events from an opened dock, over a store of any content, the claim holds. Assumes nothing.
use Rattle.std.specs.Prelude.{Option}
use Rattle.std.specs.Prelude.{Result, Ok, Err, Some, None}
use mathlib.Core.Path.{◌≡◌, refl, sym, ap, ◌∙◌, subst}
use mathlib.Core.Bool.{Bool, true, false, ◌&&◌, not}
use mathlib.Core.List.{List, [], ◌∷◌}
use Prim.Native.Nat.{ℕ, ◌<◌}
use native.Mathlib.Omega.{arith}
use lib.Dec.{ltb}
use lib.ListN.{length}
use borrow.Author.Tests.{ltb-true}
use Rattle.arithmetic.specs.Rounding.{pick}
use Rattle.arithmetic.specs.SettingsLaws.{opened as opened-facts}
use Rattle.arithmetic.specs.Offsets.{range_of}
use Rattle.arithmetic.specs.Settings.{settings_fit}
use Rattle.arithmetic.specs.Zeroes.{zero_cut_of}
use Rattle.arithmetic.specs.Content.{Bytes}
use Rattle.arithmetic.specs.declared.refusals.Refusal.{Refusal}
use Rattle.arithmetic.specs.declared.refusals.Refusal.TheVariants.{Buffer, Slot, NoAnswer}
use Rattle.arithmetic.specs.declared.offsets.StoreOffset.{StoreOffset}
use Rattle.arithmetic.specs.declared.offsets.Range.{Range}
use Rattle.arithmetic.specs.declared.settings.Settings.{Settings}
use Rattle.arithmetic.specs.declared.zeroes.ZeroCut.{ZeroCut}
use Rattle.arithmetic.specs.declared.zeroes.ZeroCut.TheVariants.{Nothing as NoCut, Whole, Split}
use Rattle.vectors.specs.Vectors.{is_valid, vector_of, alignment_of}
use Rattle.vectors.specs.declared.vector.IoVector.{IoVector}
use Rattle.stages.specs.Stages.{asked, is_free, has_ended, is_pending, read_plan, write_plan, zero_job, zero_by, zero_plan, discard_plan, zeroes_plan, told_of}
use Rattle.stages.specs.Laws.{Starts, read_opens, write_opens, zero_opens, discard_opens, never}
use Rattle.stages.specs.declared.state.Job.{Job}
use Rattle.stages.specs.declared.state.Job.TheVariants.{Read, Write, Zeroes, AllocatedZeroes, Discard}
use Rattle.stages.specs.declared.state.Phase.{Phase}
use Rattle.stages.specs.declared.state.Phase.TheVariants.{Free, Ended, DirectRead, BouncedRead, FirstRead, SecondRead, BouncedWrite, DirectWrite, ZeroRequest, DiscardRequest}
use Rattle.stages.specs.declared.state.Course.TheVariants.{Last}
use Rattle.stages.specs.declared.state.Request.{Request}
use Rattle.stages.specs.declared.state.State.{State}
use Rattle.blockers.specs.Blockers.{waits_of}
use Rattle.stages.specs.declared.told.Step.{Step}
use Rattle.stages.specs.declared.told.Step.TheVariants.{Stays, Ends, Enters}
use Rattle.dock.specs.Dock.{state_at, vector_at, vacant, lent_of, is_out_by, is_out, overlaps_of, first_free, open_of}
use Rattle.dock.specs.Begin.{is_aligned, Begins, with_job, selected_of, plan_of, vector_for, plan_for, decided_for, begin_of}
use Rattle.dock.specs.Tell.{Told, refused_tell, tell_of, collect_of}
use Rattle.dock.specs.SlotLaws.{started}
use Rattle.dock.specs.declared.dock.Dock.{Dock}
use Rattle.dock.specs.declared.begin.Asked.{Asked}
use Rattle.dock.specs.declared.tell.Collects.{Collects}
use Rattle.theorem_lists.specs.Calls.{starts_from, read_ready, write_ready, zero_ready, discard_ready, begun_rule, after}
use Rattle.theorem_lists.specs.MadeLaws.{begin_is, data_long, tell_is}
use Rattle.theorem_lists.specs.Store.{Choice}
use Rattle.theorem_lists.specs.PlainStore.{range_for, Tracked, Plain, plain_opened, plain_step, enters_plain, brought_by, told_by, tell_by, collect_by}
use Rattle.theorem_lists.specs.Histories.{Lends, Event, begins, carries, tells, collects, World, opened, called, fits_lent, after_begin, told, after_tell, after_collect, out_in, after_carry, step, carry_item, fed, LentOf, CodeOf, HandsIn, Allowed, Lawful, OwedBy, OwedTo, Owed, Claim, EveryList}
use Rattle.theorem_lists.proofs.Geometry.{read_shaped, write_shaped, zero_shaped, discard_shaped}
use Rattle.theorem_lists.proofs.Progress.{Before, Follows, Opening, zeroes_follow}
use Rattle.theorem_lists.proofs.Invariant.{Fact}
use Rattle.theorem_lists.proofs.World.{Inv, with_data, lent_keeps, lent_scratch}
use Rattle.theorem_lists.proofs.Renewing.{opened_inv, freed_inv}
use Rattle.theorem_lists.proofs.Beginning.{Start, begun_inv}
use Rattle.theorem_lists.proofs.Carrying.{out_of}
use Rattle.theorem_lists.proofs.Serving.{carried_inv}
use Rattle.theorem_lists.proofs.Telling.{told_inv, T}

-- ---- begin

-- the first stage of a zero job has nothing put before it
opening_before : (p : Result (Option State) Refusal) → Opening (Follows []) p → Starts (λ (x : State). Before x.course x.stage.asked x.range x.middle []) p
opening_before (Ok None) k = absurd k
opening_before (Ok (Some x)) k = k.before
opening_before (Err r) k = tt

zero_before : (s : Settings) (fit : settings_fit s ≡ true) (t : Bool) (o : StoreOffset) (n : ℕ) → Starts (λ (x : State). Before x.course x.stage.asked x.range x.middle []) (zero_plan s t o n)
unfolding zero_plan
zero_before s fit t o n = by (zero_cut_of s.align o n)
  where
    by : (x : Result ZeroCut Refusal) → Starts (λ (x : State). Before x.course x.stage.asked x.range x.middle []) (zero_by s (zero_job t) o n x)
    by (Ok NoCut) = tt
    by (Ok (Whole r)) = opening_before (zeroes_plan s (zero_job t) r (range_of 0 0) Last r) (zeroes_follow s fit [] (zero_job t) r (range_of 0 0) Last r (omega arith, refl) (λ y a b. absurd (omega arith)))
    by (Ok (Split c)) = tt
    by (Err r) = tt

module _ (d : Dock) (fit : settings_fit d.settings ≡ true) (o : StoreOffset) where
  abbrev M : ℕ
  M = d.buffers.«data».length

  abbrev al : IoVector → Bool
  al v = is_aligned (alignment_of d.settings.align d.buffers.«data» v)

  abbrev ask : Job → ℕ → IoVector → Asked
  ask j n v = record { job = j; offset = o; length = n; vector = v }

  zero_start : (t : Bool) (n : ℕ) (q : Asked) → q.job ≡ zero_job t → range_for q ≡ asked o n → vector_for q ≡ vector_of [] → Starts (Start d q (vector_of [])) (zero_plan d.settings t o n)
  zero_start t n q a b c = starts_from (Start d q (vector_of [])) (zero_plan d.settings t o n) (λ x i.
      let k = zero_opens d.settings o n t x i in
      record {
        asked = record { job = a ∙ sym k.job; range = b ∙ sym k.range; vector = c };
        ready = rw i at (zero_ready d.settings M o (vector_of []) t n);
        shaped = rw i at (zero_shaped d.settings fit t o n);
        before = λ z. rw i at (zero_before d.settings fit t o n);
      })

  starts : (j : Job) (n : ℕ) (v : IoVector) → is_valid M (selected_of j v) ≡ true → Starts (Start d (ask j n v) (selected_of j v)) (plan_of j d.settings d.buffers o n v)
  starts Read n v e = starts_from (Start d (ask Read n v) v) (read_plan d.settings o v.total (al v)) (λ x i.
      let k = read_opens d.settings o v.total (al v) x i in
      record {
        asked = record { job = sym k.job; range = sym k.range; vector = refl };
        ready = rw i at (read_ready d.settings M o v e (al v));
        shaped = rw i at (read_shaped d.settings fit o v.total (al v));
        before = λ z. never (rw k.job at z);
      })
  starts Write n v e = starts_from (Start d (ask Write n v) v) (write_plan d.settings o v.total (al v)) (λ x i.
      let k = write_opens d.settings o v.total (al v) x i in
      record {
        asked = record { job = sym k.job; range = sym k.range; vector = refl };
        ready = rw i at (write_ready d.settings M o v e (al v));
        shaped = rw i at (write_shaped d.settings fit o v.total (al v));
        before = λ z. never (rw k.job at z);
      })
  starts Zeroes n v e = zero_start false n (ask Zeroes n v) refl refl refl
  starts AllocatedZeroes n v e = zero_start true n (ask AllocatedZeroes n v) refl refl refl
  starts Discard n v e = starts_from (Start d (ask Discard n v) (vector_of [])) (discard_plan d.settings o n) (λ x i.
      let k = discard_opens d.settings o n x i in
      record {
        asked = record { job = sym k.job; range = sym k.range; vector = refl };
        ready = rw i at (discard_ready d.settings M o (vector_of []) n);
        shaped = rw i at (discard_shaped d.settings fit o n);
        before = λ z. never (rw k.job at z);
      })

abbrev begun_world : World → Begins → World
begun_world w b = called w b.dock w.memory b.scratch

module _ (w : World) (m : Plain) (I : Inv w m) where
  long : length w.memory ≡ w.dock.buffers.«data».length
  long = data_long w.dock.buffers (length w.memory) (length w.scratch) I.long

  fits : settings_fit w.dock.settings ≡ true
  fits = (opened-facts w.dock.settings w.dock.buffers I.held.opened).fit

  abbrev Keeps : Asked → Begins → Result (Option State) Refusal → List ℕ → Type 0
  Keeps q b plan bs = Inv (begun_world w b) (enters_plain b.answer m q bs plan)

  begin_keeps : (q : Asked) → Keeps q (begin_of w.dock q w.memory w.scratch) (plan_for w.dock.settings w.dock.buffers q) (brought_by q w.memory)
  begin_keeps q =
      subst (λ (b : Begins). Keeps q b (plan_for w.dock.settings w.dock.buffers q) (brought_by q w.memory)) (sym (begin_is w.dock I.held q w.memory w.scratch))
      (go (decided_for w.dock q (length w.memory) (length w.scratch)) refl)
    where
      go : (z : Result (Option State) Refusal) → decided_for w.dock q (length w.memory) (length w.scratch) ≡ z
          → Keeps q (begun_rule w.dock (vector_for q) w.memory w.scratch z) (plan_for w.dock.settings w.dock.buffers q) (brought_by q w.memory)
      go (Ok None) e = I
      go (Err r) e = I
      go (Ok (Some x)) e =
          let k =
          started (lent_of w.dock.settings w.dock.buffers (length w.memory) (length w.scratch)) (is_valid (length w.memory) (vector_for q))
          (plan_for w.dock.settings w.dock.buffers q) (overlaps_of w.dock.states w.dock.vectors q.job (vector_for q)) (first_free w.dock.states) x e in
          let f : Start w.dock q (vector_for q) x = rw k.planned at (starts w.dock fits q.offset q.job q.length q.vector (rw long at k.valid)) in
          subst (λ (u : Result (Option State) Refusal). Keeps q (begun_rule w.dock (vector_for q) w.memory w.scratch (Ok (Some x))) u (brought_by q w.memory)) (sym k.planned)
          (begun_inv w m I q (vector_for q) x f k.apart k.slot)

-- ---- an event

begin_refused : (d : Dock) (memory scratch : List ℕ) (q : Asked) → lent_of d.settings d.buffers (length memory) (length scratch) ≡ Err Buffer → (begin_of d q memory scratch).answer ≡ Err Buffer
unfolding begin_of
begin_refused d memory scratch q e = simp e

after_done : (d : Dock) (p : ℕ) (x : State) (code : ℕ) (memory scratch : List ℕ) (t : Step) → (after d p x code memory scratch t).outcome ≡ Ok tt
after_done d p x code memory scratch (Stays y) = refl
after_done d p x code memory scratch (Ends y) = refl
after_done d p x code memory scratch (Enters y) = refl

ended_taken : (ph : Phase) → has_ended ph ≡ true → is_free ph ≡ false
ended_taken Free e = sym e
ended_taken Ended e = refl
ended_taken DirectRead e = refl
ended_taken BouncedRead e = refl
ended_taken FirstRead e = refl
ended_taken SecondRead e = refl
ended_taken BouncedWrite e = refl
ended_taken DirectWrite e = refl
ended_taken ZeroRequest e = refl
ended_taken DiscardRequest e = refl

ended_owes : (s : Bytes) (memory : List ℕ) (sh : ℕ → ℕ) (x : State) (v : IoVector) (car : Option ℕ) (j : Tracked) → x.phase ≡ Ended → Fact x.phase s memory sh x v car j → x.answer ≡ 0 → OwedBy x.job x.range v j memory
ended_owes s memory sh x v car j e f z = (subst (λ (ph : Phase). Fact ph s memory sh x v car j) e f) z

final_zero : (a : ℕ) → ◌≡◌ {A = Result ℕ Refusal} (Ok a) (Ok 0) → a ≡ 0
final_zero a e = cc

refused_final : {A : Type 0} {r : Refusal} → ◌≡◌ {A = Result ℕ Refusal} (Err r) (Ok 0) → A
refused_final e = let z : ◌≡◌ {A = ℕ} 0 1 = cc in absurd (omega arith)

module _ (w : World) (m : Plain) (I : Inv w m) (l : Lends) (lent : LentOf w m l) where
  -- buffers of other lengths: 205
  lent_other : fits_lent w l ≡ false → lent_of w.dock.settings w.dock.buffers (length l.memory) (length l.scratch) ≡ Err Buffer
  unfolding lent_of
  lent_other e = simp (I.held.opened, e)

  begin_event : (q : Asked) → Inv (after_begin w l (begin_of w.dock q l.memory l.scratch)) (enters_plain (begin_of w.dock q l.memory l.scratch).answer m q (brought_by q l.memory) (plan_for m.settings m.buffers q))
  begin_event q = subst (λ (k : Result (Option State) Refusal). Inv (after_begin w l b) (enters_plain b.answer m q (brought_by q l.memory) k)) (sym plan_of_lem) (go (fits_lent w l) refl)
    where
      b : Begins
      b = begin_of w.dock q l.memory l.scratch

      plan_of_lem : plan_for m.settings m.buffers q ≡ plan_for w.dock.settings w.dock.buffers q
      plan_of_lem = let a = I.settings in let c = I.buffers in λ i. plan_for (a i) (c i) q

      go : (t : Bool) → fits_lent w l ≡ t → Inv (pick t (called w b.dock l.memory b.scratch) w) (enters_plain b.answer m q (brought_by q l.memory) (plan_for w.dock.settings w.dock.buffers q))
      go true f =
          subst (λ (s : List ℕ). Inv (begun_world (with_data w l.memory) (begin_of w.dock q l.memory s)) (enters_plain (begin_of w.dock q l.memory s).answer m q (brought_by q l.memory) (plan_for w.dock.settings w.dock.buffers q)))
          (sym (lent_scratch w m I l f lent)) (begin_keeps (with_data w l.memory) m (lent_keeps w m I l f lent) q)
      go false f = subst (λ (a : Result (Option ℕ) Refusal). Inv w (enters_plain a m q (brought_by q l.memory) (plan_for w.dock.settings w.dock.buffers q))) (sym (begin_refused w.dock l.memory l.scratch q (lent_other f))) I

  -- ---- tell

  abbrev after_tell_lem : ℕ → ℕ → Told → Type 0
  after_tell_lem p code t = Inv (after_tell w p l t) (tell_by t.outcome m p code)

  tell_event : (p code : ℕ) → HandsIn w p code l → Inv (after_tell w p l (tell_of w.dock p code l.memory l.scratch)) (tell_by (tell_of w.dock p code l.memory l.scratch).outcome m p code)
  unfolding is_out is_out_by
  tell_event p code hands =
      subst (λ (t : Told). (t.outcome ≡ (Ok tt) → CodeOf (w.carried p) code) → after_tell_lem p code t) (sym (tell_is w.dock I.held p code l.memory l.scratch))
      (go (fits_lent w l) (ltb p 8) (is_pending (state_at w.dock p).phase) (waits_of p w.dock.blockers) (ltb code 200) refl refl refl refl) hands
    where
      x : State
      x = state_at w.dock p

      accepted : fits_lent w l ≡ true → p < 8 → is_pending x.phase ≡ true → waits_of p w.dock.blockers ≡ false → w.carried p ≡ Some code
          → Inv (told (Ok (tt {0})) w p (after w.dock p x code l.memory l.scratch (told_of w.dock.settings x code))) (told_by (m.jobs p) m p code)
      accepted f h k n c =
          let J = lent_keeps w m I l f lent in
          subst (λ (s : List ℕ). Inv (told (Ok tt) w p (after w.dock p x code l.memory s (told_of w.dock.settings x code))) (told_by (m.jobs p) m p code)) (sym (lent_scratch w m I l f lent))
          (subst (λ (o : Option Tracked). Inv (told (Ok tt) w p (after w.dock p x code l.memory w.scratch (told_of w.dock.settings x code))) (told_by o m p code)) (sym (T (with_data w l.memory) m J p h k n code c).is)
          (told_inv (with_data w l.memory) m J p h k n code c))

      refused : (r : Refusal) → fits_lent w l ≡ true → Inv (told (Err r) w p (refused_tell w.dock l.memory l.scratch r)) m
      refused r f = subst (λ (s : List ℕ). Inv (called w w.dock l.memory s) m) (sym (lent_scratch w m I l f lent)) (lent_keeps w m I l f lent)

      rule : Bool → Bool → Bool → Bool → Bool → Told
      rule a b c g u =
          pick a (pick (b && (c && not g)) (pick u (after w.dock p x code l.memory l.scratch (told_of w.dock.settings x code)) (refused_tell w.dock l.memory l.scratch NoAnswer)) (refused_tell w.dock l.memory l.scratch Slot)) (refused_tell w.dock l.memory l.scratch Buffer)

      -- the premise of an accepted tell: its request was carried out, with this code
      carried_with : (o : Option ℕ) → CodeOf o code → o ≡ Some code
      carried_with None c = absurd c
      carried_with (Some k) c = ap Some c

      done : (after w.dock p x code l.memory l.scratch (told_of w.dock.settings x code)).outcome ≡ Ok (tt {0})
      done = after_done w.dock p x code l.memory l.scratch (told_of w.dock.settings x code)

      yes_case : fits_lent w l ≡ true → p < 8 → is_pending x.phase ≡ true → waits_of p w.dock.blockers ≡ false
          → ((after w.dock p x code l.memory l.scratch (told_of w.dock.settings x code)).outcome ≡ (Ok (tt {0})) → CodeOf (w.carried p) code)
          → Inv (told (after w.dock p x code l.memory l.scratch (told_of w.dock.settings x code)).outcome w p (after w.dock p x code l.memory l.scratch (told_of w.dock.settings x code))) (tell_by (after w.dock p x code l.memory l.scratch (told_of w.dock.settings x code)).outcome m p code)
      yes_case f h k n c =
          subst (λ (o : Result (Unit {0}) Refusal). Inv (told o w p (after w.dock p x code l.memory l.scratch (told_of w.dock.settings x code))) (tell_by o m p code)) (sym done) (accepted f h k n (carried_with (w.carried p) (c done)))

      go : (a b c g u : Bool) → fits_lent w l ≡ a → ltb p 8 ≡ b → is_pending x.phase ≡ c → waits_of p w.dock.blockers ≡ g
          → ((rule a b c g u).outcome ≡ (Ok (tt {0})) → CodeOf (w.carried p) code) → Inv (pick a (told (rule a b c g u).outcome w p (rule a b c g u)) w) (tell_by (rule a b c g u).outcome m p code)
      go true true true false true f h k n c = yes_case f (ltb-true p 8 h) k n c
      go true true true false false f h k n c = refused NoAnswer f
      go true true true true u f h k n c = refused Slot f
      go true true false g u f h k n c = refused Slot f
      go true false c' g u f h k n c = refused Slot f
      go false b c' g u f h k n c = I

  -- ---- collect

  abbrev answer_of : Bool → Bool → ℕ → Collects
  answer_of a b p =
      pick a (pick b (record { dock = with_job w.dock p w.dock.blockers vacant (vector_of []); answer = Ok (state_at w.dock p).answer }) (record { dock = w.dock; answer = Err Slot })) (record { dock = w.dock; answer = Err Buffer })

  collect_event : (p : ℕ) → Inv (after_collect w l (collect_of w.dock p (length l.memory) (length l.scratch))) (collect_by (collect_of w.dock p (length l.memory) (length l.scratch)).answer m p)
  unfolding collect_of
  collect_event p = go (fits_lent w l) (ltb p 8) (has_ended (state_at w.dock p).phase) refl refl refl
    where
      go : (a b c : Bool) → fits_lent w l ≡ a → ltb p 8 ≡ b → has_ended (state_at w.dock p).phase ≡ c
          → Inv (pick a (called w (answer_of a (b && c) p).dock l.memory w.scratch) w) (collect_by (answer_of a (b && c) p).answer m p)
      go true true true f h k = freed_inv (with_data w l.memory) m (lent_keeps w m I l f lent) p (ltb-true p 8 h) k
      go true true false f h k = lent_keeps w m I l f lent
      go true false c f h k = lent_keeps w m I l f lent
      go false b c f h k = I

  -- what is owed at a collect that answers 0
  ended_phase : (ph : Phase) → has_ended ph ≡ true → ph ≡ Ended
  ended_phase Ended e = refl
  ended_phase Free e = never e
  ended_phase DirectRead e = never e
  ended_phase BouncedRead e = never e
  ended_phase FirstRead e = never e
  ended_phase SecondRead e = never e
  ended_phase BouncedWrite e = never e
  ended_phase DirectWrite e = never e
  ended_phase ZeroRequest e = never e
  ended_phase DiscardRequest e = never e

  owed_at_collect : (p : ℕ) → (collect_of w.dock p (length l.memory) (length l.scratch)).answer ≡ Ok 0 → OwedTo (m.jobs p) l.memory
  unfolding collect_of
  owed_at_collect p e = go (fits_lent w l) (ltb p 8) (has_ended (state_at w.dock p).phase) refl refl refl e
    where
      x : State
      x = state_at w.dock p

      owed : fits_lent w l ≡ true → p < 8 → has_ended x.phase ≡ true → x.answer ≡ 0 → OwedTo (m.jobs p) l.memory
      owed f h k z =
          let ph = ended_phase x.phase k in
          let t = ((lent_keeps w m I l f lent).slots p h).tracks (ended_taken x.phase k) in
          let a = t.flight.asked in
          subst (λ (o : Option Tracked). OwedTo o l.memory) (sym t.is)
          (subst (λ (o : Job). OwedBy o (range_for t.j.asked) (vector_for t.j.asked) t.j l.memory) (sym a.job)
          (subst (λ (r : Range). OwedBy x.job r (vector_for t.j.asked) t.j l.memory) (sym a.range)
          (subst (λ (v : IoVector). OwedBy x.job x.range v t.j l.memory) (sym a.vector)
          (ended_owes w.store l.memory _ x (vector_at w.dock p) (w.carried p) t.j ph t.flight.fact z))))

      go : (a b c : Bool) → fits_lent w l ≡ a → ltb p 8 ≡ b → has_ended x.phase ≡ c → (answer_of a (b && c) p).answer ≡ Ok 0 → OwedTo (m.jobs p) l.memory
      go true true true f h k e = owed f (ltb-true p 8 h) k (final_zero x.answer e)
      go true true false f h k e = refused_final e
      go true false c f h k e = refused_final e
      go false b c f h k e = refused_final e

-- ---- carry

carry_event : (w : World) (m : Plain) → Inv w m → (p code : ℕ) (c : Choice) (o : Option Request) → out_in w p ≡ o → Inv (after_carry o w p code c) (plain_step m (carry_item o p code c))
unfolding plain_step
carry_event w m I p code c None e = I
carry_event w m I p code c (Some q) e = carried_inv w m I p q (out_of w p q e) code c

-- ---- every event

step_keeps : (w : World) (m : Plain) → Inv w m → (e : Event) → Allowed w m e → Inv (step w e) (plain_step m (fed w e))
unfolding step fed plain_step
step_keeps w m I (begins q l) a = begin_event w m I l a q
step_keeps w m I (carries p code c) a = carry_event w m I p code c (out_in w p) refl
step_keeps w m I (tells p code l) a = tell_event w m I l a.0 p code a.1
step_keeps w m I (collects p l) a = collect_event w m I l a p

owed_at : (w : World) (m : Plain) → Inv w m → (e : Event) → Allowed w m e → Owed w m e
owed_at w m I (begins q l) a = tt
owed_at w m I (carries p code c) a = tt
owed_at w m I (tells p code l) a = tt
owed_at w m I (collects p l) a = owed_at_collect w m I l a p

claimed : (w : World) (m : Plain) → Inv w m → (es : List Event) → Lawful w m es → Claim w m es
claimed w m I [] k = I.same
claimed w m I (e ∷ es) k = (I.same, owed_at w m I e k.0, claimed (step w e) (plain_step m (fed w e)) (step_keeps w m I e k.0) es k.1)

pub every_list : EveryList
unfolding open_of
every_list s b e content memory scratch l es k = claimed (opened s b content memory scratch) (plain_opened s b content) (opened_inv s b content memory scratch e l) es k
