-- Begin, tell and collect keep `Held`, and on a dock that has it none of their inner steps is refused. Assumes nothing.
use Rattle.std.specs.Prelude.{◌≡◌, Bool, true, false, ◌&&◌, List, [], ℕ, ◌+◌, ◌<◌, eqb, length, set, Result, Ok, Err, Option, Some, None}
use Rattle.std.proofs.Math.Path.{refl}
use Rattle.std.proofs.Common.{sym, ap, ◌∙◌, arith, length-set, get_or-set_same, get_or-set_other, eq-eqb}
use Rattle.arithmetic.specs.Rounding.{pick}
use Rattle.arithmetic.specs.SettingsLaws.{and_right}
use Rattle.arithmetic.specs.declared.offsets.StoreOffset.{StoreOffset}
use Rattle.arithmetic.specs.declared.offsets.Range.{Range}
use Rattle.arithmetic.specs.declared.settings.Settings.{Settings}
use Rattle.arithmetic.specs.declared.settings.Buffers.{Buffers}
use Rattle.vectors.specs.Vectors.{is_valid, copies, vector_of, alignment_of}
use Rattle.vectors.specs.declared.vector.IoVector.{IoVector}
use Rattle.blockers.specs.Blockers.{is_entered, blocker_at}
use Rattle.stages.specs.Stages.{size_of, is_free, has_ended, is_pending, is_blocking, is_sound, asked, read_plan, write_plan, zero_job}
use Rattle.stages.specs.Stages.{zero_plan}
use Rattle.stages.specs.Stages.{discard_plan, told_of}
use Rattle.stages.specs.Laws.{StageOnStore, Opens, Starts, read_opens, write_opens, zero_opens, discard_opens, Continues, Finishes}
use Rattle.stages.specs.Laws.{told_stays, told_ends, told_enters, never}
use Rattle.stages.specs.declared.state.Job.{Job}
use Rattle.stages.specs.declared.state.Job.TheVariants.{Read, Write, Zeroes, AllocatedZeroes, Discard}
use Rattle.stages.specs.declared.state.Phase.{Phase}
use Rattle.stages.specs.declared.state.Phase.TheVariants.{Free, Ended, DirectRead, BouncedRead, FirstRead, SecondRead, BouncedWrite}
use Rattle.stages.specs.declared.state.Phase.TheVariants.{DirectWrite, ZeroRequest, DiscardRequest}
use Rattle.stages.specs.declared.state.State.{State}
use Rattle.stages.specs.declared.told.Step.{Step}
use Rattle.stages.specs.declared.told.Step.TheVariants.{Stays, Ends, Enters}
use Rattle.dock.specs.Dock.{no_vector, vacant, state_at, vector_at, share_at, is_read_job, first_free}
use Rattle.dock.specs.Begin.{is_write_job, is_bounced_write, source_fits, merged_at, filled, blockers_with, enter_at, admit_at, with_job}
use Rattle.dock.specs.Begin.{Begins, stored_with, is_aligned, selected_of, plan_of}
use Rattle.dock.specs.Tell.{blockers_without, copied_at, is_bounced_read, handed, stays_at, ends_at, enters_at, stepped_at}
use Rattle.dock.specs.Tell.{Told, tells, accepted, stored_by, stored}
use Rattle.dock.specs.SlotLaws.{lowest_free}
use Rattle.dock.specs.declared.dock.Dock.{Dock}
use Rattle.theorem_lists.specs.Courses.{is_zero_job, has_vector, is_last, is_regular, suited, Sole, read_regular, write_regular}
use Rattle.theorem_lists.specs.Courses.{zero_regular, discard_regular, Goes, stays_regular, enters_regular}
use Rattle.theorem_lists.specs.Held.{SlotOf, Held}
use Rattle.theorem_lists.specs.Keeping.{Changes, none_changes, enter_changes, leave_changes, stay_changes, slot_anew, none_held}
use Rattle.arithmetic.specs.declared.refusals.Refusal.{Refusal}

-- ---- phases and jobs

free_unblocked : (ph : Phase) → is_free ph ≡ true → is_blocking ph ≡ false
free_unblocked Free e = refl
free_unblocked Ended e = never e
free_unblocked DirectRead e = never e
free_unblocked BouncedRead e = never e
free_unblocked FirstRead e = never e
free_unblocked SecondRead e = never e
free_unblocked BouncedWrite e = never e
free_unblocked DirectWrite e = never e
free_unblocked ZeroRequest e = never e
free_unblocked DiscardRequest e = never e

pub free_idle : (ph : Phase) → is_free ph ≡ true → is_pending ph ≡ false
free_idle Free e = refl
free_idle Ended e = refl
free_idle DirectRead e = never e
free_idle BouncedRead e = never e
free_idle FirstRead e = never e
free_idle SecondRead e = never e
free_idle BouncedWrite e = never e
free_idle DirectWrite e = never e
free_idle ZeroRequest e = never e
free_idle DiscardRequest e = never e

pub pending_taken : (ph : Phase) → is_pending ph ≡ true → is_free ph ≡ false
pending_taken Free e = sym e
pending_taken Ended e = refl
pending_taken DirectRead e = refl
pending_taken BouncedRead e = refl
pending_taken FirstRead e = refl
pending_taken SecondRead e = refl
pending_taken BouncedWrite e = refl
pending_taken DirectWrite e = refl
pending_taken ZeroRequest e = refl
pending_taken DiscardRequest e = refl

ended_unblocked : (ph : Phase) → has_ended ph ≡ true → is_blocking ph ≡ false
ended_unblocked Free e = refl
ended_unblocked Ended e = refl
ended_unblocked DirectRead e = never e
ended_unblocked BouncedRead e = never e
ended_unblocked FirstRead e = never e
ended_unblocked SecondRead e = never e
ended_unblocked BouncedWrite e = never e
ended_unblocked DirectWrite e = never e
ended_unblocked ZeroRequest e = never e
ended_unblocked DiscardRequest e = never e

zero_no_vector : (j : Job) → is_zero_job j ≡ true → has_vector j ≡ false
zero_no_vector Read e = sym e
zero_no_vector Write e = sym e
zero_no_vector Zeroes e = refl
zero_no_vector AllocatedZeroes e = refl
zero_no_vector Discard e = refl

pub write_vector : (j : Job) → is_write_job j ≡ true → has_vector j ≡ true
write_vector Read e = refl
write_vector Write e = refl
write_vector Zeroes e = e
write_vector AllocatedZeroes e = e
write_vector Discard e = e

pub read_vector : (j : Job) → is_read_job j ≡ true → has_vector j ≡ true
read_vector Read e = refl
read_vector Write e = refl
read_vector Zeroes e = e
read_vector AllocatedZeroes e = e
read_vector Discard e = e

pub read_no_write : (j : Job) → is_read_job j ≡ true → is_write_job j ≡ false
read_no_write Read e = refl
read_no_write Write e = sym e
read_no_write Zeroes e = refl
read_no_write AllocatedZeroes e = refl
read_no_write Discard e = refl

-- a read's phases are a read job's
pub direct_reads : (x : State) → is_regular x ≡ true → x.phase ≡ DirectRead → is_read_job x.job ≡ true
direct_reads x k e = and_right (is_last x.course) _ (suited x k DirectRead e)

pub bounced_reads : (ph : Phase) (x : State) → x.phase ≡ ph → is_regular x ≡ true → is_bounced_read ph ≡ true → is_read_job x.job ≡ true
bounced_reads BouncedRead x p k e = and_right (is_last x.course) _ (suited x k BouncedRead p)
bounced_reads Free x p k e = never e
bounced_reads Ended x p k e = never e
bounced_reads DirectRead x p k e = never e
bounced_reads FirstRead x p k e = never e
bounced_reads SecondRead x p k e = never e
bounced_reads BouncedWrite x p k e = never e
bounced_reads DirectWrite x p k e = never e
bounced_reads ZeroRequest x p k e = never e
bounced_reads DiscardRequest x p k e = never e

-- ---- the bytes of a vector are copied, where it is valid and has as many

pub copied : (memory : List ℕ) (v : IoVector) (n : ℕ) → is_valid (length memory) v ≡ true → v.total ≡ n → copies memory v n ≡ true
unfolding copies
copied memory v n e t = simp (e, eq-eqb n v.total (sym t))

pub filled_done : (share : ℕ) (x : State) (v : IoVector) (memory scratch : List ℕ)
    → (is_write_job x.job ≡ true → copies memory v (size_of x.stage.asked) ≡ true)
    → (filled share x v memory scratch).outcome ≡ Ok tt
unfolding filled merged_at source_fits
filled_done share x v memory scratch f = go (is_bounced_write x.phase) (is_write_job x.job) refl f
  where
    n : ℕ
    n = size_of x.stage.asked

    go : (t w : Bool) → is_write_job x.job ≡ w → (w ≡ true → copies memory v n ≡ true)
        → (pick t (merged_at (share + x.stage.head.0) n x.job v memory scratch) (record {
          scratch = scratch;
          outcome = (Ok (tt {0}));
        })).outcome
        ≡ Ok (tt {0})
    go true true e g = simp (e, g refl)
    go true false e g = simp e
    go false w e g = refl

pub handed_done : (share : ℕ) (x : State) (code : ℕ) (v : IoVector) (memory scratch : List ℕ)
    → (is_bounced_read x.phase ≡ true → copies memory v (size_of x.stage.asked) ≡ true)
    → (handed share x code v memory scratch).outcome ≡ Ok tt
unfolding handed copied_at
handed_done share x code v memory scratch f = go (is_bounced_read x.phase) (eqb code 0) f
  where
    go : (t c : Bool) → (t ≡ true → copies memory v (size_of x.stage.asked) ≡ true)
        → (pick (t && c) (copied_at (share + x.stage.head.0) (size_of x.stage.asked) v memory scratch)
        (record { memory = memory; outcome = (Ok (tt {0})) })).outcome ≡ Ok (tt {0})
    go true true g = simp (g refl)
    go true false g = refl
    go false c g = refl

-- ---- begin

-- what a plan must say of its job for the dock: v is its vector, over m bytes of data
pub record Ready (s : Settings) (m : ℕ) (v : IoVector) (x : State) : Type 0 where
  pub sound : is_sound s.bounce x ≡ true
  pub pending : is_pending x.phase ≡ true
  pub on_store : StageOnStore x.stage
  pub regular : is_regular x ≡ true
  pub vector : has_vector x.job ≡ true → (x.stage.asked ≡ x.range) × (is_valid m v ≡ true) × (v.total ≡ size_of x.range)

pub starts_from : (P : State → Type 0) (p : Result (Option State) Refusal) → ((x : State) → p ≡ (Ok (Some x)) → P x) → Starts P p
starts_from P (Ok None) f = tt
starts_from P (Ok (Some x)) f = f x refl
starts_from P (Err r) f = tt

module _ (s : Settings) (m : ℕ) (o : StoreOffset) where
  -- a job with a vector, from what its plan opens
  vector_ready : (j : Job) (v : IoVector) (x : State) → is_valid m v ≡ true → Opens s j (asked o v.total) x → Sole x → Ready s m v x
  vector_ready j v x e k l = record {
    sound = k.sound;
    pending = k.pending;
    on_store = k.on_store;
    regular = l.0;
    vector = λ u. (l.1, e, rw k.range (omega arith));
  }

  module _ (v : IoVector) (e : is_valid m v ≡ true) (t : Bool) where
    pub read_ready : Starts (Ready s m v) (read_plan s o v.total t)
    read_ready =
        starts_from (Ready s m v) (read_plan s o v.total t)
        (λ x i. vector_ready Read v x e (read_opens s o v.total t x i) (rw i at (read_regular s o v.total t)))

    pub write_ready : Starts (Ready s m v) (write_plan s o v.total t)
    write_ready =
        starts_from (Ready s m v) (write_plan s o v.total t)
        (λ x i. vector_ready Write v x e (write_opens s o v.total t x i) (rw i at (write_regular s o v.total t)))

  -- a job without one
  bare_ready : (j : Job) (w : Range) (v : IoVector) (x : State) → has_vector j ≡ false → Opens s j w x → is_regular x ≡ true → Ready s m v x
  bare_ready j w v x n k l =
      record {
        sound = k.sound;
        pending = k.pending;
        on_store = k.on_store;
        regular = l;
        vector = λ u. never (sym n ∙ (rw k.job at u));
      }

  zero_bare : (t : Bool) → has_vector (zero_job t) ≡ false
  zero_bare true = refl
  zero_bare false = refl

  pub zero_ready : (v : IoVector) (t : Bool) (n : ℕ) → Starts (Ready s m v) (zero_plan s t o n)
  zero_ready v t n =
      starts_from (Ready s m v) (zero_plan s t o n)
      (λ x i. bare_ready (zero_job t) (asked o n) v x (zero_bare t) (zero_opens s o n t x i) (rw i at (zero_regular s o n t)))

  pub discard_ready : (v : IoVector) (n : ℕ) → Starts (Ready s m v) (discard_plan s o n)
  discard_ready v n =
      starts_from (Ready s m v) (discard_plan s o n)
      (λ x i. bare_ready Discard (asked o n) v x refl (discard_opens s o n x i) (rw i at (discard_regular s o n)))

  -- every plan
  pub planned_ready : (b : Buffers) (j : Job) (n : ℕ) (v : IoVector) → is_valid m (selected_of j v) ≡ true
      → Starts (Ready s m (selected_of j v)) (plan_of j s b o n v)
  planned_ready b Read n v e = read_ready v e (is_aligned (alignment_of s.align b.«data» v))
  planned_ready b Write n v e = write_ready v e (is_aligned (alignment_of s.align b.«data» v))
  planned_ready b Zeroes n v e = zero_ready (vector_of []) false n
  planned_ready b AllocatedZeroes n v e = zero_ready (vector_of []) true n
  planned_ready b Discard n v e = discard_ready (vector_of []) n

-- the job x with the vector v comes to slot p: its blocker enters, its scratch is filled
abbrev pub admitted : Dock → ℕ → State → IoVector → List ℕ → List ℕ → Begins
admitted d p x v memory scratch =
    record {
      dock = with_job d p (blockers_with d.blockers p x).blockers x v;
      answer = (Ok (Some p));
      scratch = (filled (share_at d p) x v memory scratch).scratch;
    }

-- a begin by its decided plan, in the lowest free slot
abbrev pub begun_rule : Dock → IoVector → List ℕ → List ℕ → Result (Option State) Refusal → Begins
begun_rule d v memory scratch (Ok None) = record { dock = d; answer = (Ok None); scratch = scratch }
begun_rule d v memory scratch (Err r) = record { dock = d; answer = Err r; scratch = scratch }
begun_rule d v memory scratch (Ok (Some x)) = admitted d (first_free d.states) x v memory scratch

module _ (d : Dock) (H : Held d) where
  abbrev N : ℕ
  N = d.settings.bounce

  abbrev M : ℕ
  M = d.buffers.«data».length

  module _ (v : IoVector) (memory scratch : List ℕ) (l : length memory ≡ M) where
    module _ (x : State) (r : Ready d.settings M v x) (h : first_free d.states < 8) where
      abbrev p : ℕ
      p = first_free d.states

      pub free_there : is_entered (blocker_at d.blockers p) ≡ false
      free_there = (H.slots p h).entered ∙ free_unblocked (state_at d p).phase (lowest_free d.states (rw H.states h))

      enters : Changes d.blockers p x (blockers_with d.blockers p x)
      enters = enter_changes d.blockers p x H.rank H.clock H.blockers h free_there

      fills : (filled (share_at d p) x v memory scratch).outcome ≡ Ok (tt {0})
      fills =
          filled_done (share_at d p) x v memory scratch
          (λ u. let k = r.vector (write_vector x.job u) in copied memory v (size_of x.stage.asked) (rw l k.1) (rw k.0 k.2))

      -- the begin is not refused at the slot
      pub admit_done : stored_with d v (admit_at d.blockers p N v memory scratch (Ok (Some x))) ≡ admitted d p x v memory scratch
      unfolding enter_at
      admit_done = simp (enters.done, fills)

      pub admit_held : Held (admitted d p x v memory scratch).dock
      admit_held =
          slot_anew d H p h x (set d.vectors p v) (blockers_with d.blockers p x) enters (length-set d.vectors p v ∙ H.vectors)
          (λ q n. get_or-set_other d.vectors p q v no_vector n)
          (rw (get_or-set_same d.vectors p v no_vector (rw H.vectors h))
          (record {
            sound = r.sound;
            on_store = λ e. r.on_store;
            regular = r.regular;
            sole = λ e u. (r.vector u).0;
            vector = λ e u. ((r.vector u).1, (r.vector u).2);
            entered = enters.entered;
            blocker = enters.own;
          }))

-- ---- tell

-- What an accepted tell leaves: the job goes on in its stage, its blocker too; "scratch is filled at the last read's tell"
abbrev pub stayed : Dock → ℕ → State → List ℕ → List ℕ → Told
stayed d p y memory scratch = tells (accepted d p d.blockers y) memory (filled (share_at d p) y (vector_at d p) memory scratch).scratch

-- or it ends: its blocker "leaves when its piece ends", and the bytes of a padded read are handed out
abbrev pub ended : Dock → ℕ → State → ℕ → State → List ℕ → List ℕ → Told
ended d p x code y memory scratch =
    tells (accepted d p (blockers_without d.blockers p x).blockers y)
    (handed (share_at d p) x code (vector_at d p) memory scratch).memory scratch

-- or it enters its next stage: its blocker leaves first, then the next stage's enters, and where that reads nothing its scratch is filled
abbrev pub entered : Dock → ℕ → State → State → List ℕ → List ℕ → Told
entered d p x y memory scratch =
    tells (accepted d p (blockers_with (blockers_without d.blockers p x).blockers p y).blockers y) memory
    (filled (share_at d p) y (vector_at d p) memory scratch).scratch

-- what a tell leaves of a dock that calls made
abbrev pub after : Dock → ℕ → State → ℕ → List ℕ → List ℕ → Step → Told
after d p x code memory scratch (Stays y) = stayed d p y memory scratch
after d p x code memory scratch (Ends y) = ended d p x code y memory scratch
after d p x code memory scratch (Enters y) = entered d p x y memory scratch

-- the job x in slot p has a request out, and is told a code
module _ (d : Dock) (H : Held d) (p : ℕ) (h : p < 8) (pending : is_pending (state_at d p).phase ≡ true) (code : ℕ) (memory scratch : List ℕ)
    (l : length memory ≡ d.buffers.«data».length) where
  abbrev x : State
  x = state_at d p

  S : SlotOf d p
  S = H.slots p h

  taken : is_free x.phase ≡ false
  taken = pending_taken x.phase pending

  -- its vector has the bytes of its stage
  has_bytes : has_vector x.job ≡ true → copies memory (vector_at d p) (size_of x.stage.asked) ≡ true
  has_bytes u =
      let k = S.vector taken u in copied memory (vector_at d p) (size_of x.stage.asked) (rw l k.0) (rw (S.sole taken u) k.1)

  module _ (y : State) (e : told_of d.settings x code ≡ Stays y) where
    C : Continues d.settings.bounce x y
    C = told_stays d.settings x code y e

    G : Goes x y
    G = stays_regular d.settings x S.regular code y e

    stays_fills : (filled (share_at d p) y (vector_at d p) memory scratch).outcome ≡ Ok (tt {0})
    stays_fills =
        filled_done (share_at d p) y (vector_at d p) memory scratch
        (λ u. rw C.stage (has_bytes (write_vector x.job (rw C.job at u))))

    stays_done : stored d p (stays_at d.blockers (share_at d p) y (vector_at d p) memory scratch) ≡ stayed d p y memory scratch
    stays_done = ap (λ (o : Result (Unit {0}) Refusal). stored_by o d p (stays_at d.blockers (share_at d p) y (vector_at d p) memory
        scratch)) stays_fills

    kept : Changes d.blockers p y (record { blockers = d.blockers; outcome = (Ok tt) })
    kept =
        stay_changes d.blockers p y H.rank H.clock H.blockers h x C.stage (G.after ∙ sym G.before) S.entered
        S.blocker

    stays_held : Held (stayed d p y memory scratch).dock
    stays_held =
        slot_anew d H p h y d.vectors (record { blockers = d.blockers; outcome = (Ok tt) }) kept H.vectors (λ q n. refl)
        (record {
          sound = C.sound S.sound;
          on_store = λ u. rw C.stage (S.on_store pending);
          regular = G.regular;
          sole = λ f u. rw (C.stage, C.range) (S.sole taken (rw C.job at u));
          vector = λ f u. rw C.range (S.vector taken (rw C.job at u));
          entered = kept.entered;
          blocker = kept.own;
        })

  module _ (y : State) (e : told_of d.settings x code ≡ Ends y) where
    F : Finishes x y
    F = told_ends d.settings x code y e

    leaves : Changes d.blockers p y (blockers_without d.blockers p x)
    leaves = leave_changes d.blockers p y H.rank H.clock H.blockers h x S.entered (ap is_blocking F.phase)

    hands_out : (handed (share_at d p) x code (vector_at d p) memory scratch).outcome ≡ Ok (tt {0})
    hands_out =
        handed_done (share_at d p) x code (vector_at d p) memory scratch
        (λ u. has_bytes (read_vector x.job (bounced_reads x.phase x refl S.regular u)))

    ends_done : stored d p (ends_at d.blockers p (share_at d p) x code y (vector_at d p) memory scratch) ≡ ended d p x code y memory scratch
    unfolding ends_at
    ends_done = simp (leaves.done, hands_out)

    ends_held : Held (ended d p x code y memory scratch).dock
    unfolding is_sound is_regular
    ends_held =
        slot_anew d H p h y d.vectors (blockers_without d.blockers p x) leaves H.vectors (λ q n. refl)
        (record {
          sound = rw F.phase;
          on_store = λ u. never (rw F.phase at u);
          regular = rw F.phase;
          sole = λ f u. rw (F.stage, F.range) (S.sole taken (rw F.job at u));
          vector = λ f u. rw F.range (S.vector taken (rw F.job at u));
          entered = leaves.entered;
          blocker = leaves.own;
        })

  module _ (y : State) (e : told_of d.settings x code ≡ Enters y) where
    O : Opens d.settings x.job x.range y
    O = told_enters d.settings x code y e

    bare : has_vector y.job ≡ false
    bare = rw O.job (zero_no_vector x.job (enters_regular d.settings x S.regular code y e).0)

    gone : Changes d.blockers p vacant (blockers_without d.blockers p x)
    unfolding vacant
    gone = leave_changes d.blockers p vacant H.rank H.clock H.blockers h x S.entered refl

    comes : Changes (blockers_without d.blockers p x).blockers p y (blockers_with (blockers_without d.blockers p x).blockers p y)
    unfolding vacant
    comes = enter_changes (blockers_without d.blockers p x).blockers p y gone.rank gone.clock gone.reached h gone.entered

    moves : Changes d.blockers p y (blockers_with (blockers_without d.blockers p x).blockers p y)
    moves = record {
      done = comes.done;
      rank = comes.rank;
      clock = comes.clock;
      reached = comes.reached;
      kinds = λ q n. comes.kinds q n ∙ gone.kinds q n;
      ranges = λ q n. comes.ranges q n ∙ gone.ranges q n;
      entered = comes.entered;
      own = comes.own;
    }

    enters_fills : (filled (share_at d p) y (vector_at d p) memory scratch).outcome ≡ Ok (tt {0})
    enters_fills = filled_done (share_at d p) y (vector_at d p) memory scratch (λ u. never (sym bare ∙ write_vector y.job u))

    enters_done : stored d p (enters_at d.blockers p (share_at d p) x y (vector_at d p) memory scratch) ≡ entered d p x y memory scratch
    unfolding enters_at enter_at
    enters_done = simp (gone.done, comes.done, enters_fills)

    enters_held : Held (entered d p x y memory scratch).dock
    enters_held =
        slot_anew d H p h y d.vectors (blockers_with (blockers_without d.blockers p x).blockers p y) moves H.vectors (λ q n. refl)
        (record {
          sound = O.sound;
          on_store = λ u. O.on_store;
          regular = (enters_regular d.settings x S.regular code y e).1;
          sole = λ f u. never (sym bare ∙ u);
          vector = λ f u. never (sym bare ∙ u);
          entered = moves.entered;
          blocker = moves.own;
        })

  -- no step of it is refused
  step_done : (t : Step) → told_of d.settings x code ≡ t →
      stored d p (stepped_at d.blockers p (share_at d p) x code (vector_at d p) memory scratch t) ≡ after d p x code memory scratch t
  step_done (Stays y) e = stays_done y e
  step_done (Ends y) e = ends_done y e
  step_done (Enters y) e = enters_done y e

  pub told_done : stored d p (stepped_at d.blockers p (share_at d p) x code (vector_at d p) memory scratch (told_of d.settings x code))
      ≡ after d p x code memory scratch (told_of d.settings x code)
  told_done = step_done (told_of d.settings x code) refl

  step_held : (t : Step) → told_of d.settings x code ≡ t → Held (after d p x code memory scratch t).dock
  step_held (Stays y) e = stays_held y e
  step_held (Ends y) e = ends_held y e
  step_held (Enters y) e = enters_held y e

  pub told_held : Held (after d p x code memory scratch (told_of d.settings x code)).dock
  told_held = step_held (told_of d.settings x code) refl

-- ---- collect

pub freed_held : (d : Dock) → Held d → (p : ℕ) → p < 8 → has_ended (state_at d p).phase ≡ true
    → Held (with_job d p d.blockers vacant (vector_of []))
unfolding vacant
freed_held d H p h e =
    let n = (H.slots p h).entered ∙ ended_unblocked (state_at d p).phase e in
    slot_anew d H p h vacant (set d.vectors p (vector_of [])) (record { blockers = d.blockers; outcome = (Ok tt) })
    (none_changes d.blockers p vacant H.rank H.clock H.blockers n refl) (length-set d.vectors p (vector_of []) ∙ H.vectors)
    (λ q k. get_or-set_other d.vectors p q (vector_of []) no_vector k)
    (none_held d.settings.bounce d.buffers.«data».length _ _ _ n)
