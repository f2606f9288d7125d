-- Document 01, "Events": begin. What is filled in the scratch, what is entered, and the order of refusals.
use Rattle.std.specs.Prelude.{Option, None, Some, Result, Ok, Err}
use Rattle.std.specs.Prelude.{◌≡◌, Bool, true, false, List, [], ℕ, ◌+◌, ◌*◌, ◌<◌, ◌≤◌, ltb, length, set, replicate}
use Rattle.arithmetic.specs.Rounding.{pick}
use Rattle.arithmetic.specs.Refusals.{when_done}
use Rattle.arithmetic.specs.declared.refusals.Refusal.{Refusal}
use Rattle.arithmetic.specs.declared.refusals.Refusal.TheVariants.{Segment, Overlap, Full}
use Rattle.arithmetic.specs.declared.offsets.StoreOffset.{StoreOffset}
use Rattle.arithmetic.specs.declared.settings.Settings.{Settings}
use Rattle.arithmetic.specs.declared.settings.Buffers.{Buffers}
use Rattle.vectors.specs.Vectors.{put, bytes_of, segments_of, copies, is_valid, vector_of, alignment_of}
use Rattle.vectors.specs.declared.vector.IoVector.{IoVector}
use Rattle.blockers.specs.Blockers.{entered_of, strength}
use Rattle.blockers.specs.declared.Blockers.{Blockers}
use Rattle.blockers.specs.Blockers.{Changed}
use Rattle.stages.specs.Stages.{size_of, blocked_of, is_blocking, uses_bounce, is_sound, zero_job, read_plan, write_plan, zero_plan}
use Rattle.stages.specs.Stages.{discard_plan}
use Rattle.stages.specs.declared.state.Job.{Job}
use Rattle.stages.specs.declared.state.Job.TheVariants.{Read, Write, Zeroes, AllocatedZeroes, Discard}
use Rattle.stages.specs.declared.state.Phase.{Phase}
use Rattle.stages.specs.declared.state.Phase.TheVariants.{Free, Ended, DirectRead, BouncedRead, FirstRead, SecondRead, BouncedWrite}
use Rattle.stages.specs.declared.state.Phase.TheVariants.{DirectWrite, ZeroRequest, DiscardRequest}
use Rattle.stages.specs.declared.state.State.{State}
use Rattle.dock.specs.Dock.{vacant, lent_of, overlaps_of, first_free}
use Rattle.dock.specs.declared.dock.Dock.{Dock}
use Rattle.dock.specs.declared.begin.Asked.{Asked}
use Rattle.dock.specs.declared.begin.Admission.{Admission}
use Rattle.dock.specs.declared.begin.Beginning.{Beginning}

-- ---- what is filled as a job comes to its write from the bounce buffer

-- a scratch, or the refusal that leaves it as it was
pub record Filled : Type 0 where
  pub scratch : List ℕ
  pub outcome : Result (Unit {0}) Refusal

abbrev pub fills : Result (Unit {0}) Refusal → List ℕ → Filled
fills o s = record { scratch = s; outcome = o }

abbrev pub is_write_job : Job → Bool
is_write_job Read = false
is_write_job Write = true
is_write_job Zeroes = false
is_write_job AllocatedZeroes = false
is_write_job Discard = false

-- the n bytes that a job writes: its vector's, or zeroes
unfoldable pub source_of : Job → IoVector → ℕ → List ℕ → List ℕ
source_of j v n memory = pick (is_write_job j) (bytes_of memory (segments_of v)) (replicate n 0)

-- a write's vector must be one over the data, of as many bytes
unfoldable pub source_fits : Job → IoVector → ℕ → List ℕ → Bool
source_fits j v n memory = pick (is_write_job j) (copies memory v n) true

-- n bytes of what the job writes, into the scratch from a on
unfoldable pub merged_at : ℕ → ℕ → Job → IoVector → List ℕ → List ℕ → Filled
merged_at a n j v memory scratch =
    pick (source_fits j v n memory)
    (record { scratch = put scratch a (source_of j v n memory); outcome = (Ok tt) })
    (record { scratch = scratch; outcome = Err Segment })

-- "Then the vector is copied in": into the asked part of the share that starts at `share`
abbrev pub merged : ℕ → State → IoVector → List ℕ → List ℕ → Filled
merged share x v memory scratch = merged_at (share + x.stage.head.0) (size_of x.stage.asked) x.job v memory scratch

-- "Scratch is filled at the last read's tell or, where the piece reads nothing, in the begin or tell that enters its blocker"
abbrev pub is_bounced_write : Phase → Bool
is_bounced_write Free = false
is_bounced_write Ended = false
is_bounced_write DirectRead = false
is_bounced_write BouncedRead = false
is_bounced_write FirstRead = false
is_bounced_write SecondRead = false
is_bounced_write BouncedWrite = true
is_bounced_write DirectWrite = false
is_bounced_write ZeroRequest = false
is_bounced_write DiscardRequest = false

unfoldable pub filled : ℕ → State → IoVector → List ℕ → List ℕ → Filled
filled share x v memory scratch = pick (is_bounced_write x.phase) (merged share x v memory scratch) (fills (Ok tt) scratch)

-- what a fill of the job x asks of a scratch of n bytes
abbrev pub InShare : ℕ → State → ℕ → Type 0
InShare share x n = uses_bounce x.phase ≡ true → share + x.stage.head.0 + size_of x.stage.asked ≤ n

-- ---- what is entered

-- "Direct writes, zero requests and discard requests enter a weak blocker over their range, padded writes a strong one over the padded
-- range; reads enter none."
unfoldable pub blockers_with : Blockers → ℕ → State → Changed
blockers_with b p x =
    pick (is_blocking x.phase) (entered_of (strength x.stage.strong) p (blocked_of x.stage) b) (record {
      blockers = b;
      outcome = (Ok tt);
    })

-- ---- a job comes to its stage: its blocker enters, its scratch is filled

pub record Entering : Type 0 where
  pub blockers : Blockers
  pub outcome : Result (Unit {0}) Refusal
  pub scratch : List ℕ

abbrev pub enters : Changed → List ℕ → Entering
enters c s = record { blockers = c.blockers; outcome = c.outcome; scratch = s }

-- a call answers r and leaves this scratch, as e has them
abbrev pub EnterGives : Entering → Result Blockers Refusal → List ℕ → Type 0
EnterGives e r scratch = (r ≡ when_done e.outcome (Ok e.blockers) Err) × (scratch ≡ e.scratch)

unfoldable pub enter_at : Blockers → ℕ → ℕ → State → IoVector → List ℕ → List ℕ → Entering
enter_at b p share x v memory scratch =
    when_done (blockers_with b p x).outcome
    (record {
      blockers = (blockers_with b p x).blockers;
      outcome = (filled share x v memory scratch).outcome;
      scratch = (filled share x v memory scratch).scratch;
    })
    (λ r. enters (blockers_with b p x) scratch)

-- ---- what is asked of a begin

abbrev pub read_of : StoreOffset → IoVector → Asked
read_of o v = record { job = Read; offset = o; length = v.total; vector = v }

abbrev pub write_of : StoreOffset → IoVector → Asked
write_of o v = record { job = Write; offset = o; length = v.total; vector = v }

-- "zero request [..], plain or allocating"
abbrev pub zeroes_of : Bool → StoreOffset → ℕ → Asked
zeroes_of allocate o n = record { job = zero_job allocate; offset = o; length = n; vector = vector_of [] }

abbrev pub discard_of : StoreOffset → ℕ → Asked
discard_of o n = record { job = Discard; offset = o; length = n; vector = vector_of [] }

-- the vector of a job: zeroes and discards have an empty one
abbrev pub selected_of : Job → IoVector → IoVector
selected_of Read v = v
selected_of Write v = v
selected_of Zeroes v = vector_of []
selected_of AllocatedZeroes v = vector_of []
selected_of Discard v = vector_of []

abbrev pub is_aligned : Result Bool Refusal → Bool
is_aligned (Ok t) = t
is_aligned (Err r) = false

-- the first stage of a job
abbrev pub plan_of : Job → Settings → Buffers → StoreOffset → ℕ → IoVector → Result (Option State) Refusal
plan_of Read s b o n v = read_plan s o v.total (is_aligned (alignment_of s.align b.«data» v))
plan_of Write s b o n v = write_plan s o v.total (is_aligned (alignment_of s.align b.«data» v))
plan_of Zeroes s b o n v = zero_plan s false o n
plan_of AllocatedZeroes s b o n v = zero_plan s true o n
plan_of Discard s b o n v = discard_plan s o n

-- the vector and the plan of what is asked
abbrev pub vector_for : Asked → IoVector
vector_for q = selected_of q.job q.vector

abbrev pub plan_for : Settings → Buffers → Asked → Result (Option State) Refusal
plan_for s b q = plan_of q.job s b q.offset q.length q.vector

-- ---- begin, as far as one slot goes

-- The one place that has the order of refusals at begin: "201, 205" by what is lent, "202", the plan's own ("empty read, write or zero job
-- done, 207 [..], a discard with nothing to do done, 206"), "203, 204". Zeroes and discards never meet 202: law `empty_valid`.
abbrev pub allowed_by : Result (Option State) Refusal → Bool → ℕ → Result (Option State) Refusal
allowed_by (Ok None) met free = Ok None
allowed_by (Err r) met free = Err r
allowed_by (Ok (Some x)) met free = pick met (Err Overlap) (pick (ltb free 8) (Ok (Some x)) (Err Full))

abbrev pub decided_of : Result (Unit {0}) Refusal → Bool → Result (Option State) Refusal → Bool → ℕ → Result (Option State) Refusal
decided_of (Err r) valid plan met free = Err r
decided_of (Ok _) valid plan met free = pick valid (allowed_by plan met free) (Err Segment)

-- what a begin leaves of the slot p that it takes
pub record Admits : Type 0 where
  pub answer : Result (Option ℕ) Refusal
  pub blockers : Blockers
  pub state : State
  pub scratch : List ℕ

-- what a call answers that leaves the slot and the scratch so: none where there is no request to make
abbrev pub admission_by : Result (Option ℕ) Refusal → Blockers → State → Result (Option Admission) Refusal
admission_by (Ok None) b x = Ok None
admission_by (Ok (Some p)) b x = Ok (Some (record { slot = p; blockers = b; state = x }))
admission_by (Err r) b x = Err r

abbrev pub admission : Admits → Result (Option Admission) Refusal
admission a = admission_by a.answer a.blockers a.state

-- a call answers r and leaves this scratch, as a has them
abbrev pub AdmitGives : Admits → Result (Option Admission) Refusal → List ℕ → Type 0
AdmitGives a r scratch = (r ≡ admission a) × (scratch ≡ a.scratch)

abbrev pub admit_none : Blockers → Result (Option ℕ) Refusal → List ℕ → Admits
admit_none b a scratch = record { answer = a; blockers = b; state = vacant; scratch = scratch }

-- A dock of no call's making may have a blocker where the slot is free: the begin is then refused, and changes nothing. No dock that calls
-- made is refused so: MadeLaws of crate theorem_lists.
abbrev pub admit_by : Result (Unit {0}) Refusal → Blockers → ℕ → State → Entering → Admits
admit_by o b p x e =
    when_done o (record {
      answer = (Ok (Some p));
      blockers = e.blockers;
      state = x;
      scratch = e.scratch;
    }) (λ r. admit_none b (Err r) e.scratch)

abbrev pub admit_at : Blockers → ℕ → ℕ → IoVector → List ℕ → List ℕ → Result (Option State) Refusal → Admits
admit_at b p bounce v memory scratch (Ok None) = admit_none b (Ok None) scratch
admit_at b p bounce v memory scratch (Err r) = admit_none b (Err r) scratch
admit_at b p bounce v memory scratch (Ok (Some x)) =
    admit_by (enter_at b p (p * bounce) x v memory scratch).outcome b p x (enter_at b p (p * bounce) x v memory scratch)

-- the slot that a plan takes lies in the dock, its share in a scratch of n bytes, and its first stage in the share
abbrev pub PlanInShare : ℕ → ℕ → ℕ → Result (Option State) Refusal → Type 0
PlanInShare p bounce n (Ok None) = Unit {0}
PlanInShare p bounce n (Err r) = Unit {0}
PlanInShare p bounce n (Ok (Some x)) = (p < 8) × (is_sound bounce x ≡ true) × (8 * bounce ≤ n)

-- ---- begin

-- what a begin gives back: the dock, the answer, and the scratch as it leaves it
pub record Begins : Type 0 where
  pub dock : Dock
  pub answer : Result (Option ℕ) Refusal
  pub scratch : List ℕ

-- a call answers r and leaves the dock d and this scratch, as b has them
abbrev pub BeginGives : Begins → Result (Option ℕ) Refusal → Dock → List ℕ → Type 0
BeginGives b r d scratch = (r ≡ b.answer) × (d ≡ b.dock) × (scratch ≡ b.scratch)

-- the answer and the scratch of a call
abbrev pub begins : Beginning → List ℕ → Begins
begins r s = record { dock = r.dock; answer = r.answer; scratch = s }

abbrev pub with_job : Dock → ℕ → Blockers → State → IoVector → Dock
with_job d p b x v = record {
  settings = d.settings;
  buffers = d.buffers;
  blockers = b;
  states = set d.states p x;
  vectors = set d.vectors p v;
}

-- stored in the dock with its vector, where it is admitted
abbrev pub stored_with_by : Result (Option ℕ) Refusal → Dock → IoVector → Admits → Begins
stored_with_by (Ok None) d v a = record { dock = d; answer = (Ok None); scratch = a.scratch }
stored_with_by (Ok (Some p)) d v a = record { dock = with_job d p a.blockers a.state v; answer = (Ok (Some p)); scratch = a.scratch }
stored_with_by (Err r) d v a = record { dock = d; answer = Err r; scratch = a.scratch }

abbrev pub stored_with : Dock → IoVector → Admits → Begins
stored_with d v a = stored_with_by a.answer d v a

-- the plan of what is asked, where nothing refuses it, over m bytes of data and n of scratch
abbrev pub decided_for : Dock → Asked → ℕ → ℕ → Result (Option State) Refusal
decided_for d q m n =
    decided_of (lent_of d.settings d.buffers m n) (is_valid m (vector_for q)) (plan_for d.settings d.buffers q)
    (overlaps_of d.states d.vectors q.job (vector_for q)) (first_free d.states)

-- "Begin takes the lowest free place of 8"
unfoldable pub begin_of : Dock → Asked → List ℕ → List ℕ → Begins
begin_of d q memory scratch =
    stored_with d (vector_for q) (admit_at d.blockers (first_free d.states) d.settings.bounce (vector_for q) memory scratch
    (decided_for d q (length memory) (length scratch)))
