-- Document 01, "Events": tell and collect.
use Rattle.std.specs.Prelude.{Result, Ok, Err, ◌≡◌, Bool, true, false, ◌&&◌, List, [], ℕ, ◌+◌, ◌*◌, ltb, eqb, length, take, drop, set}
use Rattle.arithmetic.specs.Rounding.{pick}
use Rattle.arithmetic.specs.Refusals.{when_done}
use Rattle.arithmetic.specs.declared.refusals.Refusal.{Refusal}
use Rattle.arithmetic.specs.declared.refusals.Refusal.TheVariants.{Segment, Buffer, Slot, NoAnswer}
use Rattle.arithmetic.specs.declared.settings.Settings.{Settings}
use Rattle.arithmetic.specs.declared.settings.Buffers.{Buffers}
use Rattle.vectors.specs.Vectors.{scatter_of, segments_of, copies, vector_of}
use Rattle.vectors.specs.declared.vector.IoVector.{IoVector}
use Rattle.blockers.specs.Blockers.{left_of}
use Rattle.blockers.specs.declared.Blockers.{Blockers}
use Rattle.blockers.specs.Blockers.{Changed}
use Rattle.stages.specs.Stages.{size_of, has_ended, is_blocking, told_of}
use Rattle.stages.specs.declared.state.Phase.{Phase}
use Rattle.stages.specs.declared.state.Phase.TheVariants.{Free, Ended, DirectRead, BouncedRead, FirstRead, SecondRead, BouncedWrite}
use Rattle.stages.specs.declared.state.Phase.TheVariants.{DirectWrite, ZeroRequest, DiscardRequest}
use Rattle.stages.specs.declared.state.State.{State}
use Rattle.stages.specs.declared.told.Step.{Step}
use Rattle.stages.specs.declared.told.Step.TheVariants.{Stays, Ends, Enters}
use Rattle.dock.specs.Dock.{vacant, state_at, vector_at, lent_fits, is_out_by}
use Rattle.dock.specs.Begin.{filled, InShare, Entering, enter_at, with_job}
use Rattle.dock.specs.Next.{is_sound_in}
use Rattle.dock.specs.declared.dock.Dock.{Dock}
use Rattle.dock.specs.declared.tell.Telling.{Telling}
use Rattle.dock.specs.declared.tell.Stepping.{Stepping}
use Rattle.dock.specs.declared.tell.Collects.{Collects}

-- ---- tell, as far as one slot goes

-- the blockers once the slot's job has left its stage
unfoldable pub blockers_without : Blockers → ℕ → State → Changed
blockers_without b p x = pick (is_blocking x.phase) (left_of p b) (record { blockers = b; outcome = (Ok tt) })

-- "Padded: one read of the padded range into the share, then the asked bytes are copied out"; "a failed padded read leaves them unchanged"
pub record Handed : Type 0 where
  pub memory : List ℕ
  pub outcome : Result (Unit {0}) Refusal

abbrev pub hands : Result (Unit {0}) Refusal → List ℕ → Handed
hands o m = record { memory = m; outcome = o }

-- n bytes of the scratch from a on, into the vector's segments
unfoldable pub copied_at : ℕ → ℕ → IoVector → List ℕ → List ℕ → Handed
copied_at a n v memory scratch =
    pick (copies memory v n) (hands (Ok tt) (scatter_of memory (segments_of v) (take n (drop a scratch)))) (hands (Err Segment) memory)

abbrev pub copied_out : ℕ → State → IoVector → List ℕ → List ℕ → Handed
copied_out share x v memory scratch = copied_at (share + x.stage.head.0) (size_of x.stage.asked) v memory scratch

abbrev pub is_bounced_read : Phase → Bool
is_bounced_read Free = false
is_bounced_read Ended = false
is_bounced_read DirectRead = false
is_bounced_read BouncedRead = true
is_bounced_read FirstRead = false
is_bounced_read SecondRead = false
is_bounced_read BouncedWrite = false
is_bounced_read DirectWrite = false
is_bounced_read ZeroRequest = false
is_bounced_read DiscardRequest = false

unfoldable pub handed : ℕ → State → ℕ → IoVector → List ℕ → List ℕ → Handed
handed share x code v memory scratch =
    pick (is_bounced_read x.phase && eqb code 0) (copied_out share x v memory scratch) (record { memory = memory; outcome = (Ok tt) })

pub record Stepped : Type 0 where
  pub outcome : Result (Unit {0}) Refusal
  pub blockers : Blockers
  pub state : State
  pub memory : List ℕ
  pub scratch : List ℕ

-- what a call answers that leaves the slot, the data and the scratch so
abbrev pub stepping : Stepped → Result Stepping Refusal
stepping t = when_done t.outcome (Ok (record { blockers = t.blockers; state = t.state })) Err

-- a call answers r and leaves this data and this scratch, as t has them
abbrev pub StepGives : Stepped → Result Stepping Refusal → List ℕ → List ℕ → Type 0
StepGives t r memory scratch = (r ≡ stepping t) × (memory ≡ t.memory) × (scratch ≡ t.scratch)

abbrev pub refused_step : Blockers → State → Refusal → List ℕ → List ℕ → Stepped
refused_step b x r memory scratch = record { outcome = Err r; blockers = b; state = x; memory = memory; scratch = scratch }

-- A dock of no call's making may lack the blocker that leaves, have one where another enters, or a vector of other bytes than the stage's:
-- the tell is then refused, and changes nothing. Law `made_tell` of crate theorem_lists: no dock that calls made is refused so.

-- the job goes on in its stage, its blocker too; "scratch is filled at the last read's tell"
abbrev pub stays_at : Blockers → ℕ → State → IoVector → List ℕ → List ℕ → Stepped
stays_at b share y v memory scratch =
    record {
      outcome = (filled share y v memory scratch).outcome;
      blockers = b;
      state = y;
      memory = memory;
      scratch = (filled share y v memory scratch).scratch;
    }

-- it ends: its blocker "leaves when its piece ends", and the bytes of a padded read are handed out
unfoldable pub ends_at : Blockers → ℕ → ℕ → State → ℕ → State → IoVector → List ℕ → List ℕ → Stepped
ends_at b p share x code y v memory scratch =
    when_done (blockers_without b p x).outcome
    (record {
      outcome = (handed share x code v memory scratch).outcome;
      blockers = (blockers_without b p x).blockers;
      state = y;
      memory = (handed share x code v memory scratch).memory;
      scratch = scratch;
    })
    (λ r. refused_step b x r memory scratch)

-- it enters its next stage: its blocker leaves first, then the next stage's enters, and where that reads nothing its scratch is filled
abbrev pub enters_by : Entering → State → List ℕ → Stepped
enters_by e y memory = record { outcome = e.outcome; blockers = e.blockers; state = y; memory = memory; scratch = e.scratch }

unfoldable pub enters_at : Blockers → ℕ → ℕ → State → State → IoVector → List ℕ → List ℕ → Stepped
enters_at b p share x y v memory scratch =
    when_done (blockers_without b p x).outcome (enters_by (enter_at (blockers_without b p x).blockers p share y v memory scratch) y memory)
    (λ r. refused_step b x r memory scratch)

abbrev pub stepped_at : Blockers → ℕ → ℕ → State → ℕ → IoVector → List ℕ → List ℕ → Step → Stepped
stepped_at b p share x code v memory scratch (Stays y) = stays_at b share y v memory scratch
stepped_at b p share x code v memory scratch (Ends y) = ends_at b p share x code y v memory scratch
stepped_at b p share x code v memory scratch (Enters y) = enters_at b p share x y v memory scratch

-- the stage that a step goes on in or enters lies in its share of a scratch of n bytes
abbrev pub StepInShare : ℕ → ℕ → Step → Type 0
StepInShare share n (Stays y) = InShare share y n
StepInShare share n (Ends y) = Unit {0}
StepInShare share n (Enters y) = InShare share y n

-- "0 done, 1 unsupported, 2 to 199 failed, 200 to 255 no answer"
unfoldable pub answered_of : Settings → State → ℕ → Result Step Refusal
answered_of s x code = pick (ltb code 200) (Ok (told_of s x code)) (Err NoAnswer)

abbrev pub answered_by : Result Step Refusal → Blockers → ℕ → ℕ → State → ℕ → IoVector → List ℕ → List ℕ → Stepped
answered_by (Err r) b p share x code v memory scratch = refused_step b x r memory scratch
answered_by (Ok t) b p share x code v memory scratch = stepped_at b p share x code v memory scratch t

-- "Tell: [..] 208, 209"
unfoldable pub told_at : Blockers → ℕ → Settings → Buffers → State → IoVector → ℕ → List ℕ → List ℕ → Stepped
told_at b p s lent x v code memory scratch =
    pick (is_out_by b x p && is_sound_in x s lent)
    (answered_by (answered_of s x code) b p (p * s.bounce) x code v memory scratch)
    (refused_step b x Slot memory scratch)

-- of the job in slot p of a dock
abbrev pub told_in : Dock → ℕ → ℕ → List ℕ → List ℕ → Stepped
told_in d p code memory scratch = told_at d.blockers p d.settings d.buffers (state_at d p) (vector_at d p) code memory scratch

-- ---- tell

pub record Told : Type 0 where
  pub dock : Dock
  pub outcome : Result (Unit {0}) Refusal
  pub memory : List ℕ
  pub scratch : List ℕ

-- a call answers r and leaves the dock d, this data and this scratch, as t has them
abbrev pub TellGives : Told → Result (Unit {0}) Refusal → Dock → List ℕ → List ℕ → Type 0
TellGives t r d memory scratch = (r ≡ t.outcome) × (d ≡ t.dock) × (memory ≡ t.memory) × (scratch ≡ t.scratch)

-- the answer of a call, and the data and the scratch as it leaves them
abbrev pub tells : Telling → List ℕ → List ℕ → Told
tells r m s = record { dock = r.dock; outcome = r.outcome; memory = m; scratch = s }

-- the dock with the job y in slot p and the blockers b; its vector stays
abbrev pub accepted : Dock → ℕ → Blockers → State → Telling
accepted d p b y =
    record {
      dock = record {
        settings = d.settings;
        buffers = d.buffers;
        blockers = b;
        states = set d.states p y;
        vectors = d.vectors;
      };
      outcome = (Ok tt);
    }

abbrev pub refused_tell : Dock → List ℕ → List ℕ → Refusal → Told
refused_tell d memory scratch r = record { dock = d; outcome = Err r; memory = memory; scratch = scratch }

-- stored in the dock where it is done
abbrev pub stored_by : Result (Unit {0}) Refusal → Dock → ℕ → Stepped → Told
stored_by o d p t = when_done o (tells (accepted d p t.blockers t.state) t.memory t.scratch)
    (refused_tell d t.memory t.scratch)

abbrev pub stored : Dock → ℕ → Stepped → Told
stored d p t = stored_by t.outcome d p t

-- "Tell: 205, 208, 209"
unfoldable pub tell_of : Dock → ℕ → ℕ → List ℕ → List ℕ → Told
tell_of d p code memory scratch =
    pick (lent_fits d.buffers (length memory) (length scratch))
    (pick (ltb p 8)
    (stored d p (told_in d p code memory scratch))
    (refused_tell d memory scratch Slot))
    (refused_tell d memory scratch Buffer)

-- ---- collect

-- "Collect returns the final answer": 205, 208; the slot is free again
unfoldable pub collect_of : Dock → ℕ → ℕ → ℕ → Collects
collect_of d p m n =
    pick (lent_fits d.buffers m n)
    (pick (ltb p 8 && has_ended (state_at d p).phase)
    (record { dock = with_job d p d.blockers vacant (vector_of []); answer = Ok (state_at d p).answer })
    (record { dock = d; answer = Err Slot }))
    (record { dock = d; answer = Err Buffer })

-- a call answers r and leaves the dock d, as c has them
abbrev pub CollectGives : Collects → Result ℕ Refusal → Dock → Type 0
CollectGives c r d = (r ≡ c.answer) × (d ≡ c.dock)
