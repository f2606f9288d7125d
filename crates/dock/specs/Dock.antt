-- The dock: settings, lent buffers, blockers, and for each of the 8 slots a job's state and vector. Document 01, "Settings" and "Events".
use Rattle.std.specs.Prelude.{Bool, true, false, ◌&&◌, ◌||◌, not, List, [], ◌∷◌, ℕ, suc, ◌*◌, ltb, eqb, get_or, replicate, Result, Ok, Err}
use Rattle.arithmetic.specs.Rounding.{pick}
use Rattle.arithmetic.specs.Refusals.{when_done}
use Rattle.arithmetic.specs.Loops.{any_below}
use Rattle.arithmetic.specs.Offsets.{buffer_at, range_of}
use Rattle.arithmetic.specs.Settings.{opening_of, profile_of, alignments}
use Rattle.arithmetic.specs.declared.refusals.Refusal.TheVariants.{Buffer}
use Rattle.arithmetic.specs.declared.settings.Settings.{Settings}
use Rattle.arithmetic.specs.declared.settings.Buffers.{Buffers}
use Rattle.vectors.specs.Vectors.{vector_of, segments_of, overlap_of, self_overlap_of}
use Rattle.vectors.specs.declared.vector.IoVector.{IoVector}
use Rattle.blockers.specs.Blockers.{no_blockers, waits_of}
use Rattle.blockers.specs.declared.Blockers.{Blockers}
use Rattle.stages.specs.Stages.{is_free, is_pending}
use Rattle.stages.specs.declared.state.Job.{Job}
use Rattle.stages.specs.declared.state.Job.TheVariants.{Read, Write, Zeroes, AllocatedZeroes, Discard}
use Rattle.stages.specs.declared.state.Phase.TheVariants.{Free}
use Rattle.stages.specs.declared.state.Course.TheVariants.{Last}
use Rattle.stages.specs.declared.state.State.{State}
use Rattle.dock.specs.declared.dock.Dock.{Dock}
use Rattle.dock.specs.declared.open.Opened.{Opened}
use Rattle.arithmetic.specs.declared.refusals.Refusal.{Refusal}
use Rattle.arithmetic.specs.declared.settings.Alignments.{Alignments}

-- ---- opening

-- what is read past slot 7
abbrev pub no_state : State
no_state = record {
  phase = Free;
  answer = 0;
  job = Read;
  range = range_of 0 0;
  middle = range_of 0 0;
  course = Last;
  stage = record {
    asked = range_of 0 0;
    request = range_of 0 0;
    first = range_of 0 0;
    second = range_of 0 0;
    head = buffer_at 0;
    strong = false;
  };
}

abbrev pub no_vector : IoVector
no_vector = record { segments = []; count = 0; total = 0 }

-- the state of a free slot
unfoldable pub vacant : State
vacant = no_state

-- "An opened dock has eight free places."
unfoldable pub fresh : Settings → Buffers → Dock
fresh s b = record { settings = s; buffers = b; blockers = no_blockers; states = replicate 8 vacant; vectors = replicate 8 (vector_of []) }

-- a refused opening returns a dock that refuses every begin likewise
unfoldable pub open_of : Settings → Buffers → Opened
open_of s b = record { dock = fresh s b; outcome = opening_of s b }

abbrev pub open_by : Result Alignments Refusal → ℕ → Buffers → Opened
open_by (Ok a) bounce b = open_of (record { align = a; bounce = bounce }) b
open_by (Err r) bounce b = record { dock = fresh (record { align = alignments 0 0 0 0; bounce = bounce }) b; outcome = Err r }

unfoldable pub open_profile_of : ℕ → ℕ → Buffers → Opened
open_profile_of index bounce b = open_by (profile_of index) bounce b

-- ---- what a dock has

abbrev pub state_at : Dock → ℕ → State
state_at d p = get_or d.states p no_state

abbrev pub vector_at : Dock → ℕ → IoVector
vector_at d p = get_or d.vectors p no_vector

-- "205: [..] a length other than at opening"
unfoldable pub lent_fits : Buffers → ℕ → ℕ → Bool
lent_fits b m n = eqb m b.«data».length && eqb n b.scratch.length

-- what a begin is lent: 201 and 205 as at opening, then 205
unfoldable pub lent_of : Settings → Buffers → ℕ → ℕ → Result (Unit {0}) Refusal
lent_of s b m n = when_done (opening_of s b) (pick (lent_fits b m n) (Ok tt) (Err Buffer)) Err

-- "A request is out, or due": the slot's job has one and does not wait
unfoldable pub is_out_by : Blockers → State → ℕ → Bool
is_out_by b x p = is_pending x.phase && not (waits_of p b)

unfoldable pub is_out : Dock → ℕ → Bool
is_out d p = ltb p 8 && is_out_by d.blockers (state_at d p) p

-- where slot p's share of the scratch starts
abbrev pub share_at : Dock → ℕ → ℕ
share_at d p = p * d.settings.bounce

-- ---- 203

abbrev pub is_read_job : Job → Bool
is_read_job Read = true
is_read_job Write = false
is_read_job Zeroes = false
is_read_job AllocatedZeroes = false
is_read_job Discard = false

-- "a read's pieces overlap a piece of a job in flight, or a write's overlap a read's in flight"
unfoldable pub meets_of : State → IoVector → Job → IoVector → Bool
meets_of x w j v = not (is_free x.phase) && (is_read_job j || is_read_job x.job) && overlap_of (segments_of v) (segments_of w)

unfoldable pub meets_at : List State → List IoVector → Job → IoVector → ℕ → Bool
meets_at xs vs j v q = meets_of (get_or xs q no_state) (get_or vs q no_vector) j v

-- "pieces of one read overlap"
abbrev pub meets_itself : Job → IoVector → Bool
meets_itself j v = is_read_job j && self_overlap_of (segments_of v)

-- "pieces of one read overlap, or [..]"
unfoldable pub overlaps_of : List State → List IoVector → Job → IoVector → Bool
overlaps_of xs vs j v = meets_itself j v || any_below 8 (meets_at xs vs j v)

-- ---- places

-- "the lowest free place": the count where there is none
unfoldable pub first_free : List State → ℕ
first_free [] = 0
first_free (x ∷ xs) = pick (is_free x.phase) 0 (suc (first_free xs))
