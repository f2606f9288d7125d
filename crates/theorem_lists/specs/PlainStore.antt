-- Document 01's plain byte store: one byte for each offset, and each place's job with the codes told. It knows no blocker, scratch or
-- waiting of the dock. It steps a job by the rules of crate stages: a plan gives its first stage, told_of what a code leads to, Stage.asked
-- and Stage.request the ranges of what is out. The laws read_opens, write_opens, zero_opens and discard_opens there tie a plan to what was
-- handed to begin: its kind, and its range.
use Rattle.std.specs.Prelude.{Option}
use Rattle.std.specs.Prelude.{true, List, [], ◌∷◌, ℕ, ◌+◌, eqb, Result, Ok, Err, Some, None}
use Rattle.arithmetic.specs.Rounding.{pick}
use Rattle.arithmetic.specs.Offsets.{range_of}
use Rattle.arithmetic.specs.Refusals.{when_done}
use Rattle.arithmetic.specs.Content.{Bytes, changed, window, laid_at}
use Rattle.arithmetic.specs.declared.offsets.Range.{Range}
use Rattle.arithmetic.specs.declared.settings.Settings.{Settings}
use Rattle.arithmetic.specs.declared.settings.Buffers.{Buffers}
use Rattle.vectors.specs.Vectors.{segments_of, bytes_of}
use Rattle.stages.specs.Stages.{size_of, told_of}
use Rattle.stages.specs.declared.state.Job.{Job}
use Rattle.stages.specs.declared.state.Job.TheVariants.{Read, Write, Zeroes, AllocatedZeroes, Discard}
use Rattle.stages.specs.declared.state.Phase.{Phase}
use Rattle.stages.specs.declared.state.Phase.TheVariants.{Free, Ended, DirectRead, BouncedRead, FirstRead, SecondRead, BouncedWrite}
use Rattle.stages.specs.declared.state.Phase.TheVariants.{DirectWrite, ZeroRequest, DiscardRequest}
use Rattle.stages.specs.declared.state.State.{State}
use Rattle.stages.specs.declared.told.Step.{Step}
use Rattle.stages.specs.declared.told.Step.TheVariants.{Stays, Ends, Enters}
use Rattle.dock.specs.Begin.{vector_for, plan_for}
use Rattle.dock.specs.declared.begin.Asked.{Asked}
use Rattle.theorem_lists.specs.Store.{Choice, becomes_new}
use Rattle.arithmetic.specs.declared.refusals.Refusal.{Refusal}

-- ---- what it is fed

-- opening, the calls with arguments, lent bytes and answers, the carries with place, code and the store's choices; one begin for every kind
-- of job
pub data Item : Type 0 where
  begin : Asked → List ℕ → Result (Option ℕ) Refusal → Item
  carry : ℕ → ℕ → Choice → Item
  tell : ℕ → ℕ → Result (Unit {0}) Refusal → Item
  collect : ℕ → Result ℕ Refusal → Item
  -- a carry of no request that is out, or of one a second time, is no event
  nothing : Item

-- ---- its state

-- a step of a job: what it yielded, or which bytes it put where
pub data Did : Type 0 where
  yielded : Range → List ℕ → Did
  wrote : Range → ℕ → Bytes → Did
  zeroed : Range → ℕ → Did
  discarded : Range → Did

-- "its job's range", by what was handed to begin: a read or write has as many bytes as its vector, the others as many as they name
abbrev pub length_by : Job → Asked → ℕ
length_by Read q = q.vector.total
length_by Write q = q.vector.total
length_by Zeroes q = q.length
length_by AllocatedZeroes q = q.length
length_by Discard q = q.length

abbrev pub range_for : Asked → Range
range_for q = range_of q.offset.0 (q.offset.0 + length_by q.job q)

-- a job: what was handed to its begin, and its vector's bytes then; its first stage by the rules; the codes told and its steps, the newest
-- of each first
pub record Tracked : Type 0 where
  pub asked : Asked
  pub bytes : List ℕ
  pub first : State
  pub codes : List ℕ
  pub steps : List Did

pub record Plain : Type 0 where
  pub settings : Settings
  pub buffers : Buffers
  pub bytes : Bytes
  pub jobs : ℕ → Option Tracked

-- "at opening the store's content, zero past its end"
abbrev pub plain_opened : Settings → Buffers → Bytes → Plain
plain_opened s b content = record { settings = s; buffers = b; bytes = content; jobs = λ p. None }

-- ---- "The list and the rules above give each carry's request"

abbrev pub state_of_step : Step → State
state_of_step (Stays y) = y
state_of_step (Ends y) = y
state_of_step (Enters y) = y

-- where a job stands once these codes were told
abbrev pub standing : Settings → State → List ℕ → State
standing s x [] = x
standing s x (c ∷ cs) = state_of_step (told_of s (standing s x cs) c)

-- ---- a step, "when a request is carried out, once, before its tell"

-- the new bytes of a job's write over the range: "the vector's bytes at begin, zeroes in a zero job"
abbrev pub new_bytes : Job → ℕ → List ℕ → Bytes
new_bytes Read o bs = laid_at o bs
new_bytes Write o bs = laid_at o bs
new_bytes Zeroes o bs = λ x. 0
new_bytes AllocatedZeroes o bs = λ x. 0
new_bytes Discard o bs = λ x. 0

-- the job with these steps, with one more, with one more code told
abbrev pub with_steps : Tracked → List Did → Tracked
with_steps j ds = record { asked = j.asked; bytes = j.bytes; first = j.first; codes = j.codes; steps = ds }

abbrev pub with_step : Tracked → Did → Tracked
with_step j d = with_steps j (d ∷ j.steps)

abbrev pub with_code : Tracked → ℕ → Tracked
with_code j code = record { asked = j.asked; bytes = j.bytes; first = j.first; codes = code ∷ j.codes; steps = j.steps }

-- the bytes and the job after a request was carried out
pub record PlainStepped : Type 0 where
  pub bytes : Bytes
  pub job : Tracked

abbrev pub no_step : Bytes → Tracked → PlainStepped
no_step s j = record { bytes = s; job = j }

-- "read of a read job, code 0: yields the asked bytes"
abbrev pub read_step : ℕ → Range → Bytes → Tracked → PlainStepped
read_step code r s j =
    pick (eqb code 0) (record { bytes = s; job = with_step j (yielded r (window s r.start.0 (size_of r))) }) (no_step s j)

-- "write, code 0: the asked range takes the vector's bytes at begin, zeroes in a zero job. Other codes: each byte of that range is old or
-- new"
abbrev pub write_step : ℕ → Choice → Job → Range → Bytes → Tracked → PlainStepped
write_step code c k r s j =
    let new = new_bytes k r.start.0 j.bytes in
    record { bytes = changed s r (becomes_new code c) new; job = with_step j (wrote r code new) }

-- "zero: likewise with 0 over the request's range"
abbrev pub zero_step : ℕ → Choice → Range → Bytes → Tracked → PlainStepped
zero_step code c r s j = record { bytes = changed s r (becomes_new code c) (λ x. 0); job = with_step j (zeroed r code) }

-- "discard, any code: bytes of the request's range become what the store chose"
abbrev pub discard_step : Choice → Range → Bytes → Tracked → PlainStepped
discard_step c r s j = record { bytes = changed s r (λ x. true) c.left; job = with_step j (discarded r) }

-- by which request is out; "Any other read: no step"
abbrev pub step_by : Phase → ℕ → Choice → State → Bytes → Tracked → PlainStepped
step_by Free code c x s j = no_step s j
step_by Ended code c x s j = no_step s j
step_by DirectRead code c x s j = read_step code x.stage.asked s j
step_by BouncedRead code c x s j = read_step code x.stage.asked s j
step_by FirstRead code c x s j = no_step s j
step_by SecondRead code c x s j = no_step s j
step_by BouncedWrite code c x s j = write_step code c x.job x.stage.asked s j
step_by DirectWrite code c x s j = write_step code c x.job x.stage.asked s j
step_by ZeroRequest code c x s j = zero_step code c x.stage.request s j
step_by DiscardRequest code c x s j = discard_step c x.stage.request s j

unfoldable pub carried_out : Settings → ℕ → Choice → Bytes → Tracked → PlainStepped
carried_out s code c b j = let x = standing s j.first j.codes in step_by x.phase code c x b j

-- ---- an item

abbrev pub set_at : {A : Type 0} → (ℕ → A) → ℕ → A → ℕ → A
set_at f p a q = pick (eqb q p) a (f q)

abbrev pub put_bytes : Plain → Bytes → Plain
put_bytes m s = record { settings = m.settings; buffers = m.buffers; bytes = s; jobs = m.jobs }

abbrev pub put_job : Plain → ℕ → Option Tracked → Plain
put_job m p j = record { settings = m.settings; buffers = m.buffers; bytes = m.bytes; jobs = set_at m.jobs p j }

abbrev pub after_step : Plain → ℕ → PlainStepped → Plain
after_step m p r = put_job (put_bytes m r.bytes) p (Some r.job)

-- "A begin that gets a place enters its job"
abbrev pub tracked : Asked → List ℕ → Result (Option State) Refusal → Option Tracked
tracked q bs (Ok (Some x)) = Some (record { asked = q; bytes = bs; first = x; codes = []; steps = [] })
tracked q bs (Ok None) = None
tracked q bs (Err r) = None

abbrev pub enters_plain : Result (Option ℕ) Refusal → Plain → Asked → List ℕ → Result (Option State) Refusal → Plain
enters_plain (Ok (Some p)) m q bs plan = put_job m p (tracked q bs plan)
enters_plain (Ok None) m q bs plan = m
enters_plain (Err r) m q bs plan = m

-- "the vector's bytes at begin"
abbrev pub brought_by : Asked → List ℕ → List ℕ
brought_by q memory = bytes_of memory (segments_of (vector_for q))

abbrev pub carried_by : Option Tracked → Plain → ℕ → ℕ → Choice → Plain
carried_by None m p code c = m
carried_by (Some j) m p code c = after_step m p (carried_out m.settings code c m.bytes j)

-- "an accepted tell its code"
abbrev pub told_by : Option Tracked → Plain → ℕ → ℕ → Plain
told_by None m p code = m
told_by (Some j) m p code = put_job m p (Some (with_code j code))

abbrev pub tell_by : Result (Unit {0}) Refusal → Plain → ℕ → ℕ → Plain
tell_by o m p code = when_done o (told_by (m.jobs p) m p code) (λ r. m)

-- "an accepted collect removes the job, refused calls change nothing"
abbrev pub collect_by : Result ℕ Refusal → Plain → ℕ → Plain
collect_by (Ok a) m p = put_job m p None
collect_by (Err r) m p = m

unfoldable pub plain_step : Plain → Item → Plain
plain_step m (begin q memory a) = enters_plain a m q (brought_by q memory) (plan_for m.settings m.buffers q)
plain_step m (carry p code c) = carried_by (m.jobs p) m p code c
plain_step m (tell p code a) = tell_by a m p code
plain_step m (collect p a) = collect_by a m p
plain_step m nothing = m
