-- A job's stages: document 01's "Requests of a padded write", "Reads", "Zeroes", "Discard" and "Events", for one job.
use Rattle.std.specs.Prelude.{Result, Ok, Err, Option, Some, None}
use Rattle.std.specs.Prelude.{Bool, true, false, ◌&&◌, ◌||◌, not, ℕ, ◌+◌, ◌-◌, ◌^◌, ◌<◌, ◌≤◌, ltb, leb, eqb}
use Rattle.arithmetic.specs.Rounding.{pick, is_multiple}
use Rattle.arithmetic.specs.Refusals.{number_of}
use Rattle.arithmetic.specs.Offsets.{buffer_at, range_of}
use Rattle.arithmetic.specs.Settings.{length_align}
use Rattle.arithmetic.specs.Padding.{transfer_of, reads_of}
use Rattle.arithmetic.specs.Zeroes.{zero_cut_of, discard_cut_of, chunk_of}
use Rattle.arithmetic.specs.declared.refusals.Refusal.TheVariants.{TooLong}
use Rattle.arithmetic.specs.declared.offsets.StoreOffset.{StoreOffset}
use Rattle.arithmetic.specs.declared.offsets.Range.{Range}
use Rattle.arithmetic.specs.declared.settings.Settings.{Settings}
use Rattle.arithmetic.specs.declared.padding.Span.{Span}
use Rattle.arithmetic.specs.declared.padding.Reads.{Reads}
use Rattle.arithmetic.specs.declared.padding.Reads.TheVariants.{Nothing as NoReads, Whole as ReadWhole, Head as ReadHead, Tail as ReadTail}
use Rattle.arithmetic.specs.declared.padding.Reads.TheVariants.{HeadThenTail}
use Rattle.arithmetic.specs.declared.padding.Transfer.{Transfer}
use Rattle.arithmetic.specs.declared.padding.Transfer.TheVariants.{Direct, Bounced}
use Rattle.arithmetic.specs.declared.zeroes.ZeroCut.{ZeroCut}
use Rattle.arithmetic.specs.declared.zeroes.ZeroCut.TheVariants.{Nothing as NoCut, Whole, Split}
use Rattle.stages.specs.declared.state.Job.{Job}
use Rattle.stages.specs.declared.state.Job.TheVariants.{Read, Write, Zeroes, AllocatedZeroes, Discard}
use Rattle.stages.specs.declared.state.Phase.{Phase}
use Rattle.stages.specs.declared.state.Phase.TheVariants.{Free, Ended, DirectRead, BouncedRead, FirstRead, SecondRead, BouncedWrite}
use Rattle.stages.specs.declared.state.Phase.TheVariants.{DirectWrite, ZeroRequest, DiscardRequest}
use Rattle.stages.specs.declared.state.Course.{Course}
use Rattle.stages.specs.declared.state.Course.TheVariants.{Last, Middle, Head, Chunks}
use Rattle.stages.specs.declared.state.Stage.{Stage}
use Rattle.stages.specs.declared.state.State.{State}
use Rattle.stages.specs.declared.state.Kind.{Kind}
use Rattle.stages.specs.declared.state.Kind.TheVariants.{Read as KRead, Write as KWrite, Zero as KZero}
use Rattle.stages.specs.declared.state.Kind.TheVariants.{AllocatedZero as KAllocatedZero, Discard as KDiscard}
use Rattle.stages.specs.declared.state.Request.{Request}
use Rattle.stages.specs.declared.told.Step.{Step}
use Rattle.stages.specs.declared.told.Step.TheVariants.{Stays, Ends, Enters}
use Rattle.arithmetic.specs.declared.refusals.Refusal.{Refusal}

-- how many bytes a range has
abbrev pub size_of : Range → ℕ
size_of r = r.end.0 - r.start.0

-- a padded range whose head and tail reads lie on the store
pub record Holds (s : Span) : Type 0 where
  pub first : s.start.0 + s.prefix < 2 ^ 64
  pub second : s.suffix ≤ s.end.0

-- ---- the stage of one request, or of a padded write

-- a request that goes to the store as it is
unfoldable pub direct_stage : Range → Stage
direct_stage r = record { asked = r; request = r; first = range_of 0 0; second = range_of 0 0; head = buffer_at 0; strong = false }

-- the ranges of a padded write's reads: "one read of all", or "of the first H bytes if H > 0, then of the last T if T > 0"
abbrev pub first_of : Span → Reads → Range
first_of s NoReads = range_of 0 0
first_of s ReadWhole = range_of s.start.0 s.end.0
first_of s (ReadHead h) = range_of s.start.0 (s.start.0 + h)
first_of s (ReadTail t) = range_of 0 0
first_of s (HeadThenTail h t) = range_of s.start.0 (s.start.0 + h)

abbrev pub second_of : Span → Reads → Range
second_of s NoReads = range_of 0 0
second_of s ReadWhole = range_of 0 0
second_of s (ReadHead h) = range_of 0 0
second_of s (ReadTail t) = range_of (s.end.0 - t) s.end.0
second_of s (HeadThenTail h t) = range_of (s.end.0 - t) s.end.0

-- a request that goes through the bounce buffer
unfoldable pub padded_stage : Span → Range → Stage
padded_stage s r = record {
  asked = r;
  request = record { start = s.start; end = s.end };
  first = first_of s (reads_of s);
  second = second_of s (reads_of s);
  head = s.head;
  strong = true;
}

-- The range of a stage's blocker, today that of its request: "over their range" for direct ones, "over the padded range" for padded writes.
-- The theorem on every list asks of it only that the request lies inside.
abbrev pub blocked_of : Stage → Range
blocked_of g = g.request

-- the first phase of a write from the bounce buffer: its reads come first
unfoldable pub first_phase : Stage → Phase
first_phase g = pick (ltb 0 (size_of g.first)) FirstRead (pick (ltb 0 (size_of g.second)) SecondRead BouncedWrite)

-- ---- the first stage of each job

abbrev pub state_of : Job → Range → Range → Course → Stage → Phase → State
state_of j r m c g ph = record { phase = ph; answer = 0; job = j; range = r; middle = m; course = c; stage = g }

-- "206: padded length over the share"
abbrev pub in_bounce : Settings → Span → Result (Option State) Refusal → Result (Option State) Refusal
in_bounce s x p = pick (leb x.length s.bounce) p (Err TooLong)

abbrev pub asked : StoreOffset → ℕ → Range
asked o n = range_of o.0 (o.0 + n)

-- the first phase of a padded request: a read is one request, a write has its reads first
abbrev pub bounced_phase : Job → Stage → Phase
bounced_phase Read g = BouncedRead
bounced_phase Write g = first_phase g
bounced_phase Zeroes g = first_phase g
bounced_phase AllocatedZeroes g = first_phase g
bounced_phase Discard g = first_phase g

-- a job over a vector of n bytes at o: direct in phase d, or padded
abbrev pub vector_by : Settings → Job → Phase → StoreOffset → ℕ → Result Transfer Refusal → Result (Option State) Refusal
vector_by s j d o n (Ok (Direct r)) = Ok (Some (state_of j r (range_of 0 0) Last (direct_stage r) d))
vector_by s j d o n (Ok (Bounced x)) =
    in_bounce s x (Ok (Some (state_of j (asked o n) (range_of 0 0) Last (padded_stage x (asked o n))
    (bounced_phase j (padded_stage x (asked o n))))))
vector_by s j d o n (Err r) = Err r

abbrev pub vector_plan : Settings → Job → Phase → StoreOffset → ℕ → Bool → Result (Option State) Refusal
vector_plan s j d o n aligned = pick (eqb n 0) (Ok None) (vector_by s j d o n (transfer_of s.align o n aligned))

-- "Reads. Direct: one request into the pieces. Padded: one read of the padded range into the share"
unfoldable pub read_plan : Settings → StoreOffset → ℕ → Bool → Result (Option State) Refusal
read_plan s o n aligned = vector_plan s Read DirectRead o n aligned

unfoldable pub write_plan : Settings → StoreOffset → ℕ → Bool → Result (Option State) Refusal
write_plan s o n aligned = vector_plan s Write DirectWrite o n aligned

-- a write of zeroes over r, from the bounce buffer: it starts at a multiple of M, so it is aligned where its length is a multiple of L
abbrev pub zeroes_by : Settings → Job → Range → Range → Course → Range → Result Transfer Refusal → Result (Option State) Refusal
zeroes_by s j whole m c r (Ok (Direct x)) = pick (leb (size_of r) s.bounce) (Ok (Some (state_of j whole m c (direct_stage r) BouncedWrite)))
    (Err TooLong)
zeroes_by s j whole m c r (Ok (Bounced x)) =
    in_bounce s x (Ok (Some (state_of j whole m c (padded_stage x r) (first_phase (padded_stage x r)))))
zeroes_by s j whole m c r (Err n) = Err n

unfoldable pub zeroes_plan : Settings → Job → Range → Range → Course → Range → Result (Option State) Refusal
zeroes_plan s j whole m c r =
    zeroes_by s j whole m c r (transfer_of s.align r.start (size_of r) (is_multiple (size_of r) (length_align s.align)))

-- "If end > start: one zero request between [..] Otherwise one write of zeroes over the whole."
abbrev pub zero_by : Settings → Job → StoreOffset → ℕ → Result ZeroCut Refusal → Result (Option State) Refusal
zero_by s j o n (Ok NoCut) = Ok None
zero_by s j o n (Ok (Whole r)) = zeroes_plan s j r (range_of 0 0) Last r
zero_by s j o n (Ok (Split c)) = Ok (Some (state_of j (asked o n) c.middle Middle (direct_stage c.middle) ZeroRequest))
zero_by s j o n (Err r) = Err r

abbrev pub zero_job : Bool → Job
zero_job true = AllocatedZeroes
zero_job false = Zeroes

unfoldable pub zero_plan : Settings → Bool → StoreOffset → ℕ → Result (Option State) Refusal
zero_plan s allocate o n = zero_by s (zero_job allocate) o n (zero_cut_of s.align o n)

abbrev pub discard_by : StoreOffset → ℕ → Result (Option Range) Refusal → Result (Option State) Refusal
discard_by o n (Ok None) = Ok None
discard_by o n (Ok (Some r)) = Ok (Some (state_of Discard (asked o n) (range_of 0 0) Last (direct_stage r) DiscardRequest))
discard_by o n (Err r) = Err r

unfoldable pub discard_plan : Settings → StoreOffset → ℕ → Result (Option State) Refusal
discard_plan s o n = discard_by o n (discard_cut_of s.align o n)

-- ---- what a told code leads to

abbrev pub in_phase : Phase → State → State
in_phase ph x = record {
  phase = ph;
  answer = x.answer;
  job = x.job;
  range = x.range;
  middle = x.middle;
  course = x.course;
  stage = x.stage;
}

-- "A failure ends the job with that number"
abbrev pub ended_with : ℕ → State → State
ended_with a x = record {
  phase = Ended;
  answer = a;
  job = x.job;
  range = x.range;
  middle = x.middle;
  course = x.course;
  stage = x.stage;
}

-- "A 207 met by a later piece of a zero job ends it with 207"
abbrev pub later_stage : State → Result (Option State) Refusal → Step
later_stage x (Ok None) = Ends (ended_with 0 x)
later_stage x (Ok (Some y)) = Enters y
later_stage x (Err r) = Ends (ended_with (number_of r) x)

-- a write of zeroes over r as the job's next stage
abbrev pub zeroes_next : Settings → State → Course → Range → Step
zeroes_next s x c r = later_stage x (zeroes_plan s x.job x.range x.middle c r)

abbrev pub chunk_by : Settings → State → Result (Option Range) Refusal → Step
chunk_by s x (Ok None) = Ends (ended_with 0 x)
chunk_by s x (Ok (Some r)) = zeroes_next s x Chunks r
chunk_by s x (Err r) = Ends (ended_with (number_of r) x)

-- the next chunk of `write_full_zeroes`, from o on
unfoldable pub chunk_next : Settings → State → StoreOffset → Step
chunk_next s x o = chunk_by s x (chunk_of s (record { start = o; end = x.range.end }))

-- "then to the tail, where not empty"
unfoldable pub tail_next : Settings → State → Step
tail_next s x =
    let r : Range = record { start = x.middle.end; end = x.range.end } in
    pick (ltb 0 (size_of r)) (zeroes_next s x Last r) (Ends (ended_with 0 x))

-- "then a write of zeroes to the head, then to the tail, where not empty"
unfoldable pub head_next : Settings → State → Step
head_next s x =
    let r : Range = record { start = x.range.start; end = x.middle.start } in
    pick (ltb 0 (size_of r)) (zeroes_next s x Head r) (tail_next s x)

-- the stage is done
abbrev pub stage_done : Course → Settings → State → Step
stage_done Last s x = Ends (ended_with 0 x)
stage_done Middle s x = head_next s x
stage_done Head s x = tail_next s x
stage_done Chunks s x = chunk_next s x x.stage.asked.end

-- "0 done"
abbrev pub done_next : Phase → Settings → State → Step
done_next Free s x = Ends (ended_with 0 x)
done_next Ended s x = Ends (ended_with 0 x)
done_next DirectRead s x = Ends (ended_with 0 x)
done_next BouncedRead s x = Ends (ended_with 0 x)
done_next FirstRead s x = Stays (in_phase (pick (ltb 0 (size_of x.stage.second)) SecondRead BouncedWrite) x)
done_next SecondRead s x = Stays (in_phase BouncedWrite x)
done_next BouncedWrite s x = stage_done x.course s x
done_next DirectWrite s x = Ends (ended_with 0 x)
done_next ZeroRequest s x = stage_done x.course s x
done_next DiscardRequest s x = Ends (ended_with 0 x)

-- "1 unsupported": a zero job falls back on `write_full_zeroes` over its whole range, a discard is done, all else ends with it
abbrev pub unsupported_next : Phase → Settings → State → Step
unsupported_next ZeroRequest s x = chunk_next s x x.range.start
unsupported_next DiscardRequest s x = Ends (ended_with 0 x)
unsupported_next Free s x = Ends (ended_with 1 x)
unsupported_next Ended s x = Ends (ended_with 1 x)
unsupported_next DirectRead s x = Ends (ended_with 1 x)
unsupported_next BouncedRead s x = Ends (ended_with 1 x)
unsupported_next FirstRead s x = Ends (ended_with 1 x)
unsupported_next SecondRead s x = Ends (ended_with 1 x)
unsupported_next BouncedWrite s x = Ends (ended_with 1 x)
unsupported_next DirectWrite s x = Ends (ended_with 1 x)

-- the job after its request's code
unfoldable pub told_of : Settings → State → ℕ → Step
told_of s x code =
    pick (eqb code 0) (done_next x.phase s x) (pick (eqb code 1) (unsupported_next x.phase s x) (Ends (ended_with code x)))

-- ---- what is out

abbrev pub is_free : Phase → Bool
is_free Free = true
is_free Ended = false
is_free DirectRead = false
is_free BouncedRead = false
is_free FirstRead = false
is_free SecondRead = false
is_free BouncedWrite = false
is_free DirectWrite = false
is_free ZeroRequest = false
is_free DiscardRequest = false

abbrev pub has_ended : Phase → Bool
has_ended Free = false
has_ended Ended = true
has_ended DirectRead = false
has_ended BouncedRead = false
has_ended FirstRead = false
has_ended SecondRead = false
has_ended BouncedWrite = false
has_ended DirectWrite = false
has_ended ZeroRequest = false
has_ended DiscardRequest = false

-- it has a request that is out or waited for
abbrev pub is_pending : Phase → Bool
is_pending ph = not (is_free ph || has_ended ph)

-- "reads enter none": whether a job in this phase has a blocker
abbrev pub is_blocking : Phase → Bool
is_blocking Free = false
is_blocking Ended = false
is_blocking DirectRead = false
is_blocking BouncedRead = false
is_blocking FirstRead = true
is_blocking SecondRead = true
is_blocking BouncedWrite = true
is_blocking DirectWrite = true
is_blocking ZeroRequest = true
is_blocking DiscardRequest = true

abbrev pub zero_kind : Job → Kind
zero_kind Read = KZero
zero_kind Write = KZero
zero_kind Zeroes = KZero
zero_kind AllocatedZeroes = KAllocatedZero
zero_kind Discard = KZero

abbrev pub request : Kind → Range → ℕ → Request
request k r n = record { kind = k; offset = r.start; length = size_of r; segments = n }

-- the request of a job, whose vector has n segments
abbrev pub request_by : Phase → State → ℕ → Request
request_by Free x n = request KRead x.stage.request 0
request_by Ended x n = request KRead x.stage.request 0
request_by DirectRead x n = request KRead x.stage.request n
request_by BouncedRead x n = request KRead x.stage.request 1
request_by FirstRead x n = request KRead x.stage.first 1
request_by SecondRead x n = request KRead x.stage.second 1
request_by BouncedWrite x n = request KWrite x.stage.request 1
request_by DirectWrite x n = request KWrite x.stage.request n
request_by ZeroRequest x n = request (zero_kind x.job) x.stage.request 0
request_by DiscardRequest x n = request KDiscard x.stage.request 0

unfoldable pub request_of : State → ℕ → Request
request_of x n = request_by x.phase x n

-- ---- what a state keeps

-- whether a job in this phase has bytes in its bounce buffer
abbrev pub uses_bounce : Phase → Bool
uses_bounce Free = false
uses_bounce Ended = false
uses_bounce DirectRead = false
uses_bounce BouncedRead = true
uses_bounce FirstRead = true
uses_bounce SecondRead = true
uses_bounce BouncedWrite = true
uses_bounce DirectWrite = false
uses_bounce ZeroRequest = false
uses_bounce DiscardRequest = false

-- where the second read's bytes start in the bounce buffer
abbrev pub second_at : Stage → ℕ
second_at g = g.second.start.0 - g.request.start.0

-- the stage's bytes lie in a bounce buffer of n bytes
unfoldable pub lies_in : ℕ → Stage → Bool
lies_in n g =
    leb (g.head.0 + size_of g.asked) n
    && leb (size_of g.request) n
    && leb (size_of g.first) n
    && leb (second_at g + size_of g.second) n

-- every state that a plan or a told code gives is sound; a state of no call's making may not be, and is refused
unfoldable pub is_sound : ℕ → State → Bool
is_sound n x = not (uses_bounce x.phase) || lies_in n x.stage
