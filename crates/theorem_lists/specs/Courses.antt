-- Which phase, course and job go together, and that a phase which reads has something to read: every plan starts so, every told code keeps
-- it. Assumes nothing.
use Rattle.std.specs.Prelude.{◌≡◌, Bool, ◌&&◌, ◌||◌, ℕ, ltb, eqb, Result, Ok, Err, Option, Some, None}
use Rattle.std.proofs.Math.Path.{refl, ap}
use Rattle.std.proofs.Math.Bool.{true, false}
use Rattle.arithmetic.specs.Rounding.{pick, is_multiple}
use Rattle.arithmetic.specs.SettingsLaws.{and_left, and_right}
use Rattle.arithmetic.specs.Offsets.{range_of}
use Rattle.arithmetic.specs.Settings.{length_align}
use Rattle.arithmetic.specs.Padding.{transfer_of}
use Rattle.arithmetic.specs.Zeroes.{zero_cut_of, discard_cut_of, chunk_of}
use Rattle.arithmetic.specs.declared.offsets.StoreOffset.{StoreOffset}
use Rattle.arithmetic.specs.declared.offsets.Range.{Range}
use Rattle.arithmetic.specs.declared.settings.Settings.{Settings}
use Rattle.arithmetic.specs.declared.padding.Transfer.{Transfer}
use Rattle.arithmetic.specs.declared.padding.Transfer.TheVariants.{Direct, Bounced}
use Rattle.arithmetic.specs.declared.zeroes.ZeroCut.{ZeroCut}
use Rattle.arithmetic.specs.declared.zeroes.ZeroCut.TheVariants.{Nothing as NoCut, Whole, Split}
use Rattle.stages.specs.Stages.{size_of, direct_stage, padded_stage, first_phase, asked, vector_by, read_plan, write_plan, zeroes_by}
use Rattle.stages.specs.Stages.{zeroes_plan}
use Rattle.stages.specs.Stages.{zero_job, zero_by, zero_plan, discard_by, discard_plan, ended_with, later_stage, zeroes_next, chunk_by}
use Rattle.stages.specs.Stages.{chunk_next}
use Rattle.stages.specs.Stages.{tail_next, head_next, stage_done, done_next, unsupported_next, told_of, is_blocking}
use Rattle.stages.specs.Laws.{Starts, starts_within, starts_some, never}
use Rattle.stages.specs.declared.state.Job.{Job}
use Rattle.stages.specs.declared.state.Job.TheVariants.{Read, Write, Zeroes, AllocatedZeroes, Discard}
use Rattle.stages.specs.declared.state.Phase.{Phase}
use Rattle.stages.specs.declared.state.Phase.TheVariants.{Free, Ended, DirectRead, BouncedRead, FirstRead, SecondRead, BouncedWrite}
use Rattle.stages.specs.declared.state.Phase.TheVariants.{DirectWrite, ZeroRequest, DiscardRequest}
use Rattle.stages.specs.declared.state.Course.{Course}
use Rattle.stages.specs.declared.state.Course.TheVariants.{Last, Middle, Head, Chunks}
use Rattle.stages.specs.declared.state.Stage.{Stage}
use Rattle.stages.specs.declared.state.State.{State}
use Rattle.stages.specs.declared.told.Step.{Step}
use Rattle.stages.specs.declared.told.Step.TheVariants.{Stays, Ends, Enters}
use Rattle.dock.specs.Dock.{is_read_job}
use Rattle.dock.specs.Begin.{is_write_job}
use Rattle.arithmetic.specs.declared.refusals.Refusal.{Refusal}

abbrev pub is_zero_job : Job → Bool
is_zero_job Read = false
is_zero_job Write = false
is_zero_job Zeroes = true
is_zero_job AllocatedZeroes = true
is_zero_job Discard = false

abbrev pub is_discard_job : Job → Bool
is_discard_job Read = false
is_discard_job Write = false
is_discard_job Zeroes = false
is_discard_job AllocatedZeroes = false
is_discard_job Discard = true

-- a job that has a vector
abbrev pub has_vector : Job → Bool
has_vector j = is_read_job j || is_write_job j

abbrev pub is_last : Course → Bool
is_last Last = true
is_last Middle = false
is_last Head = false
is_last Chunks = false

abbrev pub is_middle : Course → Bool
is_middle Last = false
is_middle Middle = true
is_middle Head = false
is_middle Chunks = false

-- a job whose stage in this course writes from the bounce buffer: a write has one stage, a zero job's middle is a zero request
abbrev pub bounces : Course → Job → Bool
bounces Last j = is_write_job j || is_zero_job j
bounces Middle j = false
bounces Head j = is_zero_job j
bounces Chunks j = is_zero_job j

abbrev pub suits : Phase → Course → Job → Bool
suits Free c j = true
suits Ended c j = true
suits DirectRead c j = is_last c && is_read_job j
suits BouncedRead c j = is_last c && is_read_job j
suits FirstRead c j = bounces c j
suits SecondRead c j = bounces c j
suits BouncedWrite c j = bounces c j
suits DirectWrite c j = is_last c && is_write_job j
suits ZeroRequest c j = is_middle c && is_zero_job j
suits DiscardRequest c j = is_last c && is_discard_job j

-- the reads of a padded write have bytes to read
abbrev pub has_read : Phase → Stage → Bool
has_read Free g = true
has_read Ended g = true
has_read DirectRead g = true
has_read BouncedRead g = true
has_read FirstRead g = ltb 0 (size_of g.first)
has_read SecondRead g = ltb 0 (size_of g.second)
has_read BouncedWrite g = true
has_read DirectWrite g = true
has_read ZeroRequest g = true
has_read DiscardRequest g = true

abbrev pub regular : Phase → Course → Job → Stage → Bool
regular ph c j g = suits ph c j && has_read ph g

unfoldable pub is_regular : State → Bool
is_regular x = regular x.phase x.course x.job x.stage

pub suited : (x : State) → is_regular x ≡ true → (ph : Phase) → x.phase ≡ ph → suits ph x.course x.job ≡ true
unfolding is_regular
suited x k ph e = and_left _ _ (rw e at k)

-- ---- plans

first_regular : (j : Job) (c : Course) (g : Stage) → bounces c j ≡ true → regular (first_phase g) c j g ≡ true
unfolding first_phase
first_regular j c g h = go (ltb 0 (size_of g.first)) (ltb 0 (size_of g.second)) refl refl
  where
    go : (x y : Bool) → ltb 0 (size_of g.first) ≡ x → ltb 0 (size_of g.second) ≡ y
        → regular (pick x FirstRead (pick y SecondRead BouncedWrite)) c j g ≡ true
    go true y e f = simp (h, e)
    go false true e f = simp (h, f)
    go false false e f = simp h

-- a job with a vector has one stage, over its whole range
abbrev pub Sole : State → Type 0
Sole x = (is_regular x ≡ true) × (x.stage.asked ≡ x.range)

abbrev Regular : State → Type 0
Regular x = is_regular x ≡ true

module _ (s : Settings) (o : StoreOffset) (n : ℕ) where
  read_by : (t : Result Transfer Refusal) → Starts Sole (vector_by s Read DirectRead o n t)
  unfolding is_regular direct_stage padded_stage
  read_by (Ok (Direct r)) = (refl, refl)
  read_by (Ok (Bounced x)) = starts_within Sole x.length s.bounce _ (λ h. (refl, refl))
  read_by (Err r) = tt

  pub read_regular : (t : Bool) → Starts Sole (read_plan s o n t)
  unfolding read_plan
  read_regular t = starts_some Sole n _ (λ h. read_by (transfer_of s.align o n t))

  write_by : (t : Result Transfer Refusal) → Starts Sole (vector_by s Write DirectWrite o n t)
  unfolding is_regular direct_stage padded_stage
  write_by (Ok (Direct r)) = (refl, refl)
  write_by (Ok (Bounced x)) =
      starts_within Sole x.length s.bounce _ (λ h. (first_regular Write Last (padded_stage x (asked o n)) refl, refl))
  write_by (Err r) = tt

  pub write_regular : (t : Bool) → Starts Sole (write_plan s o n t)
  unfolding write_plan
  write_regular t = starts_some Sole n _ (λ h. write_by (transfer_of s.align o n t))

module _ (s : Settings) (j : Job) (w m : Range) (c : Course) (r : Range) (h : bounces c j ≡ true) where
  zeroes_by_lem : (t : Result Transfer Refusal) → Starts Regular (zeroes_by s j w m c r t)
  unfolding is_regular
  zeroes_by_lem (Ok (Direct x)) = starts_within Regular (size_of r) s.bounce _ (λ k. simp h)
  zeroes_by_lem (Ok (Bounced x)) = starts_within Regular x.length s.bounce _ (λ k. first_regular j c (padded_stage x r) h)
  zeroes_by_lem (Err x) = tt

  zeroes_regular : Starts Regular (zeroes_plan s j w m c r)
  unfolding zeroes_plan
  zeroes_regular = zeroes_by_lem (transfer_of s.align r.start (size_of r) (is_multiple (size_of r) (length_align s.align)))

zero_job_lem : (t : Bool) → is_zero_job (zero_job t) ≡ true
zero_job_lem true = refl
zero_job_lem false = refl

last_bounces : (j : Job) → is_zero_job j ≡ true → bounces Last j ≡ true
last_bounces Read e = e
last_bounces Write e = refl
last_bounces Zeroes e = refl
last_bounces AllocatedZeroes e = refl
last_bounces Discard e = e

module _ (s : Settings) (o : StoreOffset) (n : ℕ) where
  zero_by_lem : (t : Bool) (x : Result ZeroCut Refusal) → Starts Regular (zero_by s (zero_job t) o n x)
  unfolding is_regular
  zero_by_lem t (Ok NoCut) = tt
  zero_by_lem t (Ok (Whole r)) = zeroes_regular s (zero_job t) r (range_of 0 0) Last r (last_bounces (zero_job t) (zero_job_lem t))
  zero_by_lem t (Ok (Split c)) = simp (zero_job_lem t)
  zero_by_lem t (Err r) = tt

  pub zero_regular : (t : Bool) → Starts Regular (zero_plan s t o n)
  unfolding zero_plan
  zero_regular t = zero_by_lem t (zero_cut_of s.align o n)

  discard_by_lem : (x : Result (Option Range) Refusal) → Starts Regular (discard_by o n x)
  unfolding is_regular
  discard_by_lem (Ok None) = tt
  discard_by_lem (Ok (Some r)) = refl
  discard_by_lem (Err r) = tt

  pub discard_regular : Starts Regular (discard_plan s o n)
  unfolding discard_plan
  discard_regular = discard_by_lem (discard_cut_of s.align o n)

-- ---- a told code

-- a stage that goes on is one with a blocker, and stays regular
pub record Goes (x y : State) : Type 0 where
  pub regular : is_regular y ≡ true
  pub before : is_blocking x.phase ≡ true
  pub after : is_blocking y.phase ≡ true

-- only zero jobs enter another stage, and it is regular
abbrev StepRegular : State → Step → Type 0
StepRegular x (Stays y) = Goes x y
StepRegular x (Ends y) = Unit {0}
StepRegular x (Enters y) = (is_zero_job x.job ≡ true) × (is_regular y ≡ true)

module _ (s : Settings) (x : State) where
  module _ (z : is_zero_job x.job ≡ true) where
    later_regular : (p : Result (Option State) Refusal) → Starts Regular p → StepRegular x (later_stage x p)
    later_regular (Ok None) k = tt
    later_regular (Ok (Some y)) k = (z, k)
    later_regular (Err r) k = tt

    next_regular : (c : Course) (r : Range) → bounces c x.job ≡ true → StepRegular x (zeroes_next s x c r)
    next_regular c r h =
        later_regular (zeroes_plan s x.job x.range x.middle c r) (zeroes_regular s x.job x.range x.middle c r h)

    chunk_by_lem : (k : Result (Option Range) Refusal) → StepRegular x (chunk_by s x k)
    chunk_by_lem (Ok None) = tt
    chunk_by_lem (Ok (Some r)) = next_regular Chunks r z
    chunk_by_lem (Err r) = tt

    chunk_regular : (o : StoreOffset) → StepRegular x (chunk_next s x o)
    unfolding chunk_next
    chunk_regular o = chunk_by_lem (chunk_of s (record { start = o; end = x.range.end }))

    -- a write of zeroes over r, where not empty
    some_regular : (r : Range) (c : Course) (b : Step) → bounces c x.job ≡ true → StepRegular x b
        → StepRegular x (pick (ltb 0 (size_of r)) (zeroes_next s x c r) b)
    some_regular r c b h l = go (ltb 0 (size_of r))
      where
        go : (t : Bool) → StepRegular x (pick t (zeroes_next s x c r) b)
        go true = next_regular c r h
        go false = l

    tail_regular : StepRegular x (tail_next s x)
    unfolding tail_next
    tail_regular =
        some_regular (record { start = x.middle.end; end = x.range.end }) Last (Ends (ended_with 0 x)) (last_bounces x.job z) tt

    head_regular : StepRegular x (head_next s x)
    unfolding head_next
    head_regular = some_regular (record { start = x.range.start; end = x.middle.start }) Head (tail_next s x) z tail_regular

  write_done : (c : Course) → bounces c x.job ≡ true → StepRegular x (stage_done c s x)
  write_done Last h = tt
  write_done Middle h = never h
  write_done Head h = tail_regular h
  write_done Chunks h = chunk_regular h x.stage.asked.end

  zero_done : (c : Course) → (is_middle c && is_zero_job x.job) ≡ true → StepRegular x (stage_done c s x)
  zero_done Last h = tt
  zero_done Middle h = head_regular h
  zero_done Head h = never h
  zero_done Chunks h = never h

  second_regular : bounces x.course x.job ≡ true → (t : Bool) → ltb 0 (size_of x.stage.second) ≡ t
      → regular (pick t SecondRead BouncedWrite) x.course x.job x.stage ≡ true
  second_regular h true e = simp (h, e)
  second_regular h false e = simp h

  second_blocking : (t : Bool) → is_blocking (pick t SecondRead BouncedWrite) ≡ true
  second_blocking true = refl
  second_blocking false = refl

  module _ (k : is_regular x ≡ true) where
    done_by : (ph : Phase) → x.phase ≡ ph → StepRegular x (done_next ph s x)
    unfolding is_regular
    done_by Free e = tt
    done_by Ended e = tt
    done_by DirectRead e = tt
    done_by BouncedRead e = tt
    done_by FirstRead e = record {
      regular = second_regular (suited x k FirstRead e) (ltb 0 (size_of x.stage.second)) refl;
      before = ap is_blocking e;
      after = second_blocking (ltb 0 (size_of x.stage.second));
    }
    done_by SecondRead e = record { regular = simp (suited x k SecondRead e); before = ap is_blocking e; after = refl }
    done_by BouncedWrite e = write_done x.course (suited x k BouncedWrite e)
    done_by DirectWrite e = tt
    done_by ZeroRequest e = zero_done x.course (suited x k ZeroRequest e)
    done_by DiscardRequest e = tt

    unsupported_by : (ph : Phase) → x.phase ≡ ph → StepRegular x (unsupported_next ph s x)
    unsupported_by ZeroRequest e = chunk_regular (and_right (is_middle x.course) _ (suited x k ZeroRequest e)) x.range.start
    unsupported_by DiscardRequest e = tt
    unsupported_by Free e = tt
    unsupported_by Ended e = tt
    unsupported_by DirectRead e = tt
    unsupported_by BouncedRead e = tt
    unsupported_by FirstRead e = tt
    unsupported_by SecondRead e = tt
    unsupported_by BouncedWrite e = tt
    unsupported_by DirectWrite e = tt

    told_by_lem : (code : ℕ) → StepRegular x (told_of s x code)
    unfolding told_of
    told_by_lem code = go (eqb code 0) (eqb code 1)
      where
        go : (a b : Bool) → StepRegular x
            (pick a (done_next x.phase s x) (pick b (unsupported_next x.phase s x) (Ends (ended_with code x))))
        go true b = done_by x.phase refl
        go false true = unsupported_by x.phase refl
        go false false = tt

    pub stays_regular : (code : ℕ) (y : State) → told_of s x code ≡ Stays y → Goes x y
    stays_regular code y e = rw e at (told_by_lem code)

    pub enters_regular : (code : ℕ) (y : State) → told_of s x code ≡ Enters y → (is_zero_job x.job ≡ true) × (is_regular y ≡ true)
    enters_regular code y e = rw e at (told_by_lem code)
