-- Laws of stages: a stage that a job begins with or enters is sound, pending and on the store, and keeps the job and its range; a told code
-- keeps what it must; reads never enter a stage; a zero job never meets 206. Assumes nothing.
use Rattle.std.proofs.Math.Path.{◌≡◌, refl}
use Rattle.std.proofs.Common.{sym, ap, subst, ◌∙◌, inl, inr, ⊎_elim}
use Rattle.std.specs.Prelude.{Bool, ◌||◌, not, ◌⊎◌, ℕ, ◌+◌, ◌-◌, ◌^◌, ◌<◌, ◌≤◌, leb, eqb, Result, Ok, Err, Option, Some, None}
use Rattle.std.proofs.Math.Bool.{true, false}
use native.Mathlib.Omega.{arith}
use Rattle.std.proofs.Math.Decide.{ℕ_discrete}
use Rattle.std.proofs.Math.Dec.{ltb}
use borrow.Author.Tests.{ltb-true, leb-true, eqb-false, le-leb, ne_eqb}
use Rattle.arithmetic.specs.Rounding.{pick, fits, is_multiple}
use Rattle.arithmetic.specs.RoundingLaws.{down_le}
use Rattle.arithmetic.specs.Offsets.{range_of}
use Rattle.arithmetic.specs.Settings.{alignments_fit, bounce_fits, settings_fit, length_align}
use Rattle.arithmetic.specs.SettingsLaws.{and_left, accepted}
use Rattle.arithmetic.specs.Refusals.{number_of}
use Rattle.arithmetic.specs.Padding.{transfer_of, reads_of, padded_length, padding_fits, padded_of, span_of, is_direct, bounced}
use Rattle.arithmetic.specs.PaddingLaws.{Spans, Transfers, transfers, end_ge, start_le}
use Rattle.arithmetic.specs.Zeroes.{cut_fits, middle_start, middle_end, has_middle, cut_of, zero_cut_of, discard_cut_of, chunk_length}
use Rattle.arithmetic.specs.Zeroes.{chunk_of}
use Rattle.arithmetic.specs.ZeroesLaws.{chunk_some, head_pads, tail_pads, whole_pads, chunk_pads}
use Rattle.arithmetic.specs.declared.refusals.Refusal.{Refusal}
use Rattle.arithmetic.specs.declared.refusals.Refusal.TheVariants.{Unfit, TooLong, Overflow}
use Rattle.arithmetic.specs.declared.offsets.StoreOffset.{StoreOffset}
use Rattle.arithmetic.specs.declared.offsets.Range.{Range}
use Rattle.arithmetic.specs.declared.settings.Alignments.{Alignments}
use Rattle.arithmetic.specs.declared.settings.Settings.{Settings}
use Rattle.arithmetic.specs.declared.padding.Span.{Span}
use Rattle.arithmetic.specs.declared.padding.Reads.TheVariants.{Nothing as NoReads, Whole as ReadWhole, Head as ReadHead, Tail as ReadTail}
use Rattle.arithmetic.specs.declared.padding.Reads.TheVariants.{HeadThenTail}
use Rattle.arithmetic.specs.declared.padding.Transfer.{Transfer}
use Rattle.arithmetic.specs.declared.padding.Transfer.TheVariants.{Direct, Bounced}
use Rattle.arithmetic.specs.declared.zeroes.ZeroCut.{ZeroCut}
use Rattle.arithmetic.specs.declared.zeroes.ZeroCut.TheVariants.{Nothing as NoCut, Whole, Split}
use Rattle.stages.specs.Stages.{size_of, direct_stage, first_of, second_of, padded_stage, first_phase, state_of, asked, bounced_phase}
use Rattle.stages.specs.Stages.{vector_by, vector_plan, read_plan, write_plan, zeroes_by, zeroes_plan, zero_by, zero_job, zero_plan}
use Rattle.stages.specs.Stages.{discard_by}
use Rattle.stages.specs.Stages.{discard_plan, in_phase, ended_with, later_stage, zeroes_next, chunk_by, chunk_next, tail_next, head_next}
use Rattle.stages.specs.Stages.{stage_done, done_next, unsupported_next, told_of, is_pending, uses_bounce, second_at, lies_in, is_sound}
use Rattle.stages.specs.Transfers.{splits, wholes, discards}
use Rattle.stages.specs.declared.state.Job.{Job}
use Rattle.stages.specs.declared.state.Job.TheVariants.{Read, Write, Zeroes, AllocatedZeroes, Discard}
use Rattle.stages.specs.declared.state.Phase.{Phase}
use Rattle.stages.specs.declared.state.Phase.TheVariants.{Free, Ended, DirectRead, BouncedRead, FirstRead, SecondRead, BouncedWrite}
use Rattle.stages.specs.declared.state.Phase.TheVariants.{DirectWrite, ZeroRequest, DiscardRequest}
use Rattle.stages.specs.declared.state.Course.{Course}
use Rattle.stages.specs.declared.state.Course.TheVariants.{Last, Middle, Head, Chunks}
use Rattle.stages.specs.declared.state.Stage.{Stage}
use Rattle.stages.specs.declared.state.State.{State}
use Rattle.stages.specs.declared.told.Step.{Step}
use Rattle.stages.specs.declared.told.Step.TheVariants.{Stays, Ends, Enters}

pub never : {A : Type 0} → ◌≡◌ {A = Bool} false true → A
never e = let z : ◌≡◌ {A = ℕ} 0 1 = cc in absurd (omega arith)

-- ---- where a stage's ranges lie

-- the asked range lies in the request's, the reads at its ends
pub record StageOnStore (g : Stage) : Type 0 where
  pub some : g.request.start.0 < g.request.end.0
  pub fits : g.request.end.0 < 2 ^ 64
  pub asked_some : g.asked.start.0 < g.asked.end.0
  pub asked_starts : g.request.start.0 + g.head.0 ≡ g.asked.start.0
  pub asked_ends : g.asked.end.0 ≤ g.request.end.0
  pub first_starts : 0 < size_of g.first → g.first.start.0 ≡ g.request.start.0
  pub first_ends : 0 < size_of g.first → g.first.end.0 ≤ g.request.end.0
  pub second_starts : 0 < size_of g.second → g.request.start.0 ≤ g.second.start.0
  pub second_ends : 0 < size_of g.second → g.second.end.0 ≡ g.request.end.0

direct_on_store : (r : Range) → 0 < size_of r → r.end.0 < 2 ^ 64 → StageOnStore (direct_stage r)
unfolding direct_stage
direct_on_store r p f = record {
  some = omega arith;
  fits = f;
  asked_some = omega arith;
  asked_starts = omega arith;
  asked_ends = omega arith;
  first_starts = λ h. absurd (omega arith);
  first_ends = λ h. absurd (omega arith);
  second_starts = λ h. absurd (omega arith);
  second_ends = λ h. absurd (omega arith);
}

-- the reads f and g of a padded range
record Reading (s : Span) (f g : Range) : Type 0 where
  first_starts : 0 < size_of f → f.start.0 ≡ s.start.0
  first_ends : 0 < size_of f → f.end.0 ≤ s.end.0
  first_short : size_of f ≤ s.length
  second_starts : 0 < size_of g → s.start.0 ≤ g.start.0
  second_ends : 0 < size_of g → g.end.0 ≡ s.end.0
  second_short : g.start.0 - s.start.0 + size_of g ≤ s.length

reading : (s : Span) → s.end.0 ≡ s.start.0 + s.length → s.prefix ≤ s.length → s.suffix ≤ s.length →
    Reading s (first_of s (reads_of s)) (second_of s (reads_of s))
unfolding reads_of
reading s e p q = go (eqb (s.prefix + s.suffix) s.length) (eqb s.prefix 0) (eqb s.suffix 0)
  where
    go : (x y z : Bool) →
        let k = pick x ReadWhole (pick y (pick z NoReads (ReadTail s.suffix))
        (pick z (ReadHead s.prefix) (HeadThenTail s.prefix s.suffix))) in
        Reading s (first_of s k) (second_of s k)
    go true y z = record {
      first_starts = λ h. refl;
      first_ends = λ h. omega arith;
      first_short = omega arith;
      second_starts = λ h. absurd (omega arith);
      second_ends = λ h. absurd (omega arith);
      second_short = omega arith;
    }
    go false true true = record {
      first_starts = λ h. absurd (omega arith);
      first_ends = λ h. absurd (omega arith);
      first_short = omega arith;
      second_starts = λ h. absurd (omega arith);
      second_ends = λ h. absurd (omega arith);
      second_short = omega arith;
    }
    go false true false = record {
      first_starts = λ h. absurd (omega arith);
      first_ends = λ h. absurd (omega arith);
      first_short = omega arith;
      second_starts = λ h. omega arith;
      second_ends = λ h. refl;
      second_short = omega arith;
    }
    go false false true = record {
      first_starts = λ h. refl;
      first_ends = λ h. omega arith;
      first_short = omega arith;
      second_starts = λ h. absurd (omega arith);
      second_ends = λ h. absurd (omega arith);
      second_short = omega arith;
    }
    go false false false = record {
      first_starts = λ h. refl;
      first_ends = λ h. omega arith;
      first_short = omega arith;
      second_starts = λ h. omega arith;
      second_ends = λ h. refl;
      second_short = omega arith;
    }

read_at : {a : Alignments} {o n : ℕ} {x : Span} → Spans a o n x → Reading x (first_of x (reads_of x)) (second_of x (reads_of x))
read_at {x = x} k = reading x k.end k.prefix_le k.suffix_le

padded_on_store : {a : Alignments} {n : ℕ} (x : Span) (r : Range) → Spans a r.start.0 n x → size_of r ≡ n → 0 < n →
    StageOnStore (padded_stage x r)
unfolding padded_stage
padded_on_store x r k e p =
    let d = read_at k in
    record {
      some = omega (arith, k.end, k.holds);
      fits = k.fits;
      asked_some = omega arith;
      asked_starts = k.from;
      asked_ends = omega (arith, k.end, k.holds, k.from);
      first_starts = d.first_starts;
      first_ends = d.first_ends;
      second_starts = d.second_starts;
      second_ends = d.second_ends;
    }

-- ---- what lies in the bounce buffer

lies : (n : ℕ) (g : Stage) → g.head.0 + size_of g.asked ≤ n → size_of g.request ≤ n → size_of g.first ≤ n →
    second_at g + size_of g.second ≤ n → lies_in n g ≡ true
unfolding lies_in
lies n g a b c d = simp (le-leb _ _ a, le-leb _ _ b, le-leb _ _ c, le-leb _ _ d)

direct_lies : (n : ℕ) (r : Range) → size_of r ≤ n → lies_in n (direct_stage r) ≡ true
unfolding direct_stage
direct_lies n r h = lies n (direct_stage r) (omega arith) h (omega arith) (omega arith)

padded_lies : {a : Alignments} {m : ℕ} (n : ℕ) (x : Span) (r : Range) → Spans a r.start.0 m x → size_of r ≡ m → x.length ≤ n →
    lies_in n (padded_stage x r) ≡ true
unfolding padded_stage
padded_lies n x r k e h =
    let d = read_at k in
    lies n (padded_stage x r) (omega (arith, k.holds)) (omega (arith, k.end)) (omega (arith, d.first_short))
    (omega (arith, d.second_short))

stage_sound : (n : ℕ) (x : State) → (uses_bounce x.phase ≡ true → lies_in n x.stage ≡ true) → is_sound n x ≡ true
unfolding is_sound
stage_sound n x f = go (uses_bounce x.phase) f
  where
    go : (b : Bool) → (b ≡ true → lies_in n x.stage ≡ true) → (not b || lies_in n x.stage) ≡ true
    go true f = f refl
    go false f = refl

sound_stage : (n : ℕ) (x : State) → is_sound n x ≡ true → uses_bounce x.phase ≡ true → lies_in n x.stage ≡ true
unfolding is_sound
sound_stage n x e u = rw u at e

-- ---- a stage that a job begins with or enters

-- x is a stage of the job j over the range w
pub record Opens (s : Settings) (j : Job) (w : Range) (x : State) : Type 0 where
  pub sound : is_sound s.bounce x ≡ true
  pub pending : is_pending x.phase ≡ true
  pub answer : x.answer ≡ 0
  pub job : x.job ≡ j
  pub range : x.range ≡ w
  pub on_store : StageOnStore x.stage

opens_direct : (s : Settings) (j : Job) (w m : Range) (c : Course) (r : Range) (ph : Phase)
    → is_pending ph ≡ true → (uses_bounce ph ≡ true → size_of r ≤ s.bounce) → 0 < size_of r → r.end.0 < 2 ^ 64
    → Opens s j w (state_of j w m c (direct_stage r) ph)
opens_direct s j w m c r ph e b p f = record {
  sound = stage_sound s.bounce _ (λ u. direct_lies s.bounce r (b u));
  pending = e;
  answer = refl;
  job = refl;
  range = refl;
  on_store = direct_on_store r p f;
}

opens_padded : {a : Alignments} {n : ℕ} (s : Settings) (j : Job) (w m : Range) (c : Course) (x : Span) (r : Range) (ph : Phase)
    → Spans a r.start.0 n x → size_of r ≡ n → is_pending ph ≡ true → x.length ≤ s.bounce → 0 < n
    → Opens s j w (state_of j w m c (padded_stage x r) ph)
opens_padded s j w m c x r ph k z e b p = record {
  sound = stage_sound s.bounce _ (λ u. padded_lies s.bounce x r k z b);
  pending = e;
  answer = refl;
  job = refl;
  range = refl;
  on_store = padded_on_store x r k z p;
}

first_pending : (g : Stage) → is_pending (first_phase g) ≡ true
unfolding first_phase
first_pending g = go (ltb 0 (size_of g.first)) (ltb 0 (size_of g.second))
  where
    go : (x y : Bool) → is_pending (pick x FirstRead (pick y SecondRead BouncedWrite)) ≡ true
    go true y = refl
    go false true = refl
    go false false = refl

-- what a plan says of its state, if it starts
abbrev pub Starts : (State → Type 0) → Result (Option State) Refusal → Type 0
Starts P (Ok None) = Unit {0}
Starts P (Ok (Some x)) = P x
Starts P (Err r) = Unit {0}

-- past the test of 206, and past that of an empty job
pub starts_within : (P : State → Type 0) (n b : ℕ) (p : Result (Option State) Refusal) → (n ≤ b → Starts P p)
    → Starts P (pick (leb n b) p (Err TooLong))
starts_within P n b p f = go (leb n b) refl
  where
    go : (t : Bool) → leb n b ≡ t → Starts P (pick t p (Err TooLong))
    go true e = f (leb-true _ _ e)
    go false e = tt

pub starts_some : (P : State → Type 0) (n : ℕ) (p : Result (Option State) Refusal) → (0 < n → Starts P p)
    → Starts P (pick (eqb n 0) (Ok None) p)
starts_some P n p f = go (eqb n 0) refl
  where
    go : (t : Bool) → eqb n 0 ≡ t → Starts P (pick t (Ok None) p)
    go true e = tt
    go false e = let h = eqb-false n 0 e in f (omega (arith, h))

size_asked : (o : StoreOffset) (n : ℕ) → size_of (asked o n) ≡ n
size_asked o n = omega arith

bounced_pending : (j : Job) (g : Stage) → is_pending (bounced_phase j g) ≡ true
bounced_pending Read g = refl
bounced_pending Write g = first_pending g
bounced_pending Zeroes g = first_pending g
bounced_pending AllocatedZeroes g = first_pending g
bounced_pending Discard g = first_pending g

-- a plan over a vector, in a direct phase d or padded
module _ (s : Settings) (j : Job) (d : Phase) (o : StoreOffset) (n : ℕ) where
  vector_by_lem : is_pending d ≡ true → uses_bounce d ≡ false → 0 < n → (x : Result Transfer Refusal) → Transfers s.align o.0 n x
      → Starts (Opens s j (asked o n)) (vector_by s j d o n x)
  unfolding Transfers
  vector_by_lem e u p (Ok (Direct r)) k = rw k.is (opens_direct s j (asked o n) _ _ (asked o n) d e (λ v. never (sym u ∙ v)) (omega arith)
      k.fits)
  vector_by_lem e u p (Ok (Bounced x)) k =
      starts_within (Opens s j (asked o n)) x.length s.bounce _
      (λ h. opens_padded s j (asked o n) _ _ x (asked o n) _ k (size_asked o n) (bounced_pending j (padded_stage x (asked o n))) h p)
  vector_by_lem e u p (Err r) k = tt

  vector_opens : is_pending d ≡ true → uses_bounce d ≡ false → (t : Bool) (x : State) → vector_plan s j d o n t ≡ (Ok (Some x)) →
      Opens s j (asked o n) x
  vector_opens e u t x q =
      rw q at (starts_some (Opens s j (asked o n)) n (vector_by s j d o n (transfer_of s.align o n t))
      (λ p. vector_by_lem e u p (transfer_of s.align o n t) (transfers s.align o n t)))

module _ (s : Settings) (o : StoreOffset) (n : ℕ) where
  pub read_opens : (t : Bool) (x : State) → read_plan s o n t ≡ (Ok (Some x)) → Opens s Read (asked o n) x
  unfolding read_plan
  read_opens = vector_opens s Read DirectRead o n refl refl

  -- a read starts in one of the phases that `read_ends` speaks of
  phase_by : (x : Result Transfer Refusal)
      → Starts (λ y. (y.phase ≡ DirectRead) ⊎ (y.phase ≡ BouncedRead)) (vector_by s Read DirectRead o n x)
  phase_by (Ok (Direct r)) = inl refl
  phase_by (Ok (Bounced x)) = starts_within (λ y. (y.phase ≡ DirectRead) ⊎ (y.phase ≡ BouncedRead)) x.length s.bounce _ (λ h. inr refl)
  phase_by (Err r) = tt

  pub read_phase : (t : Bool) (x : State) → read_plan s o n t ≡ (Ok (Some x)) → (x.phase ≡ DirectRead) ⊎ (x.phase ≡ BouncedRead)
  unfolding read_plan
  read_phase t x e =
      rw e at (starts_some (λ y. (y.phase ≡ DirectRead) ⊎ (y.phase ≡ BouncedRead)) n
      (vector_by s Read DirectRead o n (transfer_of s.align o n t)) (λ p. phase_by (transfer_of s.align o n t)))

  pub write_opens : (t : Bool) (x : State) → write_plan s o n t ≡ (Ok (Some x)) → Opens s Write (asked o n) x
  unfolding write_plan
  write_opens = vector_opens s Write DirectWrite o n refl refl

-- a write of zeroes over r, as a stage of the job j over w
module _ (s : Settings) (j : Job) (w m : Range) (c : Course) (r : Range) where
  abbrev zeroes_transfer : Result Transfer Refusal
  zeroes_transfer = transfer_of s.align r.start (size_of r) (is_multiple (size_of r) (length_align s.align))

  sound_by : (x : Result Transfer Refusal) → Transfers s.align r.start.0 (size_of r) x →
      Starts (λ x. is_sound s.bounce x ≡ true) (zeroes_by s j w m c r x)
  unfolding Transfers
  sound_by (Ok (Direct x)) k = starts_within (λ x. is_sound s.bounce x ≡ true) (size_of r) s.bounce _
      (λ h. stage_sound s.bounce _ (λ u. direct_lies s.bounce r h))
  sound_by (Ok (Bounced x)) k = starts_within (λ x. is_sound s.bounce x ≡ true) x.length s.bounce _
      (λ h. stage_sound s.bounce _ (λ u. padded_lies s.bounce x r k refl h))
  sound_by (Err x) k = tt

  pub zeroes_sound : (x : State) → zeroes_plan s j w m c r ≡ (Ok (Some x)) → is_sound s.bounce x ≡ true
  unfolding zeroes_plan
  zeroes_sound x e = rw e at (sound_by zeroes_transfer (transfers s.align r.start (size_of r) _))

  zeroes_by_lem : 0 < size_of r → (x : Result Transfer Refusal) → Transfers s.align r.start.0 (size_of r) x →
      Starts (Opens s j w) (zeroes_by s j w m c r x)
  unfolding Transfers
  zeroes_by_lem p (Ok (Direct x)) k = starts_within (Opens s j w) (size_of r) s.bounce _
      (λ h. opens_direct s j w m c r BouncedWrite refl (λ u. h) p (omega (arith, k.fits)))
  zeroes_by_lem p (Ok (Bounced x)) k = starts_within (Opens s j w) x.length s.bounce _
      (λ h. opens_padded s j w m c x r _ k refl (first_pending (padded_stage x r)) h p)
  zeroes_by_lem p (Err x) k = tt

  zeroes_start : 0 < size_of r → Starts (Opens s j w) (zeroes_plan s j w m c r)
  unfolding zeroes_plan
  zeroes_start p = zeroes_by_lem p zeroes_transfer (transfers s.align r.start (size_of r) _)

  pub zeroes_opens : 0 < size_of r → (x : State) → zeroes_plan s j w m c r ≡ (Ok (Some x)) → Opens s j w x
  zeroes_opens p x e = rw e at (zeroes_start p)

module _ (s : Settings) (o : StoreOffset) (n : ℕ) where
  zero_by_lem : (t : Bool) (x : Result ZeroCut Refusal) → zero_cut_of s.align o n ≡ x
      → Starts (Opens s (zero_job t) (asked o n)) (zero_by s (zero_job t) o n x)
  unfolding cut_of has_middle
  zero_by_lem t (Ok NoCut) e = tt
  zero_by_lem t (Ok (Whole r)) e =
      let k = wholes s.align o n r e in
      rw k.is (zeroes_start s (zero_job t) (asked o n) (range_of 0 0) Last (asked o n) (omega (arith, k.some)))
  zero_by_lem t (Ok (Split c)) e =
      let k = splits s.align o n c e in
      let l = ltb-true (middle_start s.align.zero o.0) (middle_end s.align.zero o.0 n) k.middles.some in
      rw k.is (opens_direct s (zero_job t) (asked o n) _ _ (cut_of s.align.zero o.0 n).middle ZeroRequest refl never
      (omega (arith, l)) (omega (arith, down_le (o.0 + n) s.align.zero, k.middles.sums.end)))
  zero_by_lem t (Err r) e = tt

  pub zero_opens : (t : Bool) (x : State) → zero_plan s t o n ≡ (Ok (Some x)) → Opens s (zero_job t) (asked o n) x
  unfolding zero_plan
  zero_opens t x e = rw e at (zero_by_lem t (zero_cut_of s.align o n) refl)

  discard_by_lem : (x : Result (Option Range) Refusal) → discard_cut_of s.align o n ≡ x
      → Starts (Opens s Discard (asked o n)) (discard_by o n x)
  unfolding cut_of has_middle
  discard_by_lem (Ok None) e = tt
  discard_by_lem (Ok (Some r)) e =
      let k = discards s.align o n r e in
      let l = ltb-true (middle_start s.align.discard o.0) (middle_end s.align.discard o.0 n) k.middles.some in
      rw k.is (opens_direct s Discard (asked o n) _ _ (cut_of s.align.discard o.0 n).middle DiscardRequest refl never
      (omega (arith, l)) (omega (arith, down_le (o.0 + n) s.align.discard, k.middles.sums.end)))
  discard_by_lem (Err r) e = tt

  pub discard_opens : (x : State) → discard_plan s o n ≡ (Ok (Some x)) → Opens s Discard (asked o n) x
  unfolding discard_plan
  discard_opens x e = rw e at (discard_by_lem (discard_cut_of s.align o n) refl)

-- ---- a told code

-- the stage goes on, in another phase
pub record Continues (n : ℕ) (x y : State) : Type 0 where
  pub sound : is_sound n x ≡ true → is_sound n y ≡ true
  pub pending : is_pending y.phase ≡ true
  pub answer : y.answer ≡ x.answer
  pub job : y.job ≡ x.job
  pub range : y.range ≡ x.range
  pub middle : y.middle ≡ x.middle
  pub course : y.course ≡ x.course
  pub stage : y.stage ≡ x.stage

-- the job has ended
pub record Finishes (x y : State) : Type 0 where
  pub phase : y.phase ≡ Ended
  pub job : y.job ≡ x.job
  pub range : y.range ≡ x.range
  pub stage : y.stage ≡ x.stage

abbrev Steps : Settings → State → Step → Type 0
Steps s x (Stays y) = Continues s.bounce x y
Steps s x (Ends y) = Finishes x y
Steps s x (Enters y) = Opens s x.job x.range y

-- the chunk at o
abbrev chunk_at : Settings → State → StoreOffset → Range
chunk_at s x o = range_of o.0 (o.0 + chunk_length s.align.req s.bounce o.0 (x.range.end.0 - o.0))

module _ (s : Settings) (x : State) where
  finishes : (a : ℕ) → Finishes x (ended_with a x)
  finishes a = record { phase = refl; job = refl; range = refl; stage = refl }

  continues : (ph : Phase) → uses_bounce x.phase ≡ true → is_pending ph ≡ true → Continues s.bounce x (in_phase ph x)
  continues ph u e = record {
    sound = λ k. stage_sound s.bounce (in_phase ph x) (λ v. sound_stage s.bounce x k u);
    pending = e;
    answer = refl;
    job = refl;
    range = refl;
    middle = refl;
    course = refl;
    stage = refl;
  }

  later_steps : (p : Result (Option State) Refusal) → Starts (Opens s x.job x.range) p → Steps s x (later_stage x p)
  later_steps (Ok None) k = finishes 0
  later_steps (Ok (Some y)) k = k
  later_steps (Err r) k = finishes (number_of r)

  zeroes_steps : (c : Course) (r : Range) → 0 < size_of r → Steps s x (zeroes_next s x c r)
  zeroes_steps c r p = later_steps (zeroes_plan s x.job x.range x.middle c r) (zeroes_start s x.job x.range x.middle c r p)

  steps_some : (r : Range) (a b : Step) → (0 < size_of r → Steps s x a) → Steps s x b → Steps s x (pick (ltb 0 (size_of r)) a b)
  steps_some r a b f k = go (ltb 0 (size_of r)) refl
    where
      go : (t : Bool) → ltb 0 (size_of r) ≡ t → Steps s x (pick t a b)
      go true e = f (ltb-true _ _ e)
      go false e = k

  tail_steps : Steps s x (tail_next s x)
  unfolding tail_next
  tail_steps =
      let r : Range = record { start = x.middle.end; end = x.range.end } in
      steps_some r (zeroes_next s x Last r) (Ends (ended_with 0 x)) (zeroes_steps Last r) (finishes 0)

  head_steps : Steps s x (head_next s x)
  unfolding head_next
  head_steps =
      let r : Range = record { start = x.range.start; end = x.middle.start } in
      steps_some r (zeroes_next s x Head r) (tail_next s x) (zeroes_steps Head r) tail_steps

  chunk_steps : (o : StoreOffset) → Steps s x (chunk_next s x o)
  unfolding chunk_next chunk_of
  chunk_steps o = go (settings_fit s) (ltb o.0 x.range.end.0) refl refl
    where
      go : (f g : Bool) → settings_fit s ≡ f → ltb o.0 x.range.end.0 ≡ g
          → Steps s x (chunk_by s x (pick f (pick g (Ok (Some (chunk_at s x o))) (Ok None)) (Err Unfit)))
      go true true p q =
          let k = accepted s p in
          let l = ltb-true o.0 x.range.end.0 q in
          zeroes_steps Chunks (chunk_at s x o)
          (omega (
            arith,
            chunk_some s.align.req s.bounce o.0 (x.range.end.0 - o.0) k.align.req.positive k.positive
                (omega (arith, l)),
          ))
      go true false p q = finishes 0
      go false g p q = finishes (number_of Unfit)

  done_steps : (c : Course) → Steps s x (stage_done c s x)
  done_steps Last = finishes 0
  done_steps Middle = head_steps
  done_steps Head = tail_steps
  done_steps Chunks = chunk_steps x.stage.asked.end

  second_pending : (t : Bool) → is_pending (pick t SecondRead BouncedWrite) ≡ true
  second_pending true = refl
  second_pending false = refl

  done_by : (ph : Phase) → x.phase ≡ ph → Steps s x (done_next ph s x)
  done_by Free e = finishes 0
  done_by Ended e = finishes 0
  done_by DirectRead e = finishes 0
  done_by BouncedRead e = finishes 0
  done_by FirstRead e = continues (pick (ltb 0 (size_of x.stage.second)) SecondRead BouncedWrite) (ap uses_bounce e)
      (second_pending (ltb 0 (size_of x.stage.second)))
  done_by SecondRead e = continues BouncedWrite (ap uses_bounce e) refl
  done_by BouncedWrite e = done_steps x.course
  done_by DirectWrite e = finishes 0
  done_by ZeroRequest e = done_steps x.course
  done_by DiscardRequest e = finishes 0

  unsupported_by : (ph : Phase) → Steps s x (unsupported_next ph s x)
  unsupported_by ZeroRequest = chunk_steps x.range.start
  unsupported_by DiscardRequest = finishes 0
  unsupported_by Free = finishes 1
  unsupported_by Ended = finishes 1
  unsupported_by DirectRead = finishes 1
  unsupported_by BouncedRead = finishes 1
  unsupported_by FirstRead = finishes 1
  unsupported_by SecondRead = finishes 1
  unsupported_by BouncedWrite = finishes 1
  unsupported_by DirectWrite = finishes 1

  told_steps : (code : ℕ) → Steps s x (told_of s x code)
  unfolding told_of
  told_steps code = go (eqb code 0) (eqb code 1)
    where
      go : (a b : Bool) → Steps s x (pick a (done_next x.phase s x) (pick b (unsupported_next x.phase s x) (Ends (ended_with code x))))
      go true b = done_by x.phase refl
      go false true = unsupported_by x.phase
      go false false = finishes code

  pub told_stays : (code : ℕ) (y : State) → told_of s x code ≡ Stays y → Continues s.bounce x y
  told_stays code y e = rw e at (told_steps code)

  pub told_ends : (code : ℕ) (y : State) → told_of s x code ≡ Ends y → Finishes x y
  told_ends code y e = rw e at (told_steps code)

  pub told_enters : (code : ℕ) (y : State) → told_of s x code ≡ Enters y → Opens s x.job x.range y
  told_enters code y e = rw e at (told_steps code)

  -- a read ends with the code that it is told
  pub read_ends : (code : ℕ) → (x.phase ≡ DirectRead) ⊎ (x.phase ≡ BouncedRead) → told_of s x code ≡ Ends (ended_with code x)
  unfolding told_of
  read_ends code h = elim (ℕ_discrete code 0) [
    | yes z ↦ rw z (⊎_elim (λ e. rw e) (λ e. rw e) h)
    | no z ↦
        elim (ℕ_discrete code 1) [
          | yes w ↦ rw w (⊎_elim (λ e. rw e) (λ e. rw e) h)
          | no w ↦ simp (ne_eqb code 0 z, ne_eqb code 1 w)
        ]
  ]

-- ---- "206: padded length over the share": not met by a zero job, since the share is at least 2Z + 2L

-- what a plan is refused for
abbrev Refuses : Result (Option State) Refusal → Type 0
Refuses (Ok None) = Unit {0}
Refuses (Ok (Some x)) = Unit {0}
Refuses (Err r) = r ≡ Overflow

refused_for : (p : Result (Option State) Refusal) (r : Refusal) → Refuses p → p ≡ Err r → r ≡ Overflow
refused_for p r k e = rw e at k

module _ (s : Settings) (fit : settings_fit s ≡ true) (j : Job) (w m : Range) (c : Course) where
  abbrev R : ℕ
  R = s.align.req

  abbrev L : ℕ
  L = length_align s.align

  -- a write whose padded length fits
  short_by : (r : Range) → padded_length R L r.start.0 (size_of r) ≤ s.bounce → Refuses (zeroes_plan s j w m c r)
  unfolding zeroes_plan transfer_of padded_of span_of settings_fit
  short_by r h =
      let k = accepted s fit in
      let n = size_of r in
      let a : alignments_fit s.align ≡ true = and_left (alignments_fit s.align) (bounce_fits s.align s.bounce) fit in
      let q : size_of r ≤ s.bounce = omega (
        arith,
        h,
        end_ge R L r.start.0 n k.align.req.positive k.align.positive
            k.align.of_req,
        start_le R L r.start.0 n k.align.req.positive k.align.positive k.align.of_req,
      ) in
      simp a (go q (fits (r.start.0 + n)) (is_direct R r.start.0 n (is_multiple n L)) (padding_fits R L r.start.0 n))
    where
      go : size_of r ≤ s.bounce → (x y z : Bool)
          → Refuses (zeroes_by s j w m c r (pick x (pick y (Ok (Direct (range_of r.start.0 (r.start.0 + size_of r))))
          (bounced (pick z (Ok (span_of R L r.start.0 (size_of r))) (Err Overflow)))) (Err Overflow)))
      go q true true z = simp (le-leb (size_of r) s.bounce q) tt
      go q true false true = simp (le-leb (padded_length R L r.start.0 (size_of r)) s.bounce h) tt
      go q true false false = refl
      go q false y z = refl

  -- the head, the tail, the whole of a range without a middle, a chunk
  abbrev Z : ℕ
  Z = s.align.zero

  pub head_refused : (o : ℕ) (r : Refusal) → zeroes_plan s j w m c (range_of o (middle_start Z o)) ≡ Err r → r ≡ Overflow
  head_refused o r e = refused_for (zeroes_plan s j w m c (range_of o (middle_start Z o))) r
      (short_by (range_of o (middle_start Z o)) (head_pads s (accepted s fit) o)) e

  pub tail_refused : (o n : ℕ) (r : Refusal) → zeroes_plan s j w m c (range_of (middle_end Z o n) (o + n)) ≡ Err r → r ≡ Overflow
  tail_refused o n r e =
      refused_for (zeroes_plan s j w m c (range_of (middle_end Z o n) (o + n))) r
      (short_by (range_of (middle_end Z o n) (o + n)) (tail_pads s (accepted s fit) o n)) e

  whole_short : (o n : ℕ) → has_middle Z o n ≡ false → Refuses (zeroes_plan s j w m c (range_of o (o + n)))
  whole_short o n h =
      let z : n ≡ o + n - o = omega arith in
      short_by (range_of o (o + n)) (subst (λ (k : ℕ). padded_length R L o k ≤ s.bounce) z (whole_pads s (accepted s fit) o n h))

  pub whole_refused : (o n : ℕ) → has_middle Z o n ≡ false → (r : Refusal) → zeroes_plan s j w m c (range_of o (o + n)) ≡ Err r
      → r ≡ Overflow
  whole_refused o n h r e = refused_for (zeroes_plan s j w m c (range_of o (o + n))) r (whole_short o n h) e

  pub chunk_refused : (o n : ℕ) (r : Refusal) → zeroes_plan s j w m c (range_of o (o + chunk_length R s.bounce o n)) ≡ Err r
      → r ≡ Overflow
  chunk_refused o n r e =
      let k = chunk_length R s.bounce o n in
      let z : k ≡ o + k - o = omega arith in
      refused_for (zeroes_plan s j w m c (range_of o (o + k))) r
      (short_by (range_of o (o + k)) (subst (λ (i : ℕ). padded_length R L o i ≤ s.bounce) z (chunk_pads s (accepted s fit) o n))) e

-- what the begin of a zero job is refused for
module _ (s : Settings) (fit : settings_fit s ≡ true) (t : Bool) (o : StoreOffset) (n : ℕ) where
  cut_refused : (r : Refusal) → zero_cut_of s.align o n ≡ Err r → r ≡ Overflow
  unfolding zero_cut_of settings_fit
  cut_refused r e =
      let a : alignments_fit s.align ≡ true = and_left (alignments_fit s.align) (bounce_fits s.align s.bounce) fit in
      go (eqb n 0) (cut_fits s.align.zero o.0 n) (has_middle s.align.zero o.0 n) (simp a at e)
    where
      go : (y z w : Bool)
          → pick y (Ok NoCut) (pick z (pick w (Ok (Split (cut_of s.align.zero o.0 n))) (Ok (Whole (range_of o.0 (o.0 + n)))))
          (Err Overflow)) ≡ Err r → r ≡ Overflow
      go true z w e = let z : ◌≡◌ {A = ℕ} 0 1 = cc in absurd (omega arith)
      go false true true e = let z : ◌≡◌ {A = ℕ} 0 1 = cc in absurd (omega arith)
      go false true false e = let z : ◌≡◌ {A = ℕ} 0 1 = cc in absurd (omega arith)
      go false false w e = cc

  cut_by : (x : Result ZeroCut Refusal) → zero_cut_of s.align o n ≡ x → Refuses (zero_by s (zero_job t) o n x)
  cut_by (Ok NoCut) e = tt
  cut_by (Ok (Whole r)) e =
      let k = wholes s.align o n r e in
      rw k.is (whole_short s fit (zero_job t) (range_of o.0 (o.0 + n)) (range_of 0 0) Last o.0 n k.none)
  cut_by (Ok (Split c)) e = tt
  cut_by (Err r) e = cut_refused r e

  pub zero_refused : (r : Refusal) → zero_plan s t o n ≡ Err r → r ≡ Overflow
  unfolding zero_plan
  zero_refused r e = refused_for (zero_plan s t o n) r (cut_by (zero_cut_of s.align o n) refl) e
