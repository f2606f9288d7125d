-- Where the bytes of a stage lie: every byte of a padded range beside the asked one is read, a stage as it opens has read nothing, and what its asked range is of the job's. Assumes nothing.
use Rattle.std.specs.Prelude.{Result, Ok, Err, Option, Some, None}
use mathlib.Core.Path.{◌≡◌, refl, sym}
use mathlib.Core.Bool.{Bool, true, false}
use mathlib.Core.Logic.{◌⊎◌, inl, inr, ⊎_elim}
use Prim.Native.Nat.{ℕ, ◌+◌, ◌-◌, ◌<◌, ◌≤◌}
use native.Mathlib.Omega.{arith}
use native.Mathlib.Decide.{dec_lt}
use lib.Dec.{ltb, eqb}
use borrow.Author.Tests.{ltb-true, ltb-false, eqb-true, eqb-false}
use Rattle.arithmetic.specs.Rounding.{pick, is_multiple}
use Rattle.arithmetic.specs.RoundingLaws.{up_ge}
use Rattle.arithmetic.specs.Offsets.{range_of}
use Rattle.arithmetic.specs.Settings.{settings_fit, length_align}
use Rattle.arithmetic.specs.SettingsLaws.{accepted}
use Rattle.arithmetic.specs.Padding.{transfer_of, reads_of}
use Rattle.arithmetic.specs.PaddingLaws.{Spans, Transfers, transfers}
use Rattle.arithmetic.specs.Zeroes.{middle_start, middle_end, has_middle, cut_of, zero_cut_of, discard_cut_of}
use Rattle.arithmetic.specs.ZeroesLaws.{tiled}
use Rattle.arithmetic.specs.declared.offsets.StoreOffset.{StoreOffset}
use Rattle.arithmetic.specs.declared.offsets.Range.{Range}
use Rattle.arithmetic.specs.declared.settings.Alignments.{Alignments}
use Rattle.arithmetic.specs.declared.settings.Settings.{Settings}
use Rattle.arithmetic.specs.declared.padding.Span.{Span}
use Rattle.arithmetic.specs.declared.padding.Reads.TheVariants.{Nothing as NoReads, Whole as ReadWhole, Head as ReadHead, Tail as ReadTail, HeadThenTail}
use Rattle.arithmetic.specs.declared.padding.Transfer.{Transfer}
use Rattle.arithmetic.specs.declared.padding.Transfer.TheVariants.{Direct, Bounced}
use Rattle.arithmetic.specs.declared.zeroes.ZeroCut.{ZeroCut}
use Rattle.arithmetic.specs.declared.zeroes.ZeroCut.TheVariants.{Nothing as NoCut, Whole, Split}
use Rattle.stages.specs.Stages.{size_of, direct_stage, first_of, second_of, padded_stage, first_phase, asked, bounced_phase, vector_by, read_plan, write_plan, zeroes_by, zeroes_plan, zero_job, zero_by, zero_plan, discard_by, discard_plan, second_at}
use Rattle.stages.specs.Laws.{Starts, starts_within, starts_some, never}
use Rattle.stages.specs.Transfers.{splits}
use Rattle.stages.specs.declared.state.Job.{Job}
use Rattle.stages.specs.declared.state.Job.TheVariants.{Read, Write, Zeroes, AllocatedZeroes, Discard}
use Rattle.stages.specs.declared.state.Phase.{Phase}
use Rattle.stages.specs.declared.state.Phase.TheVariants.{Free, Ended, DirectRead, BouncedRead, FirstRead, SecondRead, BouncedWrite, DirectWrite, ZeroRequest, DiscardRequest}
use Rattle.stages.specs.declared.state.Course.{Course}
use Rattle.stages.specs.declared.state.Course.TheVariants.{Last, Middle, Head, Chunks}
use Rattle.stages.specs.declared.state.Stage.{Stage}
use Rattle.stages.specs.declared.state.State.{State}
use Rattle.theorem_lists.specs.Courses.{is_discard_job}
use Rattle.arithmetic.specs.declared.refusals.Refusal.{Refusal}

-- ---- what is read of a padded range

-- byte i of the request's range lies outside the asked one
abbrev pub Beside : Stage → ℕ → Type 0
Beside g i = g.head.0 ≤ i → i < g.head.0 + size_of g.asked → ⊥

-- it is read: by the first read, or by the second
abbrev pub ReadBy : Stage → ℕ → Type 0
ReadBy g i = (i < size_of g.first) ⊎ ((0 < size_of g.second) × (second_at g ≤ i))

pub record Geo (g : Stage) : Type 0 where
  -- "a read of the first H bytes [..], then of the last T": every byte beside the asked ones is read
  pub cover : (i : ℕ) → i < size_of g.request → Beside g i → ReadBy g i
  -- a stage with a weak blocker has no padding
  pub weak : g.strong ≡ false → (g.head.0 ≡ 0) × (size_of g.asked ≡ size_of g.request) × (size_of g.first ≡ 0) × (size_of g.second ≡ 0)

pub geo_direct : (r : Range) → Geo (direct_stage r)
unfolding direct_stage
geo_direct r = record { cover = λ i h f. absurd (f (omega arith) (omega arith)); weak = λ e. (refl, refl, refl, refl) }

some_of : (n : ℕ) → eqb n 0 ≡ false → 0 < n
some_of n e = let h = eqb-false n 0 e in omega (arith, h)

-- the last b bytes of the l that end at e
tail_some : (e b : ℕ) → 0 < b → b ≤ e → 0 < e - (e - b)
tail_some e b h k = omega arith

tail_at : (e o l b n i : ℕ) → e ≡ o + l → b ≤ l → e ≤ o + n + b → n ≤ i → e - b - o ≤ i
tail_at e o l b n i p q t h = omega arith

module _ (x : Span) (r : Range) (starts : x.start.0 + x.head.0 ≡ r.start.0) (ends : x.end.0 ≡ x.start.0 + x.length) (holds : x.head.0 + size_of r ≤ x.length)
    (head-le : x.head.0 ≤ x.prefix) (tail-le : x.end.0 - (r.start.0 + size_of r) ≤ x.suffix) (prefix_le : x.prefix ≤ x.length) (suffix_le : x.suffix ≤ x.length) where
  -- where byte i stands: before the asked ones, or behind them
  sides : (i : ℕ) → (x.head.0 ≤ i → i < x.head.0 + size_of r → ⊥) → (i < x.head.0) ⊎ (x.head.0 + size_of r ≤ i)
  sides i f = elim (dec_lt i x.head.0) [
    | yes h ↦ inl h
    | no h ↦ elim (dec_lt i (x.head.0 + size_of r)) [
      | yes k ↦ absurd (f (omega arith) k)
      | no k ↦ inr (omega arith)
    ]
  ]

  padded_cover : (i : ℕ) → i < size_of (padded_stage x r).request → Beside (padded_stage x r) i → ReadBy (padded_stage x r) i
  unfolding padded_stage reads_of
  padded_cover i h f =
      go (eqb (x.prefix + x.suffix) x.length) (eqb x.prefix 0) (eqb x.suffix 0) refl refl (sides i f)
    where
      tail : x.head.0 + size_of r ≤ i → eqb x.suffix 0 ≡ false → (0 < x.end.0 - (x.end.0 - x.suffix)) × (x.end.0 - x.suffix - x.start.0 ≤ i)
      tail k d = (tail_some x.end.0 x.suffix (some_of x.suffix d) (omega arith), tail_at x.end.0 x.start.0 x.length x.suffix (x.head.0 + size_of r) i ends suffix_le (omega arith) k)

      go : (a b c : Bool) → eqb x.prefix 0 ≡ b → eqb x.suffix 0 ≡ c → (i < x.head.0) ⊎ (x.head.0 + size_of r ≤ i)
          → let k = pick a ReadWhole (pick b (pick c NoReads (ReadTail x.suffix)) (pick c (ReadHead x.prefix) (HeadThenTail x.prefix x.suffix))) in
          (i < size_of (first_of x k)) ⊎ ((0 < size_of (second_of x k)) × ((second_of x k).start.0 - x.start.0 ≤ i))
      go true b c e d s = inl (omega arith)
      go false true true e d s = let p = eqb-true x.prefix 0 e in let q = eqb-true x.suffix 0 d in ⊎_elim (λ k. absurd (omega arith)) (λ k. absurd (omega arith)) s
      go false true false e d s = let p = eqb-true x.prefix 0 e in ⊎_elim (λ k. absurd (omega arith)) (λ k. inr (tail k d)) s
      go false false true e d s = let q = eqb-true x.suffix 0 d in ⊎_elim (λ k. inl (omega arith)) (λ k. absurd (omega arith)) s
      go false false false e d s = ⊎_elim (λ k. inl (omega arith)) (λ k. inr (tail k d)) s

geo_padded : (a : Alignments) (n : ℕ) (x : Span) (r : Range) → 0 < length_align a → Spans a r.start.0 n x → size_of r ≡ n → Geo (padded_stage x r)
unfolding padded_stage
geo_padded a n x r pos k e =
    let l = length_align a in
    record {
      cover =
          padded_cover x r k.from k.end (omega (arith, k.holds)) (omega (arith, k.prefix_is, up_ge x.head.0 l pos))
          (omega (arith, k.suffix_is, up_ge (x.end.0 - (r.start.0 + n)) l pos)) k.prefix_le k.suffix_le;
      weak = λ f. never (sym f);
    }

-- ---- a stage as it opens

-- what has been read before the stage's first request: nothing
abbrev pub Unread : Phase → Stage → Type 0
Unread Free g = Unit {0}
Unread Ended g = Unit {0}
Unread DirectRead g = Unit {0}
Unread BouncedRead g = Unit {0}
Unread FirstRead g = Unit {0}
Unread SecondRead g = size_of g.first ≡ 0
Unread BouncedWrite g = (size_of g.first ≡ 0) × (size_of g.second ≡ 0)
Unread DirectWrite g = Unit {0}
Unread ZeroRequest g = Unit {0}
Unread DiscardRequest g = Unit {0}

-- a request that goes to the store as it is has the asked range
abbrev pub AsAsked : Phase → Stage → Type 0
AsAsked Free g = Unit {0}
AsAsked Ended g = Unit {0}
AsAsked DirectRead g = g.asked ≡ g.request
AsAsked BouncedRead g = Unit {0}
AsAsked FirstRead g = Unit {0}
AsAsked SecondRead g = Unit {0}
AsAsked BouncedWrite g = Unit {0}
AsAsked DirectWrite g = g.asked ≡ g.request
AsAsked ZeroRequest g = g.asked ≡ g.request
AsAsked DiscardRequest g = g.asked ≡ g.request

first_as_asked : (g : Stage) → AsAsked (first_phase g) g
unfolding first_phase
first_as_asked g = go (ltb 0 (size_of g.first)) (ltb 0 (size_of g.second))
  where
    go : (a b : Bool) → AsAsked (pick a FirstRead (pick b SecondRead BouncedWrite)) g
    go true b = tt
    go false true = tt
    go false false = tt

first_unread : (g : Stage) → Unread (first_phase g) g
unfolding first_phase
first_unread g = go (ltb 0 (size_of g.first)) (ltb 0 (size_of g.second)) refl refl
  where
    go : (a b : Bool) → ltb 0 (size_of g.first) ≡ a → ltb 0 (size_of g.second) ≡ b → Unread (pick a FirstRead (pick b SecondRead BouncedWrite)) g
    go true b e f = tt
    go false true e f = let h = ltb-false 0 (size_of g.first) e in omega (arith, h)
    go false false e f = let h = ltb-false 0 (size_of g.first) e in let k = ltb-false 0 (size_of g.second) f in (omega (arith, h), omega (arith, k))

-- the asked range of a stage in the job's range, by the stage's course; a discard's is its request's alone
abbrev pub Zone : Course → Range → Range → Range → Type 0
Zone Last a r m = (r.start.0 ≤ a.start.0) × (a.end.0 ≡ r.end.0)
Zone Middle a r m = (a ≡ m) × (r.start.0 ≤ m.start.0) × (m.start.0 ≤ m.end.0) × (m.end.0 ≤ r.end.0)
Zone Head a r m = (a.start.0 ≡ r.start.0) × (a.end.0 ≡ m.start.0) × (m.start.0 ≤ m.end.0) × (m.end.0 ≤ r.end.0)
Zone Chunks a r m = (r.start.0 ≤ a.start.0) × (a.end.0 ≤ r.end.0)

abbrev pub Zoned : State → Type 0
Zoned x = is_discard_job x.job ≡ false → Zone x.course x.stage.asked x.range x.middle

pub record Shaped (x : State) : Type 0 where
  pub geo : Geo x.stage
  pub unread : Unread x.phase x.stage
  pub as_asked : AsAsked x.phase x.stage
  pub zoned : Zoned x

module _ (s : Settings) (fit : settings_fit s ≡ true) where
  positive : 0 < length_align s.align
  positive = (accepted s fit).align.positive

  bounced_unread : (j : Job) (g : Stage) → Unread (bounced_phase j g) g
  bounced_unread Read g = tt
  bounced_unread Write g = first_unread g
  bounced_unread Zeroes g = first_unread g
  bounced_unread AllocatedZeroes g = first_unread g
  bounced_unread Discard g = first_unread g

  bounced_as_asked : (j : Job) (g : Stage) → AsAsked (bounced_phase j g) g
  bounced_as_asked Read g = tt
  bounced_as_asked Write g = first_as_asked g
  bounced_as_asked Zeroes g = first_as_asked g
  bounced_as_asked AllocatedZeroes g = first_as_asked g
  bounced_as_asked Discard g = first_as_asked g

  -- a job over a vector, direct in the phase ph
  vector_by_lem : (j : Job) (ph : Phase) → ((g : Stage) → Unread ph g) → ((g : Stage) → g.asked ≡ g.request → AsAsked ph g) → (o : StoreOffset) (n : ℕ) (x : Result Transfer Refusal) → Transfers s.align o.0 n x → Starts Shaped (vector_by s j ph o n x)
  unfolding Transfers direct_stage padded_stage
  vector_by_lem j ph u a o n (Ok (Direct r)) k = record { geo = geo_direct r; unread = u (direct_stage r); as_asked = a (direct_stage r) refl; zoned = λ d. (omega arith, refl) }
  vector_by_lem j ph u a o n (Ok (Bounced x)) k =
      starts_within Shaped x.length s.bounce _ (λ h.
      record {
        geo = geo_padded s.align n x (asked o n) positive k (omega arith);
        unread = bounced_unread j (padded_stage x (asked o n));
        as_asked = bounced_as_asked j (padded_stage x (asked o n));
        zoned = λ d. (omega arith, refl);
      })
  vector_by_lem j ph u a o n (Err r) k = tt

  pub read_shaped : (o : StoreOffset) (n : ℕ) (t : Bool) → Starts Shaped (read_plan s o n t)
  unfolding read_plan
  read_shaped o n t = starts_some Shaped n _ (λ p. vector_by_lem Read DirectRead (λ g. tt) (λ g e. e) o n (transfer_of s.align o n t) (transfers s.align o n t))

  pub write_shaped : (o : StoreOffset) (n : ℕ) (t : Bool) → Starts Shaped (write_plan s o n t)
  unfolding write_plan
  write_shaped o n t = starts_some Shaped n _ (λ p. vector_by_lem Write DirectWrite (λ g. tt) (λ g e. e) o n (transfer_of s.align o n t) (transfers s.align o n t))

  -- a write of zeroes over r, where r stands so in the job's range w
  module _ (j : Job) (w m : Range) (c : Course) (r : Range) (z : Zone c r w m) where
    zeroes_by_lem : (x : Result Transfer Refusal) → Transfers s.align r.start.0 (size_of r) x → Starts Shaped (zeroes_by s j w m c r x)
    unfolding Transfers direct_stage padded_stage
    zeroes_by_lem (Ok (Direct x)) k = starts_within Shaped (size_of r) s.bounce _ (λ h. record { geo = geo_direct r; unread = (refl, refl); as_asked = tt; zoned = λ d. z })
    zeroes_by_lem (Ok (Bounced x)) k =
        starts_within Shaped x.length s.bounce _ (λ h.
        record { geo = geo_padded s.align (size_of r) x r positive k refl; unread = first_unread (padded_stage x r); as_asked = first_as_asked (padded_stage x r); zoned = λ d. z })
    zeroes_by_lem (Err x) k = tt

    pub zeroes_shaped : Starts Shaped (zeroes_plan s j w m c r)
    unfolding zeroes_plan
    zeroes_shaped = zeroes_by_lem (transfer_of s.align r.start (size_of r) (is_multiple (size_of r) (length_align s.align))) (transfers s.align r.start (size_of r) _)

  zero_by_lem : (t : Bool) (o : StoreOffset) (n : ℕ) (x : Result ZeroCut Refusal) → zero_cut_of s.align o n ≡ x → Starts Shaped (zero_by s (zero_job t) o n x)
  unfolding cut_of has_middle direct_stage
  zero_by_lem t o n (Ok NoCut) e = tt
  zero_by_lem t o n (Ok (Whole r)) e = zeroes_shaped (zero_job t) r (range_of 0 0) Last r (omega arith, refl)
  zero_by_lem t o n (Ok (Split c)) e =
      let k = splits s.align o n c e in
      let l = ltb-true (middle_start s.align.zero o.0) (middle_end s.align.zero o.0 n) k.middles.some in
      let q = tiled s.align.zero o.0 n (accepted s fit).align.zero.positive in
      rw k.is (record { geo = geo_direct (cut_of s.align.zero o.0 n).middle; unread = tt; as_asked = refl; zoned = λ d. (refl, q.head_ordered, omega (arith, l), q.tail_ordered) })
  zero_by_lem t o n (Err r) e = tt

  pub zero_shaped : (t : Bool) (o : StoreOffset) (n : ℕ) → Starts Shaped (zero_plan s t o n)
  unfolding zero_plan
  zero_shaped t o n = zero_by_lem t o n (zero_cut_of s.align o n) refl

  direct_asked : (r : Range) → (direct_stage r).asked ≡ (direct_stage r).request
  unfolding direct_stage
  direct_asked r = refl

  discard_by_lem : (o : StoreOffset) (n : ℕ) (x : Result (Option Range) Refusal) → Starts Shaped (discard_by o n x)
  discard_by_lem o n (Ok None) = tt
  discard_by_lem o n (Ok (Some r)) = record { geo = geo_direct r; unread = tt; as_asked = direct_asked r; zoned = λ d. never (sym d) }
  discard_by_lem o n (Err r) = tt

  pub discard_shaped : (o : StoreOffset) (n : ℕ) → Starts Shaped (discard_plan s o n)
  unfolding discard_plan
  discard_shaped o n = discard_by_lem o n (discard_cut_of s.align o n)
