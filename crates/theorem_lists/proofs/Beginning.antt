-- A begin that gets a slot keeps the invariant: the new job's bytes are those of the rules, and the others are left as they are. Assumes nothing.
use Rattle.std.specs.Prelude.{Option, Some, None}
use Rattle.std.specs.Prelude.{Ok}
use mathlib.Core.Path.{◌≡◌, refl, sym, ap, ◌∙◌}
use mathlib.Core.Bool.{Bool, true, false, ◌&&◌, ◌||◌, not}
use mathlib.Core.Logic.{◌⊎◌, inr, ⊎_elim, ◌≢◌}
use mathlib.Core.List.{List, []}
use Prim.Native.Nat.{ℕ, ◌+◌, ◌-◌, ◌*◌, ◌<◌, ◌≤◌}
use native.Mathlib.Omega.{arith}
use lib.Dec.{eqb}
use lib.ListN.{length, get_or, replicate, length-replicate, get_or-replicate}
use lib.Seq.{get_or-set_same, get_or-set_other}
use borrow.Author.Tests.{eqb-true}
use Rattle.arithmetic.specs.Rounding.{pick}
use Rattle.arithmetic.specs.Loops.{any_below, any_here}
use Rattle.arithmetic.specs.SettingsLaws.{and_left, and_right}
use Rattle.arithmetic.specs.Content.{Bytes}
use Rattle.vectors.specs.Vectors.{segments_of, bytes_of, overlap_of, self_overlap_of, is_valid, copies, put}
use Rattle.vectors.specs.ByteLaws.{bytes_length}
use Rattle.vectors.specs.SegmentLaws.{valid}
use Rattle.vectors.specs.OverlapLaws.{or_left, or_right, or_cases}
use Rattle.vectors.specs.declared.vector.IoVector.{IoVector}
use Rattle.blockers.specs.Blockers.{waits_of}
use Rattle.stages.specs.Stages.{size_of, is_free, is_pending, uses_bounce}
use Rattle.stages.specs.declared.state.Job.{Job}
use Rattle.stages.specs.declared.state.Job.TheVariants.{Read, Write, Zeroes, AllocatedZeroes, Discard}
use Rattle.stages.specs.declared.state.Phase.{Phase}
use Rattle.stages.specs.declared.state.Phase.TheVariants.{Free, Ended, DirectRead, BouncedRead, FirstRead, SecondRead, BouncedWrite, DirectWrite, ZeroRequest, DiscardRequest}
use Rattle.stages.specs.declared.state.Course.{Course}
use Rattle.stages.specs.declared.state.Course.TheVariants.{Last, Middle, Head, Chunks}
use Rattle.stages.specs.declared.state.State.{State}
use Rattle.dock.specs.Dock.{no_state, no_vector, state_at, vector_at, is_read_job, meets_of, meets_at, overlaps_of, first_free}
use Rattle.dock.specs.Begin.{is_write_job, is_bounced_write, source_of, source_fits, merged_at, filled}
use Rattle.dock.specs.SlotLaws.{lowest_free, writes_use}
use Rattle.dock.specs.declared.dock.Dock.{Dock}
use Rattle.dock.specs.declared.begin.Asked.{Asked}
use Rattle.stages.specs.Laws.{never}
use Rattle.theorem_lists.specs.Courses.{is_zero_job, bounces, is_regular, suited}
use Rattle.theorem_lists.specs.Calls.{Ready, free_idle, write_vector, copied, admitted, free_there, admit_held}
use Rattle.theorem_lists.specs.MadeLaws.{data_long}
use Rattle.theorem_lists.specs.PlainStore.{Tracked, Plain, new_bytes, put_job}
use Rattle.theorem_lists.specs.Histories.{World, called}
use Rattle.theorem_lists.proofs.Lists.{share_put_length, share_put_other, share_put_on}
use Rattle.theorem_lists.proofs.Geometry.{Geo, Unread, Shaped}
use Rattle.theorem_lists.proofs.Progress.{Before}
use Rattle.theorem_lists.proofs.Invariant.{share, Fact, AskedFor, Flight, within, no_padding}
use Rattle.theorem_lists.proofs.World.{Taken, SlotInv, Inv, room, enter_waits}
use Rattle.theorem_lists.proofs.Renewing.{set_same, set_other, renewed_inv}

-- ---- what is filled in

-- the n bytes that a job writes, at its asked range: what the plain byte store has as its new bytes
pub source_bytes : (j : Job) (v : IoVector) (n o : ℕ) (memory bs : List ℕ) → (is_write_job j ≡ true → bytes_of memory (segments_of v) ≡ bs) → is_write_job j ≡ true ⊎ is_zero_job j ≡ true
    → (i : ℕ) → i < n → get_or (source_of j v n memory) i 0 ≡ new_bytes j o bs (o + i)
unfolding source_of
source_bytes Write v n o memory bs f k i h = let e : o + i - o ≡ i = omega arith in rw (f refl, e)
source_bytes Zeroes v n o memory bs f k i h = get_or-replicate n i 0 0 h
source_bytes AllocatedZeroes v n o memory bs f k i h = get_or-replicate n i 0 0 h
source_bytes Read v n o memory bs f k i h = ⊎_elim never never k
source_bytes Discard v n o memory bs f k i h = ⊎_elim never never k

-- they are n
pub source_long : (j : Job) (v : IoVector) (n : ℕ) (memory : List ℕ) → (is_write_job j ≡ true → copies memory v n ≡ true) → length (source_of j v n memory) ≡ n
unfolding source_of copies
source_long j v n memory f = go (is_write_job j) f
  where
    go : (t : Bool) → (t ≡ true → (is_valid (length memory) v && eqb n v.total) ≡ true) → length (pick t (bytes_of memory (segments_of v)) (replicate n 0)) ≡ n
    go true f =
        let k = valid (length memory) v (and_left _ _ (f refl)) in
        bytes_length memory (segments_of v) k.fit.lie ∙ sym k.total ∙ sym (eqb-true n v.total (and_right (is_valid (length memory) v) _ (f refl)))
    go false f = length-replicate n 0

-- the scratch after it: the bytes in the share of slot p, or as it was
module _ (n p : ℕ) (x : State) (v : IoVector) (memory scratch : List ℕ) (fits : is_write_job x.job ≡ true → copies memory v (size_of x.stage.asked) ≡ true) where
  abbrev filling : List ℕ
  filling = (filled (p * n) x v memory scratch).scratch

  pub filled_none : is_bounced_write x.phase ≡ false → filling ≡ scratch
  unfolding filled
  filled_none e = go (is_bounced_write x.phase) e
    where
      go : (t : Bool) → t ≡ false → (pick t (merged_at (p * n + x.stage.head.0) (size_of x.stage.asked) x.job v memory scratch) (record { scratch = scratch; outcome = (Ok tt) })).scratch ≡ scratch
      go true e = never (sym e)
      go false e = refl

  pub filled_put : is_bounced_write x.phase ≡ true → filling ≡ put scratch (p * n + x.stage.head.0) (source_of x.job v (size_of x.stage.asked) memory)
  unfolding filled merged_at source_fits
  filled_put e = go (is_bounced_write x.phase) (is_write_job x.job) e refl
    where
      go : (t w : Bool) → t ≡ true → is_write_job x.job ≡ w
          → (pick t (merged_at (p * n + x.stage.head.0) (size_of x.stage.asked) x.job v memory scratch) (record { scratch = scratch; outcome = (Ok (tt {0})) })).scratch
          ≡ put scratch (p * n + x.stage.head.0) (source_of x.job v (size_of x.stage.asked) memory)
      go true true e u = simp (u, fits u)
      go true false e u = simp u
      go false w e u = never e

-- a fill of slot p leaves the other shares, and the scratch's length
module _ (n p : ℕ) (h : p < 8) (x : State) (v : IoVector) (memory scratch : List ℕ) (big : 8 * n ≤ length scratch) (inside : uses_bounce x.phase ≡ true → x.stage.head.0 + size_of x.stage.asked ≤ n)
    (fits : is_write_job x.job ≡ true → copies memory v (size_of x.stage.asked) ≡ true) where
  abbrev src : List ℕ
  src = source_of x.job v (size_of x.stage.asked) memory

  src_long : length src ≡ size_of x.stage.asked
  src_long = source_long x.job v (size_of x.stage.asked) memory fits

  lies : is_bounced_write x.phase ≡ true → x.stage.head.0 + length src ≤ n
  lies e = omega (arith, inside (writes_use x.phase e), src_long)

  pub fill_length : length (filled (p * n) x v memory scratch).scratch ≡ length scratch
  fill_length = go (is_bounced_write x.phase) refl
    where
      go : (t : Bool) → is_bounced_write x.phase ≡ t → length (filled (p * n) x v memory scratch).scratch ≡ length scratch
      go true e = ap length (filled_put n p x v memory scratch fits e) ∙ share_put_length scratch n p x.stage.head.0 src h big (lies e)
      go false e = ap length (filled_none n p x v memory scratch fits e)

  pub fill_other : (q i : ℕ) → q ≢ p → i < n → share (filled (p * n) x v memory scratch).scratch n q i ≡ share scratch n q i
  fill_other q i d k = go (is_bounced_write x.phase) refl
    where
      go : (t : Bool) → is_bounced_write x.phase ≡ t → share (filled (p * n) x v memory scratch).scratch n q i ≡ share scratch n q i
      go true e = ap (λ (l : List ℕ). share l n q i) (filled_put n p x v memory scratch fits e) ∙ share_put_other scratch n p x.stage.head.0 src h big (lies e) q i (λ z. d (sym z)) k
      go false e = ap (λ (l : List ℕ). share l n q i) (filled_none n p x v memory scratch fits e)

  -- and puts the job's new bytes where its asked ones stand
  pub fill_own : is_bounced_write x.phase ≡ true → (bs : List ℕ) → (is_write_job x.job ≡ true → bytes_of memory (segments_of v) ≡ bs) → is_write_job x.job ≡ true ⊎ is_zero_job x.job ≡ true → (o i : ℕ) → i < size_of x.stage.asked
      → share (filled (p * n) x v memory scratch).scratch n p (x.stage.head.0 + i) ≡ new_bytes x.job o bs (o + i)
  fill_own e bs f k o i l =
      ap (λ (t : List ℕ). share t n p (x.stage.head.0 + i)) (filled_put n p x v memory scratch fits e)
      ∙ share_put_on scratch n p x.stage.head.0 src h big (lies e) i (omega (arith, src_long))
      ∙ source_bytes x.job v (size_of x.stage.asked) o memory bs f k i l

-- ---- the job comes to its slot

-- what a begin's plan and its vector give
pub record Start (d : Dock) (q : Asked) (v : IoVector) (x : State) : Type 0 where
  pub asked : AskedFor q x v
  pub ready : Ready d.settings d.buffers.«data».length v x
  pub shaped : Shaped x
  pub before : is_zero_job x.job ≡ true → Before x.course x.stage.asked x.range x.middle []

pub bounced_puts : (x : State) (ph : Phase) → x.phase ≡ ph → is_regular x ≡ true → is_bounced_write ph ≡ true → is_write_job x.job ≡ true ⊎ is_zero_job x.job ≡ true
bounced_puts x BouncedWrite p k e = by x.course (suited x k BouncedWrite p)
  where
    by : (c : Course) → bounces c x.job ≡ true → is_write_job x.job ≡ true ⊎ is_zero_job x.job ≡ true
    by Last e = or_cases (is_write_job x.job) (is_zero_job x.job) e
    by Middle e = never e
    by Head e = inr e
    by Chunks e = inr e
bounced_puts x Free p k e = never e
bounced_puts x Ended p k e = never e
bounced_puts x DirectRead p k e = never e
bounced_puts x BouncedRead p k e = never e
bounced_puts x FirstRead p k e = never e
bounced_puts x SecondRead p k e = never e
bounced_puts x DirectWrite p k e = never e
bounced_puts x ZeroRequest p k e = never e
bounced_puts x DiscardRequest p k e = never e

-- a stage as it opens, its share filled where it reads nothing
pub opened_fact : (s : Bytes) (memory : List ℕ) (sh : ℕ → ℕ) (x : State) (v : IoVector) (j : Tracked) → Geo x.stage → Unread x.phase x.stage → is_pending x.phase ≡ true
    → (is_bounced_write x.phase ≡ true → (i : ℕ) → i < size_of x.stage.asked → sh (x.stage.head.0 + i) ≡ new_bytes x.job x.stage.asked.start.0 j.bytes (x.stage.asked.start.0 + i))
    → Fact x.phase s memory sh x v None j
opened_fact s memory sh x v j g u p f = by x.phase refl u p f
  where
    no : {A : Type 0} → ◌≡◌ {A = Option ℕ} None (Some 0) → A
    no e = let z : ◌≡◌ {A = ℕ} 0 1 = cc in absurd (omega arith)

    by : (ph : Phase) → x.phase ≡ ph → Unread ph x.stage → is_pending ph ≡ true
        → (is_bounced_write ph ≡ true → (i : ℕ) → i < size_of x.stage.asked → sh (x.stage.head.0 + i) ≡ new_bytes x.job x.stage.asked.start.0 j.bytes (x.stage.asked.start.0 + i))
        → Fact ph s memory sh x v None j
    by Free e u p f = tt
    by Ended e u p f = never p
    by DirectRead e u p f = λ c. no c
    by BouncedRead e u p f = λ c. no c
    by FirstRead e u p f = λ c. no c
    by SecondRead e u p f = (λ c i h. absurd (omega (arith, u, h)), λ c. no c)
    by BouncedWrite e u p f = (f refl, (λ i h b. absurd (no_padding x.stage g u.0 u.1 i h b)), λ c. no c)
    by DirectWrite e u p f = λ c. no c
    by ZeroRequest e u p f = λ c. no c
    by DiscardRequest e u p f = tt

module _ (w : World) (m : Plain) (I : Inv w m) (ask : Asked) (v : IoVector) (x : State) (k : Start w.dock ask v x) (clear : overlaps_of w.dock.states w.dock.vectors ask.job v ≡ false) (h : first_free w.dock.states < 8) where
  abbrev d : Dock
  d = w.dock

  abbrev p : ℕ
  p = first_free w.dock.states

  abbrev j : Job
  j = ask.job

  -- the vector's bytes, as the plain byte store is fed them
  abbrev bs : List ℕ
  bs = bytes_of w.memory (segments_of v)

  abbrev job : Tracked
  job = record { asked = ask; bytes = bs; first = x; codes = []; steps = [] }

  abbrev begun : World
  begun = called w (admitted d p x v w.memory w.scratch).dock w.memory (admitted d p x v w.memory w.scratch).scratch

  abbrev entered : Plain
  entered = put_job m p (Some job)

  long : length w.memory ≡ d.buffers.«data».length
  long = data_long d.buffers (length w.memory) (length w.scratch) I.long

  was_free : is_free (state_at d p).phase ≡ true
  was_free = lowest_free d.states (rw I.held.states h)

  not_carried : w.carried p ≡ None
  not_carried = (I.slots p h).idle (free_idle (state_at d p).phase was_free)

  is_x : state_at begun.dock p ≡ x
  is_x = get_or-set_same d.states p x no_state (rw I.held.states h)

  is_v : vector_at begun.dock p ≡ v
  is_v = get_or-set_same d.vectors p v no_vector (rw I.held.vectors h)

  fits : is_write_job x.job ≡ true → copies w.memory v (size_of x.stage.asked) ≡ true
  fits u = let r = k.ready.vector (write_vector x.job u) in copied w.memory v (size_of x.stage.asked) (rw long r.1) (rw r.0 r.2)

  inside : uses_bounce x.phase ≡ true → x.stage.head.0 + size_of x.stage.asked ≤ d.settings.bounce
  inside u = (within d.settings.bounce x k.ready.sound u).whole

  flies : Flight d.settings w.store w.memory (share begun.scratch d.settings.bounce p) x v None (waits_of p begun.dock.blockers) job
  flies = record {
    stands = refl;
    asked = k.asked;
    source = λ u. refl;
    geo = k.shaped.geo;
    zoned = λ e. k.shaped.zoned;
    as_asked = k.shaped.as_asked;
    before = λ e. k.before;
    fact =
        opened_fact w.store w.memory (share begun.scratch d.settings.bounce p) x v job k.shaped.geo k.shaped.unread k.ready.pending
        (λ e i l.
        fill_own d.settings.bounce p h x v w.memory w.scratch (room w m I) inside fits e bs (λ u. refl) (bounced_puts x x.phase refl k.ready.regular e) x.stage.asked.start.0 i l);
    fresh = λ a. (refl, k.shaped.unread);
  }

  own : SlotInv begun entered p
  own = record {
    idle = λ e. never (sym (rw is_x at e) ∙ k.ready.pending);
    tracks = λ f. record { j = job; is = set_same m.jobs p (Some job); flight = rw (is_x, is_v, not_carried) flies };
  }

  -- 203 was not met
  met : (q : ℕ) → q < 8 → meets_at d.states d.vectors j v q ≡ false
  unfolding overlaps_of
  met q g = go (meets_at d.states d.vectors j v q) refl
    where
      go : (t : Bool) → meets_at d.states d.vectors j v q ≡ t → t ≡ false
      go true e = sym (any_here 8 (meets_at d.states d.vectors j v) q g e) ∙ or_right (is_read_job j && self_overlap_of (segments_of v)) (any_below 8 (meets_at d.states d.vectors j v)) clear
      go false e = refl

  apart_of : (q : ℕ) → q < 8 → Taken d q → (is_read_job j || is_read_job (state_at d q).job) ≡ true → overlap_of (segments_of v) (segments_of (vector_at d q)) ≡ false
  unfolding meets_at meets_of
  apart_of q g f r = go (is_free (state_at d q).phase) (is_read_job j || is_read_job (state_at d q).job) (overlap_of (segments_of v) (segments_of (vector_at d q))) f r (met q g)
    where
      go : (a b c : Bool) → a ≡ false → b ≡ true → (not a && b && c) ≡ false → c ≡ false
      go false true c e f g = g
      go false false c e f g = never f
      go true b c e f g = never (sym e)

  alone_of : is_read_job j ≡ true → self_overlap_of (segments_of v) ≡ false
  unfolding overlaps_of
  alone_of r = go (is_read_job j) (self_overlap_of (segments_of v)) r (or_left (is_read_job j && self_overlap_of (segments_of v)) (any_below 8 (meets_at d.states d.vectors j v)) clear)
    where
      go : (a b : Bool) → a ≡ true → (a && b) ≡ false → b ≡ false
      go true b e f = f
      go false b e f = never e

  pub begun_inv : Inv begun entered
  begun_inv =
      renewed_inv w begun m entered I p h refl refl refl refl
      (λ q n. get_or-set_other d.states p q x no_state n) (λ q n. get_or-set_other d.vectors p q v no_vector n)
      (λ q n. refl) (λ q n. set_other m.jobs p q (Some job) n)
      (λ q g n f u. refl) (λ q i n l. fill_other d.settings.bounce p h x v w.memory w.scratch (room w m I) inside fits q i n l)
      (λ q g n a b c i l. refl)
      (λ q g n. enter_waits d.blockers I.held.rank I.held.clock I.held.blockers p q h g n x (free_there d I.held v w.memory w.scratch long x k.ready h))
      (admit_held d I.held v w.memory w.scratch long x k.ready h)
      (rw (fill_length d.settings.bounce p h x v w.memory w.scratch (room w m I) inside fits) I.long)
      I.same own
      (λ q g n f u r. rw is_v (apart_of q g u (rw (is_x, sym k.asked.job) at r)))
      (λ f r. rw is_v (alone_of (rw (is_x, sym k.asked.job) at r)))
