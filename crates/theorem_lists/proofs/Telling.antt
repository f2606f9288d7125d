-- An accepted tell keeps the invariant, whatever its code leads to. Assumes nothing.
use Rattle.std.specs.Prelude.{Option}
use Rattle.std.specs.Prelude.{Result, Ok, Err, Some, None}
use mathlib.Core.Path.{◌≡◌, refl, sym, ap, ◌∙◌, subst}
use mathlib.Core.Bool.{Bool, true, false, ◌&&◌, ◌||◌}
use mathlib.Core.Logic.{◌⊎◌, inl, inr, ⊎_elim, ◌≢◌}
use mathlib.Core.List.{List, ◌∷◌}
use Prim.Native.Nat.{ℕ, ◌+◌, ◌-◌, ◌*◌, ◌<◌, ◌≤◌}
use native.Mathlib.Omega.{arith}
use native.Mathlib.Decide.{dec_lt}
use lib.Dec.{ltb, leb, eqb}
use lib.ListN.{length, get_or, set, take, drop, length-drop}
use lib.Seq.{get_or-set_same, get_or-set_other, length-take-le, get_or-take, get_or-drop}
use borrow.Author.Tests.{lt-ltb, le-leb, ltb-true, ltb-false, leb-true, eqb-true, eq-eqb}
use Rattle.arithmetic.specs.Rounding.{pick}
use Rattle.arithmetic.specs.SettingsLaws.{and_left, and_right, opened}
use Rattle.arithmetic.specs.Settings.{settings_fit}
use Rattle.arithmetic.specs.Zeroes.{chunk_of}
use Rattle.arithmetic.specs.Content.{Bytes, list_ext}
use Rattle.arithmetic.specs.declared.offsets.StoreOffset.{StoreOffset}
use Rattle.arithmetic.specs.declared.offsets.Range.{Range}
use Rattle.arithmetic.specs.declared.settings.Settings.{Settings}
use Rattle.vectors.specs.Vectors.{size_of as sizeOfAll, lies_in, all_segments, segments_of, bytes_of, scatter_of, copies, overlap_of}
use Rattle.vectors.specs.SegmentLaws.{valid}
use Rattle.vectors.specs.ByteLaws.{scatter_length, scatter_others, gather_scatter}
use Rattle.vectors.specs.OverlapLaws.{overlap_sym, or_cases}
use Rattle.vectors.specs.declared.vector.IoVector.{IoVector}
use Rattle.blockers.specs.Blockers.{waits_of}
use Rattle.stages.specs.Stages.{size_of, is_pending, is_blocking, uses_bounce, in_phase, ended_with, later_stage, zeroes_plan, chunk_by, chunk_next, tail_next, head_next, stage_done, done_next, unsupported_next, told_of}
use Rattle.stages.specs.Laws.{StageOnStore, Opens, Continues, Finishes, told_stays, told_ends, told_enters, never}
use Rattle.stages.specs.declared.state.Job.{Job}
use Rattle.stages.specs.declared.state.Job.TheVariants.{Read, Write, Zeroes, AllocatedZeroes, Discard}
use Rattle.stages.specs.declared.state.Phase.{Phase}
use Rattle.stages.specs.declared.state.Phase.TheVariants.{Free, Ended, DirectRead, BouncedRead, FirstRead, SecondRead, BouncedWrite, DirectWrite, ZeroRequest, DiscardRequest}
use Rattle.stages.specs.declared.state.Course.{Course}
use Rattle.stages.specs.declared.state.Course.TheVariants.{Last, Middle, Head, Chunks}
use Rattle.stages.specs.declared.state.State.{State}
use Rattle.stages.specs.declared.told.Step.{Step}
use Rattle.stages.specs.declared.told.Step.TheVariants.{Stays, Ends, Enters}
use Rattle.dock.specs.Dock.{no_state, no_vector, vacant, state_at, vector_at, lent_fits, is_read_job}
use Rattle.dock.specs.Begin.{is_write_job, source_of, filled}
use Rattle.dock.specs.Tell.{blockers_without, copied_at, is_bounced_read, handed}
use Rattle.theorem_lists.specs.Courses.{is_zero_job, is_discard_job, has_vector, is_last, is_middle, bounces, suits, is_regular, suited, enters_regular}
use Rattle.theorem_lists.specs.Held.{Held, SlotOf}
use Rattle.theorem_lists.specs.Calls.{read_no_write, write_vector, read_vector, direct_reads, bounced_reads, pending_taken, copied, told_held, after}
use Rattle.theorem_lists.specs.Keeping.{Changes, leave_changes}
use Rattle.theorem_lists.specs.MadeLaws.{data_long}
use Rattle.theorem_lists.specs.PlainStore.{Did, yielded, wrote, zeroed, Tracked, Plain, new_bytes, standing, state_of_step, put_job, with_code}
use Rattle.theorem_lists.specs.Histories.{World, Among, here, later, puts, put_by, OwedBy, answered}
use Rattle.theorem_lists.proofs.Lists.{share_room, share_put_off}
use Rattle.theorem_lists.proofs.Geometry.{Beside, AsAsked, Zone}
use Rattle.theorem_lists.proofs.Progress.{Put, Before, Follows, Goes as Leads, done_goes, chunk_goes}
use Rattle.theorem_lists.proofs.Invariant.{share, Fact, asked_on, Flight, within}
use Rattle.theorem_lists.proofs.World.{Taken, Tracks, SlotInv, Inv, room, segments_lie, leave_waits, enter_waits}
use Rattle.theorem_lists.proofs.Renewing.{set_same, set_other, renewed_inv}
use Rattle.theorem_lists.proofs.Beginning.{source_long, fill_length, fill_other, fill_own, filled_none, filled_put, bounced_puts, opened_fact}
use Rattle.arithmetic.specs.declared.refusals.Refusal.{Refusal}

-- ---- jobs and their steps

read_is : (j : Job) → is_read_job j ≡ true → j ≡ Read
read_is Read e = refl
read_is Write e = never e
read_is Zeroes e = never e
read_is AllocatedZeroes e = never e
read_is Discard e = never e

write_is : (j : Job) → is_write_job j ≡ true → j ≡ Write
write_is Write e = refl
write_is Read e = never e
write_is Zeroes e = never e
write_is AllocatedZeroes e = never e
write_is Discard e = never e

discard_is : (j : Job) → is_discard_job j ≡ true → j ≡ Discard
discard_is Discard e = refl
discard_is Read e = never e
discard_is Write e = never e
discard_is Zeroes e = never e
discard_is AllocatedZeroes e = never e

zero_no_discard : (j : Job) → is_zero_job j ≡ true → is_discard_job j ≡ false
zero_no_discard Zeroes e = refl
zero_no_discard AllocatedZeroes e = refl
zero_no_discard Read e = refl
zero_no_discard Write e = refl
zero_no_discard Discard e = sym e

zero_no_write : (j : Job) → is_zero_job j ≡ true → is_write_job j ≡ false
zero_no_write Read e = refl
zero_no_write Write e = sym e
zero_no_write Zeroes e = refl
zero_no_write AllocatedZeroes e = refl
zero_no_write Discard e = refl

vacant_unblocked : is_blocking vacant.phase ≡ false
unfolding vacant
vacant_unblocked = refl

-- what a zero job that has put its whole range is owed
zero_owed : (k : Job) (r : Range) (v : IoVector) (j : Tracked) (memory : List ℕ) → is_zero_job k ≡ true → Put j.steps r.start.0 r.end.0 → OwedBy k r v j memory
zero_owed Zeroes r v j memory e f = λ y i. f y (leb-true r.start.0 y (and_left _ _ i)) (ltb-true y r.end.0 (and_right (leb r.start.0 y) _ i))
zero_owed AllocatedZeroes r v j memory e f = λ y i. f y (leb-true r.start.0 y (and_left _ _ i)) (ltb-true y r.end.0 (and_right (leb r.start.0 y) _ i))
zero_owed Read r v j memory e f = never e
zero_owed Write r v j memory e f = never e
zero_owed Discard r v j memory e f = never e

-- a step with code 0 has put its range
more_put : (t : Bool) (ds : List Did) (y : ℕ) → put_by ds y ≡ true → pick t true (put_by ds y) ≡ true
more_put true ds y f = refl
more_put false ds y f = f

among_put : (d : Did) {ds : List Did} (y : ℕ) → Among d ds → puts d y ≡ true → put_by ds y ≡ true
among_put d y (here {ds}) i = rw i
among_put d y (later {e} {ds} k) i = more_put (puts e y) ds y (among_put d y k i)

wrote_put : (ds : List Did) (r : Range) (new : Bytes) → Among (wrote r 0 new) ds → Put ds r.start.0 r.end.0
wrote_put ds r new k y h l = among_put (wrote r 0 new) y k (rw (le-leb r.start.0 y h, lt-ltb y r.end.0 l))

zeroed_put : (ds : List Did) (r : Range) → Among (zeroed r 0) ds → Put ds r.start.0 r.end.0
zeroed_put ds r k y h l = among_put (zeroed r 0) y k (rw (le-leb r.start.0 y h, lt-ltb y r.end.0 l))

-- what follows a stage of a zero job is no further phase of the same stage
abbrev no_stay : Step → Bool
no_stay (Stays y) = false
no_stay (Ends y) = true
no_stay (Enters y) = true

later_on : (x : State) (p : Result (Option State) Refusal) → no_stay (later_stage x p) ≡ true
later_on x (Ok None) = refl
later_on x (Ok (Some y)) = refl
later_on x (Err r) = refl

chunk_by_on : (s : Settings) (x : State) (k : Result (Option Range) Refusal) → no_stay (chunk_by s x k) ≡ true
chunk_by_on s x (Ok None) = refl
chunk_by_on s x (Ok (Some r)) = later_on x (zeroes_plan s x.job x.range x.middle Chunks r)
chunk_by_on s x (Err r) = refl

chunk_goes_on : (s : Settings) (x : State) (o : StoreOffset) → no_stay (chunk_next s x o) ≡ true
unfolding chunk_next
chunk_goes_on s x o = chunk_by_on s x (chunk_of s (record { start = o; end = x.range.end }))

some_on : (t : Bool) (a b : Step) → no_stay a ≡ true → no_stay b ≡ true → no_stay (pick t a b) ≡ true
some_on true a b e f = e
some_on false a b e f = f

tail_on : (s : Settings) (x : State) → no_stay (tail_next s x) ≡ true
unfolding tail_next
tail_on s x = some_on (ltb 0 (x.range.end.0 - x.middle.end.0)) _ (Ends (ended_with 0 x)) (later_on x (zeroes_plan s x.job x.range x.middle Last (record { start = x.middle.end; end = x.range.end }))) refl

head_on : (s : Settings) (x : State) → no_stay (head_next s x) ≡ true
unfolding head_next
head_on s x = some_on (ltb 0 (x.middle.start.0 - x.range.start.0)) _ (tail_next s x) (later_on x (zeroes_plan s x.job x.range x.middle Head (record { start = x.range.start; end = x.middle.start }))) (tail_on s x)

done_goes_on : (s : Settings) (x : State) (c : Course) → no_stay (stage_done c s x) ≡ true
done_goes_on s x Last = refl
done_goes_on s x Middle = head_on s x
done_goes_on s x Head = tail_on s x
done_goes_on s x Chunks = chunk_goes_on s x x.stage.asked.end

-- ---- the slot whose request is told

module _ (w : World) (m : Plain) (I : Inv w m) (p : ℕ) (h : p < 8) (pending : is_pending (state_at w.dock p).phase ≡ true) (free : waits_of p w.dock.blockers ≡ false) (code : ℕ) (carried : w.carried p ≡ Some code) where
  abbrev x : State
  x = state_at w.dock p

  abbrev v : IoVector
  v = vector_at w.dock p

  abbrev N : ℕ
  N = w.dock.settings.bounce

  S : SlotOf w.dock p
  S = I.held.slots p h

  taken : Taken w.dock p
  taken = pending_taken x.phase pending

  pub T : Tracks w m p
  T = (I.slots p h).tracks taken

  place : StageOnStore x.stage
  place = S.on_store pending

  long : length w.memory ≡ w.dock.buffers.«data».length
  long = data_long w.dock.buffers (length w.memory) (length w.scratch) I.long

  fit : settings_fit w.dock.settings ≡ true
  fit = (opened w.dock.settings w.dock.buffers I.held.opened).fit

  abbrev job' : Tracked
  job' = with_code T.j code

  -- the fact of the phase
  fact_at : (ph : Phase) → x.phase ≡ ph → code ≡ 0 → Fact ph w.store w.memory (share w.scratch N p) x v (Some 0) T.j
  fact_at ph e z = subst (λ (k : Phase). Fact k w.store w.memory (share w.scratch N p) x v (Some 0) T.j) e (subst (λ (o : Option ℕ). Fact x.phase w.store w.memory (share w.scratch N p) x v o T.j) (carried ∙ ap Some z) T.flight.fact)

  -- ---- what a code leads to

  abbrev handing : List ℕ
  handing = (handed (p * N) x code v w.memory w.scratch).memory

  abbrev filling : State → List ℕ
  filling y = (filled (p * N) y v w.memory w.scratch).scratch

  abbrev Good : Step → Type 0
  Good (Stays y) = AsAsked y.phase y.stage × Fact y.phase w.store w.memory (share (filling y) N p) y v None job'
  Good (Ends y) = y.answer ≡ 0 → OwedBy x.job x.range v job' handing
  Good (Enters y) = Follows T.j.steps y

  not_handed : is_bounced_read x.phase ≡ false → handing ≡ w.memory
  unfolding handed
  not_handed e = go (is_bounced_read x.phase) (eqb code 0) e
    where
      go : (t c : Bool) → t ≡ false → (pick (t && c) (copied_at (p * N + x.stage.head.0) (size_of x.stage.asked) v w.memory w.scratch) (record { memory = w.memory; outcome = (Ok tt) })).memory ≡ w.memory
      go true c e = never (sym e)
      go false c e = refl

  has_bytes : has_vector x.job ≡ true → copies w.memory v (size_of x.stage.asked) ≡ true
  has_bytes u = let k = S.vector taken u in copied w.memory v (size_of x.stage.asked) (rw long k.0) (rw (S.sole taken u) k.1)

  is_handed : is_bounced_read x.phase ≡ true → code ≡ 0 → has_vector x.job ≡ true → handing ≡ scatter_of w.memory (segments_of v) (take (size_of x.stage.asked) (drop (p * N + x.stage.head.0) w.scratch))
  unfolding handed copied_at
  is_handed e z u = go (is_bounced_read x.phase) (eqb code 0) e (eq-eqb code 0 z)
    where
      go : (t c : Bool) → t ≡ true → c ≡ true → (pick (t && c) (copied_at (p * N + x.stage.head.0) (size_of x.stage.asked) v w.memory w.scratch) (record { memory = w.memory; outcome = (Ok tt) })).memory
          ≡ scatter_of w.memory (segments_of v) (take (size_of x.stage.asked) (drop (p * N + x.stage.head.0) w.scratch))
      go true true e f = simp (has_bytes u)
      go true false e f = never f
      go false c e f = never e

  -- ---- a read is done

  owed_read : is_read_job x.job ≡ true → (memory : List ℕ) → OwedBy Read x.range v job' memory → OwedBy x.job x.range v job' memory
  owed_read r memory o = subst (λ (k : Job). OwedBy k x.range v job' memory) (sym (read_is x.job r)) o

  good_direct_read : x.phase ≡ DirectRead → code ≡ 0 → OwedBy x.job x.range v job' handing
  good_direct_read e z =
      owed_read (direct_reads x S.regular e) handing (subst (λ (l : List ℕ). OwedBy Read x.range v job' l) (sym (not_handed (ap is_bounced_read e))) (fact_at DirectRead e z refl))

  good_read : x.phase ≡ BouncedRead → code ≡ 0 → OwedBy x.job x.range v job' handing
  good_read e z = owed_read reads handing (f.0, f.1, ap (λ (l : List ℕ). bytes_of l (segments_of v)) (is_handed (ap is_bounced_read e) z has) ∙ gather_scatter w.memory (segments_of v) src lie (I.alone p h taken reads) size ∙ same)
    where
      reads : is_read_job x.job ≡ true
      reads = and_right (is_last x.course) _ (suited x S.regular BouncedRead e)

      has : has_vector x.job ≡ true
      has = read_vector x.job reads

      f : (bs : List ℕ) × Among (yielded x.range bs) T.j.steps × (length bs ≡ size_of x.stage.asked) × ((i : ℕ) → i < size_of x.stage.asked → share w.scratch N p (x.stage.head.0 + i) ≡ get_or bs i 0)
      f = fact_at BouncedRead e z refl

      src : List ℕ
      src = take (size_of x.stage.asked) (drop (p * N + x.stage.head.0) w.scratch)

      roomy : p * N + x.stage.head.0 + size_of x.stage.asked ≤ length w.scratch
      roomy = omega (arith, share_room N p (length w.scratch) h (room w m I), (within N x S.sound (ap uses_bounce e)).whole)

      src_long : length src ≡ size_of x.stage.asked
      src_long = length-take-le (size_of x.stage.asked) (drop (p * N + x.stage.head.0) w.scratch) (omega (arith, length-drop (p * N + x.stage.head.0) w.scratch, roomy))

      lie : all_segments (lies_in (length w.memory)) (segments_of v) ≡ true
      lie = segments_lie w m I p h taken has

      size : length src ≡ sizeOfAll (segments_of v)
      size = src_long ∙ ap size_of (S.sole taken has) ∙ sym (S.vector taken has).1 ∙ (valid (length w.memory) v (rw long (S.vector taken has).0)).total

      same : src ≡ f.0
      same =
          list_ext src f.0 (src_long ∙ sym f.2) (λ i l.
          let k : i < size_of x.stage.asked = omega (arith, src_long, l) in
          let o : p * N + x.stage.head.0 + i ≡ p * N + (x.stage.head.0 + i) = omega arith in
          get_or-take (size_of x.stage.asked) (drop (p * N + x.stage.head.0) w.scratch) i 0 k ∙ get_or-drop (p * N + x.stage.head.0) w.scratch i 0 ∙ ap (λ (n : ℕ). get_or w.scratch n 0) o ∙ f.3 i k)

  -- ---- a write is done

  owed_write : is_write_job x.job ≡ true → Among (wrote x.stage.asked 0 (new_bytes x.job x.stage.asked.start.0 T.j.bytes)) T.j.steps → (memory : List ℕ) → OwedBy x.job x.range v job' memory
  owed_write u k memory =
      subst (λ (o : Job). OwedBy o x.range v job' memory) (sym (write_is x.job u))
      (new_bytes x.job x.stage.asked.start.0 T.j.bytes, subst (λ (r : Range). Among (wrote r 0 (new_bytes x.job x.stage.asked.start.0 T.j.bytes)) T.j.steps) (sym range_same) k, λ y i. byte y)
    where
      range_same : x.range ≡ x.stage.asked
      range_same = sym (S.sole taken (write_vector x.job u))

      byte : (y : ℕ) → new_bytes x.job x.stage.asked.start.0 T.j.bytes y ≡ get_or T.j.bytes (y - x.range.start.0) 0
      byte y =
          ap (λ (o : Job). new_bytes o x.stage.asked.start.0 T.j.bytes y) (write_is x.job u)
          ∙ ap (λ (r : Range). get_or T.j.bytes (y - r.start.0) 0) (sym range_same)

  -- ---- a stage of a zero job is done, or its zero request is unsupported

  zone : is_zero_job x.job ≡ true → Zone x.course x.stage.asked x.range x.middle
  zone z = T.flight.zoned pending (zero_no_discard x.job z)

  owed_zero : is_zero_job x.job ≡ true → Put T.j.steps x.range.start.0 x.range.end.0 → (memory : List ℕ) → OwedBy x.job x.range v job' memory
  owed_zero z f memory = zero_owed x.job x.range v job' memory z f

  good_of : is_zero_job x.job ≡ true → (t : Step) → Leads T.j.steps x t → no_stay t ≡ true → Good t
  good_of z (Stays y) k e = never e
  good_of z (Ends y) k e = λ a. owed_zero z (k a) handing
  good_of z (Enters y) k e = k

  good_zero : is_zero_job x.job ≡ true → (c : Course) → x.course ≡ c → Put T.j.steps x.stage.asked.start.0 x.stage.asked.end.0 → Good (stage_done c w.dock.settings x)
  good_zero z c e f =
      good_of z (stage_done c w.dock.settings x)
      (done_goes w.dock.settings fit T.j.steps x c (omega (arith, place.asked_some)) (subst (λ (k : Course). Zone k x.stage.asked x.range x.middle) e (zone z))
      (subst (λ (k : Course). Before k x.stage.asked x.range x.middle T.j.steps) e (T.flight.before pending z)) f)
      (done_goes_on w.dock.settings x c)

  good_chunks : is_zero_job x.job ≡ true → Good (chunk_next w.dock.settings x x.range.start)
  good_chunks z =
      good_of z (chunk_next w.dock.settings x x.range.start)
      (chunk_goes w.dock.settings fit T.j.steps x x.range.start (omega arith) (λ y a b. absurd (omega arith))) (chunk_goes_on w.dock.settings x x.range.start)

  good_bounced_write : x.phase ≡ BouncedWrite → code ≡ 0 → Good (stage_done x.course w.dock.settings x)
  good_bounced_write e z = by x.course refl (suited x S.regular BouncedWrite e)
    where
      wrote_it : Among (wrote x.stage.asked 0 (new_bytes x.job x.stage.asked.start.0 T.j.bytes)) T.j.steps
      wrote_it = (fact_at BouncedWrite e z).2 refl

      put_it : Put T.j.steps x.stage.asked.start.0 x.stage.asked.end.0
      put_it = wrote_put T.j.steps x.stage.asked (new_bytes x.job x.stage.asked.start.0 T.j.bytes) wrote_it

      by : (c : Course) → x.course ≡ c → bounces c x.job ≡ true → Good (stage_done c w.dock.settings x)
      by Last i k = ⊎_elim (λ u. λ a. owed_write u wrote_it handing) (λ u. good_zero u Last i put_it) (or_cases (is_write_job x.job) (is_zero_job x.job) k)
      by Middle i k = never k
      by Head i k = good_zero k Head i put_it
      by Chunks i k = good_zero k Chunks i put_it

  zero_phase : x.phase ≡ ZeroRequest → is_zero_job x.job ≡ true
  zero_phase e = and_right (is_middle x.course) _ (suited x S.regular ZeroRequest e)

  good_zero_request : x.phase ≡ ZeroRequest → code ≡ 0 → Good (stage_done x.course w.dock.settings x)
  good_zero_request e z =
      let as_asked : x.stage.asked ≡ x.stage.request = subst (λ (ph : Phase). AsAsked ph x.stage) e T.flight.as_asked in
      good_zero (zero_phase e) x.course refl
      (subst (λ (r : Range). Put T.j.steps r.start.0 r.end.0) (sym as_asked) (zeroed_put T.j.steps x.stage.request (fact_at ZeroRequest e z refl)))

  owed_discard : x.phase ≡ DiscardRequest → (memory : List ℕ) → OwedBy x.job x.range v job' memory
  owed_discard e memory = subst (λ (o : Job). OwedBy o x.range v job' memory) (sym (discard_is x.job (and_right (is_last x.course) _ (suited x S.regular DiscardRequest e)))) tt

  -- ---- a padded write has read

  fits : is_write_job x.job ≡ true → copies w.memory v (size_of x.stage.asked) ≡ true
  fits u = has_bytes (write_vector x.job u)

  -- once all is read: what is beside the asked bytes is the store's, and the asked ones are filled in
  good_filled : uses_bounce x.phase ≡ true → is_regular (in_phase BouncedWrite x) ≡ true → ((i : ℕ) → i < size_of x.stage.request → Beside x.stage i → share w.scratch N p i ≡ w.store (x.stage.request.start.0 + i))
      → Good (Stays (in_phase BouncedWrite x))
  good_filled u k f = (
    tt,
    (
      (λ i l. fill_own N p h (in_phase BouncedWrite x) v w.memory w.scratch (room w m I) (λ b. inside) fits refl T.j.bytes T.flight.source (bounced_puts (in_phase BouncedWrite x) BouncedWrite refl k refl) x.stage.asked.start.0 i l),
      (λ i l b. kept i l b ∙ f i l b),
      λ c. none_some c,
    ),
  )
    where
      inside : x.stage.head.0 + size_of x.stage.asked ≤ N
      inside = (within N x S.sound u).whole

      none_some : {A : Type 0} → ◌≡◌ {A = Option ℕ} None (Some 0) → A
      none_some e = let z : ◌≡◌ {A = ℕ} 0 1 = cc in absurd (omega arith)

      src : List ℕ
      src = source_of x.job v (size_of x.stage.asked) w.memory

      src_long : length src ≡ size_of x.stage.asked
      src_long = source_long x.job v (size_of x.stage.asked) w.memory fits

      kept : (i : ℕ) → i < size_of x.stage.request → Beside x.stage i → share (filling (in_phase BouncedWrite x)) N p i ≡ share w.scratch N p i
      kept i l b =
          ap (λ (t : List ℕ). share t N p i) (filled_put N p (in_phase BouncedWrite x) v w.memory w.scratch fits refl)
          ∙ share_put_off w.scratch N p x.stage.head.0 src h (room w m I) (omega (arith, src_long, inside)) i (side i b)
        where
          side : (i : ℕ) → Beside x.stage i → (i < x.stage.head.0) ⊎ (x.stage.head.0 + length src ≤ i)
          side i b = elim (dec_lt i x.stage.head.0) [
            | yes a ↦ inl a
            | no a ↦ elim (dec_lt i (x.stage.head.0 + size_of x.stage.asked)) [
              | yes c ↦ absurd (b (omega arith) c)
              | no c ↦ inr (omega (arith, src_long, c))
            ]
          ]

  regular_written : (ph : Phase) → x.phase ≡ ph → (suits ph x.course x.job ≡ true → bounces x.course x.job ≡ true) → is_regular (in_phase BouncedWrite x) ≡ true
  unfolding is_regular
  regular_written ph e f = simp (f (suited x S.regular ph e))

  good_second : x.phase ≡ SecondRead → code ≡ 0 → Good (Stays (in_phase BouncedWrite x))
  good_second e z =
      good_filled (ap uses_bounce e) (regular_written SecondRead e (λ k. k)) (λ i l b. (fact_at SecondRead e z).1 refl i l (T.flight.geo.cover i l b))

  good_first : x.phase ≡ FirstRead → code ≡ 0 → (t : Bool) → ltb 0 (size_of x.stage.second) ≡ t → Good (Stays (in_phase (pick t SecondRead BouncedWrite) x))
  good_first e z true k = (tt, ((λ c i l. ap (λ (t : List ℕ). share t N p i) (filled_none N p (in_phase SecondRead x) v w.memory w.scratch fits refl) ∙ fact_at FirstRead e z refl i l), λ c. none_some c))
    where
      none_some : {A : Type 0} → ◌≡◌ {A = Option ℕ} None (Some 0) → A
      none_some e = let z : ◌≡◌ {A = ℕ} 0 1 = cc in absurd (omega arith)
  good_first e z false k =
      good_filled (ap uses_bounce e) (regular_written FirstRead e (λ k. k)) (λ i l b.
      ⊎_elim (λ a. fact_at FirstRead e z refl i a) (λ a. absurd (let n = ltb-false 0 (size_of x.stage.second) k in omega (arith, n, a.0))) (T.flight.geo.cover i l b))

  -- ---- every code

  good_done : (ph : Phase) → x.phase ≡ ph → is_pending ph ≡ true → code ≡ 0 → Good (done_next ph w.dock.settings x)
  good_done Free e k z = never k
  good_done Ended e k z = never k
  good_done DirectRead e k z = λ a. good_direct_read e z
  good_done BouncedRead e k z = λ a. good_read e z
  good_done FirstRead e k z = good_first e z (ltb 0 (size_of x.stage.second)) refl
  good_done SecondRead e k z = good_second e z
  good_done BouncedWrite e k z = good_bounced_write e z
  good_done DirectWrite e k z = λ a. owed_write (and_right (is_last x.course) _ (suited x S.regular DirectWrite e)) (fact_at DirectWrite e z refl) handing
  good_done ZeroRequest e k z = good_zero_request e z
  good_done DiscardRequest e k z = λ a. owed_discard e handing

  failed : {A : Type 0} → ◌≡◌ {A = ℕ} 1 0 → A
  failed e = absurd (omega arith)

  good_unsupported : (ph : Phase) → x.phase ≡ ph → Good (unsupported_next ph w.dock.settings x)
  good_unsupported ZeroRequest e = good_chunks (zero_phase e)
  good_unsupported DiscardRequest e = λ a. owed_discard e handing
  good_unsupported Free e = λ a. failed a
  good_unsupported Ended e = λ a. failed a
  good_unsupported DirectRead e = λ a. failed a
  good_unsupported BouncedRead e = λ a. failed a
  good_unsupported FirstRead e = λ a. failed a
  good_unsupported SecondRead e = λ a. failed a
  good_unsupported BouncedWrite e = λ a. failed a
  good_unsupported DirectWrite e = λ a. failed a

  good : Good (told_of w.dock.settings x code)
  unfolding told_of
  good = go (eqb code 0) (eqb code 1) refl
    where
      go : (a b : Bool) → eqb code 0 ≡ a → Good (pick a (done_next x.phase w.dock.settings x) (pick b (unsupported_next x.phase w.dock.settings x) (Ends (ended_with code x))))
      go true b e = good_done x.phase refl pending (eqb-true code 0 e)
      go false true e = good_unsupported x.phase refl
      go false false e = λ a. never (sym e ∙ eq-eqb code 0 a)

  -- ---- the two sides after it

  abbrev told_world : Step → World
  told_world t = answered w p (after w.dock p x code w.memory w.scratch t).dock (after w.dock p x code w.memory w.scratch t).memory (after w.dock p x code w.memory w.scratch t).scratch

  abbrev told_plain : Plain
  told_plain = put_job m p (Some job')

  stands : (t : Step) → told_of w.dock.settings x code ≡ t → standing w.dock.settings T.j.first (code ∷ T.j.codes) ≡ state_of_step t
  stands t e = ap (λ (y : State). state_of_step (told_of w.dock.settings y code)) T.flight.stands ∙ ap state_of_step e

  state_other : (y : State) (q : ℕ) → q ≢ p → get_or (set w.dock.states p y) q no_state ≡ state_at w.dock q
  state_other y q n = get_or-set_other w.dock.states p q y no_state n

  state_own : (y : State) → get_or (set w.dock.states p y) p no_state ≡ y
  state_own y = get_or-set_same w.dock.states p y no_state (rw I.held.states h)

  -- the job's data is apart from that of others as before
  still_apart : (y : State) → y.job ≡ x.job → (q : ℕ) → q < 8 → q ≢ p → Taken w.dock q → (is_read_job y.job || is_read_job (state_at w.dock q).job) ≡ true → overlap_of (segments_of v) (segments_of (vector_at w.dock q)) ≡ false
  still_apart y e q g n u r =
      ⊎_elim (λ a. I.apart p q h g (λ z. n (sym z)) taken u (rw e at a)) (λ a. overlap_sym (segments_of v) (segments_of (vector_at w.dock q)) ∙ I.apart q p g h n u taken a)
      (or_cases (is_read_job y.job) (is_read_job (state_at w.dock q).job) r)

  -- a slot with the job y, where its facts are given
  module _ (t : Step) (y : State) (e : told_of w.dock.settings x code ≡ t) (same-job : y.job ≡ x.job) (states : (after w.dock p x code w.memory w.scratch t).dock.states ≡ set w.dock.states p y)
      (vectors : (after w.dock p x code w.memory w.scratch t).dock.vectors ≡ w.dock.vectors) (settings : (after w.dock p x code w.memory w.scratch t).dock.settings ≡ w.dock.settings) (buffers : (after w.dock p x code w.memory w.scratch t).dock.buffers ≡ w.dock.buffers)
      (data-same : (q : ℕ) → q < 8 → q ≢ p → Taken w.dock q → has_vector (state_at w.dock q).job ≡ true → bytes_of (after w.dock p x code w.memory w.scratch t).memory (segments_of (vector_at w.dock q)) ≡ bytes_of w.memory (segments_of (vector_at w.dock q)))
      (share-same : (q i : ℕ) → q ≢ p → i < N → share (after w.dock p x code w.memory w.scratch t).scratch N q i ≡ share w.scratch N q i)
      (wait_less : (q : ℕ) → q < 8 → q ≢ p → waits_of q (after w.dock p x code w.memory w.scratch t).dock.blockers ≡ true → waits_of q w.dock.blockers ≡ true)
      (held : Held (after w.dock p x code w.memory w.scratch t).dock)
      (fits-lent : lent_fits w.dock.buffers (length (after w.dock p x code w.memory w.scratch t).memory) (length (after w.dock p x code w.memory w.scratch t).scratch) ≡ true)
      (flies : Flight w.dock.settings w.store (after w.dock p x code w.memory w.scratch t).memory (share (after w.dock p x code w.memory w.scratch t).scratch N p) y v None (waits_of p (after w.dock p x code w.memory w.scratch t).dock.blockers) job') where
    is_y : state_at (told_world t).dock p ≡ y
    is_y = ap (λ (l : List State). get_or l p no_state) states ∙ state_own y

    is_v : (q : ℕ) → vector_at (told_world t).dock q ≡ vector_at w.dock q
    is_v q = ap (λ (l : List IoVector). get_or l q no_vector) vectors

    slot_inv : SlotInv (told_world t) told_plain p
    slot_inv = record {
      idle = λ f. set_same w.carried p None;
      tracks = λ f. record { j = job'; is = set_same m.jobs p (Some job'); flight = rw (settings, is_y, is_v p, set_same w.carried p None) flies };
    }

    told_step : Inv (told_world t) told_plain
    told_step =
        renewed_inv w (told_world t) m told_plain I p h settings buffers refl refl
        (λ q n. ap (λ (l : List State). get_or l q no_state) states ∙ state_other y q n) (λ q n. is_v q) (λ q n. set_other w.carried p q None n) (λ q n. set_other m.jobs p q (Some job') n)
        data-same share-same (λ q g n a b k i l. refl) wait_less held fits-lent I.same slot_inv
        (λ q g n f u r. rw (is_v p) (still_apart y same-job q g n u (rw is_y at r)))
        (λ f r. rw (is_v p) (I.alone p h taken (subst (λ (k : Job). is_read_job k ≡ true) same-job (rw is_y at r))))

  held_after : (t : Step) → told_of w.dock.settings x code ≡ t → Held (after w.dock p x code w.memory w.scratch t).dock
  held_after t e = subst (λ (k : Step). Held (after w.dock p x code w.memory w.scratch k).dock) e (told_held w.dock I.held p h pending code w.memory w.scratch long)

  -- ---- the stage goes on

  stays_inv : (y : State) → told_of w.dock.settings x code ≡ Stays y → Good (Stays y) → Inv (told_world (Stays y)) told_plain
  stays_inv y e k =
      told_step (Stays y) y e C.job refl refl refl refl (λ q g n f u. refl) (λ q i n l. fill_other N p h y v w.memory w.scratch (room w m I) inside y_fits q i n l) (λ q g n a. a) (held_after (Stays y) e)
      (rw (fill_length N p h y v w.memory w.scratch (room w m I) inside y_fits) I.long)
      (record {
        stands = stands (Stays y) e;
        asked = asked_on T.flight.asked C.job C.range;
        source = λ u. T.flight.source (rw C.job at u);
        geo = rw C.stage T.flight.geo;
        zoned = λ a d. rw (C.course, C.stage, C.range, C.middle) (T.flight.zoned pending (rw C.job at d));
        as_asked = k.0;
        before = λ a z. rw (C.course, C.stage, C.range, C.middle) (T.flight.before pending (rw C.job at z));
        fact = k.1;
        fresh = λ a. never (sym free ∙ a);
      })
    where
      C : Continues w.dock.settings.bounce x y
      C = told_stays w.dock.settings x code y e

      inside : uses_bounce y.phase ≡ true → y.stage.head.0 + size_of y.stage.asked ≤ N
      inside u = (within N y (C.sound S.sound) u).whole

      y_fits : is_write_job y.job ≡ true → copies w.memory v (size_of y.stage.asked) ≡ true
      y_fits u = rw C.stage (fits (rw C.job at u))

  -- ---- the job ends

  handed_late : eqb code 0 ≡ false → handing ≡ w.memory
  unfolding handed
  handed_late e = go (is_bounced_read x.phase) (eqb code 0) e
    where
      go : (t c : Bool) → c ≡ false → (pick (t && c) (copied_at (p * N + x.stage.head.0) (size_of x.stage.asked) v w.memory w.scratch) (record { memory = w.memory; outcome = (Ok tt) })).memory ≡ w.memory
      go true true e = never (sym e)
      go true false e = refl
      go false c e = refl

  -- what is handed out goes into the segments of a read, and nowhere else
  handed_cases : (P : List ℕ → Type 0) → P w.memory → (is_read_job x.job ≡ true → (src : List ℕ) → P (scatter_of w.memory (segments_of v) src)) → P handing
  handed_cases P a b = go (is_bounced_read x.phase) (eqb code 0) refl refl
    where
      go : (t c : Bool) → is_bounced_read x.phase ≡ t → eqb code 0 ≡ c → P handing
      go true true e f = let r = bounced_reads x.phase x refl S.regular e in subst P (sym (is_handed e (eqb-true code 0 f) (read_vector x.job r))) (b r _)
      go true false e f = subst P (sym (handed_late f)) a
      go false c e f = subst P (sym (not_handed e)) a

  ends_inv : (y : State) → told_of w.dock.settings x code ≡ Ends y → Good (Ends y) → Inv (told_world (Ends y)) told_plain
  ends_inv y e k =
      told_step (Ends y) y e F.job refl refl refl refl
      (λ q g n f u.
      handed_cases (λ (l : List ℕ). bytes_of l (segments_of (vector_at w.dock q)) ≡ bytes_of w.memory (segments_of (vector_at w.dock q))) refl
      (λ r src.
      scatter_others w.memory (segments_of (vector_at w.dock q)) (segments_of v) src (segments_lie w m I q g f u) (segments_lie w m I p h taken (read_vector x.job r))
      (overlap_sym (segments_of (vector_at w.dock q)) (segments_of v) ∙ I.apart p q h g (λ z. n (sym z)) taken f r)))
      (λ q i n l. refl) (λ q g n. leave_waits w.dock.blockers I.held.rank I.held.clock I.held.blockers p q h g n x S.entered) (held_after (Ends y) e)
      (handed_cases (λ (l : List ℕ). lent_fits w.dock.buffers (length l) (length w.scratch) ≡ true) I.long (λ r src. rw (scatter_length w.memory (segments_of v) src (segments_lie w m I p h taken (read_vector x.job r))) I.long))
      (record {
        stands = stands (Ends y) e;
        asked = asked_on T.flight.asked F.job F.range;
        source = λ u.
            let writes : is_write_job x.job ≡ true = rw F.job at u in
            handed_cases (λ (l : List ℕ). bytes_of l (segments_of v) ≡ T.j.bytes) (T.flight.source writes) (λ r src. never (sym (read_no_write x.job r) ∙ writes));
        geo = rw F.stage T.flight.geo;
        zoned = λ a. never (sym (ap is_pending F.phase) ∙ a);
        as_asked = rw F.phase tt;
        before = λ a. never (sym (ap is_pending F.phase) ∙ a);
        fact = subst (λ (ph : Phase). Fact ph w.store handing (share w.scratch N p) y v None job') (sym F.phase) (λ a. subst (λ (o : Job). OwedBy o y.range v job' handing) (sym F.job) (subst (λ (r : Range). OwedBy x.job r v job' handing) (sym F.range) (k a)));
        fresh = λ a. (refl, rw F.phase tt);
      })
    where
      F : Finishes x y
      F = told_ends w.dock.settings x code y e

  -- ---- the job enters its next stage

  enters_inv : (y : State) → told_of w.dock.settings x code ≡ Enters y → Good (Enters y) → Inv (told_world (Enters y)) told_plain
  enters_inv y e k =
      told_step (Enters y) y e O.job refl refl refl refl (λ q g n f u. refl) (λ q i n l. fill_other N p h y v w.memory w.scratch (room w m I) inside y_fits q i n l) wait_less (held_after (Enters y) e)
      (rw (fill_length N p h y v w.memory w.scratch (room w m I) inside y_fits) I.long)
      (record {
        stands = stands (Enters y) e;
        asked = asked_on T.flight.asked O.job O.range;
        source = λ u. T.flight.source (rw O.job at u);
        geo = k.shaped.geo;
        zoned = λ a. k.shaped.zoned;
        as_asked = k.shaped.as_asked;
        before = λ a z. k.before;
        fact =
            opened_fact w.store w.memory (share (filling y) N p) y v job' k.shaped.geo k.shaped.unread O.pending
            (λ b i l.
            fill_own N p h y v w.memory w.scratch (room w m I) inside y_fits b T.j.bytes (λ u. T.flight.source (rw O.job at u)) (bounced_puts y y.phase refl Z.1 b) y.stage.asked.start.0 i l);
        fresh = λ a. (refl, k.shaped.unread);
      })
    where
      O : Opens w.dock.settings x.job x.range y
      O = told_enters w.dock.settings x code y e

      Z : (is_zero_job x.job ≡ true) × (is_regular y ≡ true)
      Z = enters_regular w.dock.settings x S.regular code y e

      inside : uses_bounce y.phase ≡ true → y.stage.head.0 + size_of y.stage.asked ≤ N
      inside u = (within N y O.sound u).whole

      y_fits : is_write_job y.job ≡ true → copies w.memory v (size_of y.stage.asked) ≡ true
      y_fits u = never (sym (zero_no_write x.job Z.0) ∙ (rw O.job at u))

      gone : Changes w.dock.blockers p vacant (blockers_without w.dock.blockers p x)
      gone = leave_changes w.dock.blockers p vacant I.held.rank I.held.clock I.held.blockers h x S.entered vacant_unblocked

      wait_less : (q : ℕ) → q < 8 → q ≢ p → waits_of q (after w.dock p x code w.memory w.scratch (Enters y)).dock.blockers ≡ true → waits_of q w.dock.blockers ≡ true
      wait_less q g n a =
          leave_waits w.dock.blockers I.held.rank I.held.clock I.held.blockers p q h g n x S.entered
          (enter_waits (blockers_without w.dock.blockers p x).blockers gone.rank gone.clock gone.reached p q h g n y (gone.entered ∙ vacant_unblocked) a)

  by_step : (t : Step) → told_of w.dock.settings x code ≡ t → Good t → Inv (told_world t) told_plain
  by_step (Stays y) e k = stays_inv y e k
  by_step (Ends y) e k = ends_inv y e k
  by_step (Enters y) e k = enters_inv y e k

  pub told_inv : Inv (told_world (told_of w.dock.settings x code)) told_plain
  told_inv = by_step (told_of w.dock.settings x code) refl good
