-- Each request, carried out with any code, does on the real store and on the plain byte store the same; by which request is out. Assumes nothing.
use Rattle.std.specs.Prelude.{Option, Some, None}
use Rattle.std.specs.Prelude.{Result, Ok}
use mathlib.Core.Path.{◌≡◌, refl, sym, ap, ◌∙◌, subst}
use mathlib.Core.Bool.{Bool, true, false, ◌&&◌}
use mathlib.Core.Logic.{◌⊎◌, inl, inr, ⊎_elim, ◌≢◌}
use mathlib.Core.List.{List, [], ◌∷◌, ◌++◌}
use Prim.Native.Nat.{ℕ, zero, suc, ◌+◌, ◌-◌, ◌*◌, ◌<◌, ◌≤◌}
use native.Mathlib.Omega.{arith}
use native.Mathlib.Decide.{dec_lt}
use lib.Dec.{leb, eqb}
use lib.ListN.{length, get_or, take, drop, length-drop, get_or-append}
use lib.Seq.{take-length, length-take-le, get_or-take, get_or-drop}
use borrow.Author.Tests.{le-leb, ltb-true, leb-true, eq-eqb}
use Rattle.arithmetic.specs.Rounding.{pick}
use Rattle.arithmetic.specs.SettingsLaws.{and_left, and_right}
use Rattle.arithmetic.specs.Offsets.{range_of}
use Rattle.arithmetic.specs.Content.{Bytes, in_range, changed, window, laid_at, in_range_lem, not_in_before, not_in_behind, changed_off, window_length, window_at}
use Rattle.arithmetic.specs.declared.offsets.Range.{Range}
use Rattle.arithmetic.specs.declared.settings.Settings.{Settings}
use Rattle.vectors.specs.Vectors.{size_of as sizeOfAll, lies_in, all_segments, segment, segments_of, bytes_of, scatter_of, put, is_valid}
use Rattle.vectors.specs.SegmentLaws.{valid}
use Rattle.vectors.specs.ByteLaws.{scatter_length, scatter_others, gather_scatter}
use Rattle.vectors.specs.OverlapLaws.{overlap_sym}
use Rattle.vectors.specs.declared.vector.IoVector.{IoVector}
use Rattle.blockers.specs.Blockers.{blocker_at, overlaps, waits_of, strength}
use Rattle.blockers.specs.Laws.{free_apart}
use Rattle.stages.specs.Stages.{size_of, is_pending, is_blocking, uses_bounce, zero_kind, request, request_by, request_of, second_at}
use Rattle.stages.specs.Laws.{StageOnStore, never}
use Rattle.stages.specs.declared.state.Job.{Job}
use Rattle.stages.specs.declared.state.Job.TheVariants.{Read, Write, Zeroes, AllocatedZeroes, Discard}
use Rattle.stages.specs.declared.state.Kind.TheVariants.{Read as KRead}
use Rattle.stages.specs.declared.state.Phase.{Phase}
use Rattle.stages.specs.declared.state.Phase.TheVariants.{Free, Ended, DirectRead, BouncedRead, FirstRead, SecondRead, BouncedWrite, DirectWrite, ZeroRequest, DiscardRequest}
use Rattle.stages.specs.declared.state.Request.{Request}
use Rattle.stages.specs.declared.state.State.{State}
use Rattle.dock.specs.Dock.{state_at, vector_at, is_read_job}
use Rattle.dock.specs.Begin.{is_write_job}
use Rattle.dock.specs.Next.{part_of}
use Rattle.dock.specs.declared.next.Piece.{Piece}
use Rattle.dock.specs.declared.next.Piece.TheVariants.{InScratch}
use Rattle.theorem_lists.specs.Courses.{is_last, has_vector, suits, is_regular, suited}
use Rattle.theorem_lists.specs.Held.{SlotOf}
use Rattle.theorem_lists.specs.Calls.{read_no_write, pending_taken, read_vector, write_vector, direct_reads}
use Rattle.theorem_lists.specs.MadeLaws.{data_long}
use Rattle.theorem_lists.specs.Store.{Choice, Buffered, becomes_new, pieces_from, gathered, landed, yields, store_after, fetched}
use Rattle.theorem_lists.specs.PlainStore.{Did, yielded, wrote, zeroed, discarded, Tracked, Plain, new_bytes, standing, with_step, no_step, step_by, carried_out, carried_by, PlainStepped, after_step, put_job, put_bytes, with_steps}
use Rattle.theorem_lists.specs.Histories.{World, carries_out, puts, put_by, Among, here, OwedBy, acted}
use Rattle.theorem_lists.proofs.Lists.{share_room, share_put_length, share_put_other, share_put_off, share_put_on}
use Rattle.theorem_lists.proofs.Geometry.{Beside, ReadBy, AsAsked}
use Rattle.theorem_lists.proofs.Invariant.{share, Fact, within}
use Rattle.theorem_lists.proofs.World.{Taken, Tracks, Inv, room, segments_lie, shared_overlap}
use Rattle.theorem_lists.proofs.Carrying.{Out, scratch_piece, landed_data, gathered_data, data_pieces_lem, carry_inv}
use Rattle.arithmetic.specs.declared.refusals.Refusal.{Refusal}

-- ---- bytes of a range

-- two changes of the same bytes, by the same choice
pub changed_same : (s t : Bytes) (r : Range) (which : ℕ → Bool) (new old : Bytes) (y : ℕ) → s y ≡ t y → (in_range r y ≡ true → new y ≡ old y) → changed s r which new y ≡ changed t r which old y
unfolding changed
changed_same s t r which new old y e f = go (in_range r y) refl
  where
    go : (a : Bool) → in_range r y ≡ a → pick (a && which y) (new y) (s y) ≡ pick (a && which y) (old y) (t y)
    go true i = rw (f i, e)
    go false i = e

-- a change to the byte that is there
changed_still : (s : Bytes) (r : Range) (which : ℕ → Bool) (new : Bytes) (y : ℕ) → new y ≡ s y → changed s r which new y ≡ s y
unfolding changed
changed_still s r which new y e = go (in_range r y && which y)
  where
    go : (a : Bool) → pick a (new y) (s y) ≡ s y
    go true = e
    go false = refl

-- both sides change there, or neither
both_in : (s t : Bytes) (r g : Range) (which : ℕ → Bool) (a b : Bytes) (y : ℕ) → in_range r y ≡ true → in_range g y ≡ true → a y ≡ b y → s y ≡ t y → changed s r which a y ≡ changed t g which b y
unfolding changed
both_in s t r g which a b y i k e f = rw (i, k, e, f)

-- n bytes of the scratch as a write's only piece
handed_is : (memory scratch : List ℕ) (a n : ℕ) → a + n ≤ length scratch → gathered ((Ok (InScratch (segment a n))) ∷ []) memory scratch ≡ take n (drop a scratch) ++ []
unfolding gathered part_of
handed_is memory scratch a n h = simp (le-leb (a + n) (length scratch) h)

payload_at : (scratch : List ℕ) (a n i : ℕ) → i < n → a + n ≤ length scratch → get_or (take n (drop a scratch) ++ []) i 0 ≡ get_or scratch (a + i) 0
payload_at scratch a n i h l =
    let k : length (take n (drop a scratch)) ≡ n = length-take-le n (drop a scratch) (omega (arith, length-drop a scratch)) in
    get_or-append (take n (drop a scratch)) [] 0 i (omega (arith, k)) ∙ get_or-take n (drop a scratch) i 0 h ∙ get_or-drop a scratch i 0

range_is : (r : Range) → r.start.0 ≤ r.end.0 → range_of r.start.0 (r.start.0 + size_of r) ≡ r
range_is r h = let e : r.start.0 + size_of r ≡ r.end.0 = omega arith in ap (λ (k : ℕ). range_of r.start.0 k) e

yields_is : (code : ℕ) (c : Choice) (s : Bytes) → code ≡ 0 → yields code c s ≡ s
yields_is code c s e = simp (eq-eqb code 0 e)

code_is : (code : ℕ) → ◌≡◌ {A = Option ℕ} (Some code) (Some 0) → code ≡ 0
code_is code e = cc

no_code : {A : Type 0} (code : ℕ) → ◌≡◌ {A = Option ℕ} (Some code) None → A
no_code code e = let z : ◌≡◌ {A = ℕ} 0 1 = cc in absurd (omega arith)

window_same : (s t : Bytes) (o n : ℕ) → ((y : ℕ) → s y ≡ t y) → window s o n ≡ window t o n
unfolding window
window_same s t o zero f = refl
window_same s t o (suc n) f = let a = f o in let b = window_same s t (suc o) n f in λ i. a i ∷ b i

new_write : (j : Job) (o : ℕ) (bs : List ℕ) → is_write_job j ≡ true → new_bytes j o bs ≡ laid_at o bs
new_write Write o bs e = refl
new_write Read o bs e = never e
new_write Zeroes o bs e = never e
new_write AllocatedZeroes o bs e = never e
new_write Discard o bs e = never e

-- one step more
put_more : (d : Did) (ds : List Did) (y : ℕ) → put_by ds y ≡ true → put_by (d ∷ ds) y ≡ true
put_more d ds y e = go (puts d y)
  where
    go : (t : Bool) → pick t true (put_by ds y) ≡ true
    go true = refl
    go false = e

stored_zero : (j : Job) (r : Range) (code : ℕ) (c : Choice) (l : List ℕ) (s : Bytes) → store_after (zero_kind j) r code c l s ≡ changed s r (becomes_new code c) (λ x. 0)
stored_zero Read r code c l s = refl
stored_zero Write r code c l s = refl
stored_zero Zeroes r code c l s = refl
stored_zero AllocatedZeroes r code c l s = refl
stored_zero Discard r code c l s = refl

fetched_zero : (j : Job) (q : Request) (ps : List (Result Piece Refusal)) (code : ℕ) (c : Choice) (s : Bytes) (memory scratch : List ℕ) → fetched (zero_kind j) q ps code c s memory scratch ≡ record { memory = memory; scratch = scratch }
fetched_zero Read q ps code c s memory scratch = refl
fetched_zero Write q ps code c s memory scratch = refl
fetched_zero Zeroes q ps code c s memory scratch = refl
fetched_zero AllocatedZeroes q ps code c s memory scratch = refl
fetched_zero Discard q ps code c s memory scratch = refl

-- the plain byte store's step is that of the state in which its job stands
carried_is : (m : Plain) (p code : ℕ) (c : Choice) (t : Settings) (j : Tracked) (x : State) (ph : Phase) → m.jobs p ≡ Some j → m.settings ≡ t → standing t j.first j.codes ≡ x → x.phase ≡ ph
    → carried_by (m.jobs p) m p code c
    ≡ after_step m p (step_by ph code c x m.bytes j)
unfolding carried_out
carried_is m p code c t j x ph is st stands e =
    ap (λ (o : Option Tracked). carried_by o m p code c) is
    ∙ ap (λ (r : PlainStepped). after_step m p r)
    (ap (λ (u : Settings). step_by (standing u j.first j.codes).phase code c (standing u j.first j.codes) m.bytes j) st
    ∙ ap (λ (y : State). step_by y.phase code c y m.bytes j) stands ∙ ap (λ (k : Phase). step_by k code c x m.bytes j) e)

-- ---- the slot whose request is carried out

module _ (w : World) (m : Plain) (I : Inv w m) (p : ℕ) (q : Request) (O : Out w p q) (code : ℕ) (c : Choice) where
  abbrev x : State
  x = state_at w.dock p

  abbrev v : IoVector
  v = vector_at w.dock p

  abbrev N : ℕ
  N = w.dock.settings.bounce

  S : SlotOf w.dock p
  S = I.held.slots p O.slot

  taken : Taken w.dock p
  taken = pending_taken x.phase O.pending

  T : Tracks w m p
  T = (I.slots p O.slot).tracks taken

  place : StageOnStore x.stage
  place = S.on_store O.pending

  plain_is : (ph : Phase) → x.phase ≡ ph → carried_by (m.jobs p) m p code c
      ≡ after_step m p (step_by ph code c x m.bytes T.j)
  plain_is ph e = carried_is m p code c w.dock.settings T.j x ph T.is I.settings T.flight.stands e

  request_is : (ph : Phase) → x.phase ≡ ph → q ≡ request_by ph x v.count
  unfolding request_of
  request_is ph e = O.is ∙ ap (λ (k : Phase). request_by k x v.count) e

  -- what another slot's facts say of the store stays, where this one's bytes change in its request's range alone
  others_stay : is_blocking x.phase ≡ true → (which : ℕ → Bool) (new : Bytes) → (o : ℕ) → o < 8 → o ≢ p → waits_of o w.dock.blockers ≡ false → (state_at w.dock o).stage.strong ≡ true → is_blocking (state_at w.dock o).phase ≡ true → (i : ℕ) → i < size_of (state_at w.dock o).stage.request
      → changed w.store x.stage.request which new ((state_at w.dock o).stage.request.start.0 + i) ≡ w.store ((state_at w.dock o).stage.request.start.0 + i)
  others_stay b which new o h n free strong blocks i l = changed_off w.store x.stage.request which new y (outside (in_range x.stage.request y) refl)
    where
      y : ℕ
      y = (state_at w.dock o).stage.request.start.0 + i

      U : SlotOf w.dock o
      U = I.held.slots o h

      B : ℕ → Range
      B k = (blocker_at w.dock.blockers k).range

      clear : overlaps (B p) (B o) ≡ false
      clear =
          free_apart w.dock.blockers I.held.rank I.held.clock I.held.blockers p o O.slot h (λ e. n (sym e)) (S.entered ∙ b) (U.entered ∙ blocks)
          (inr ((U.blocker blocks).0 ∙ ap strength strong)) O.free free

      outside : (t : Bool) → in_range x.stage.request y ≡ t → t ≡ false
      outside true e =
          let a = leb-true x.stage.request.start.0 y (and_left _ _ e) in
          let z = ltb-true y x.stage.request.end.0 (and_right (leb x.stage.request.start.0 y) _ e) in
          let own = (S.blocker b).1 in
          let its = (U.blocker blocks).1 in
          sym (shared_overlap (B p) (B o) y (in_range_lem (B p) y (omega (arith, own.from, a)) (omega (arith, own.to, z))) (in_range_lem (B o) y (omega (arith, its.from)) (omega (arith, its.to, l)))) ∙ clear
      outside false e = refl

  -- ---- a read into the share, of the range r, from a on

  module _ (r : Range) (a : ℕ) (is : q ≡ request KRead r 1) (pieces : pieces_from w.dock p (length w.memory) (length w.scratch) 0 1 ≡ (Ok (InScratch (segment (p * N + a) (size_of r)))) ∷ []) (fits : a + size_of r ≤ N) where
    abbrev bs : List ℕ
    bs = window (yields code c w.store) r.start.0 (size_of r)

    bs_long : length bs ≡ size_of r
    bs_long = window_length (yields code c w.store) r.start.0 (size_of r)

    abbrev scratch' : List ℕ
    scratch' = put w.scratch (p * N + a) bs

    abbrev fetching : World
    fetching = acted w p code w.store w.memory scratch'

    share_world : carries_out w p code c q ≡ fetching
    unfolding landed
    share_world =
        ap (λ (k : Request). carries_out w p code c k) is
        ∙ ap (λ (ps : List (Result Piece Refusal)). acted w p code w.store (landed ps bs w.memory w.scratch).memory (landed ps bs w.memory w.scratch).scratch) pieces
        ∙ ap (λ (l : List ℕ). acted w p code w.store w.memory (put w.scratch (p * N + a) l)) whole
      where
        whole : take (size_of r) bs ≡ bs
        whole = ap (λ (n : ℕ). take n bs) (sym bs_long) ∙ take-length bs

    inside : a + length bs ≤ N
    inside = omega (arith, bs_long)

    -- byte i of what was read
    read_on : code ≡ 0 → (i : ℕ) → i < size_of r → share scratch' N p (a + i) ≡ w.store (r.start.0 + i)
    read_on z i h =
        share_put_on w.scratch N p a bs O.slot (room w m I) inside i (omega (arith, bs_long))
        ∙ window_at (yields code c w.store) r.start.0 (size_of r) i h ∙ ap (λ (f : Bytes). f (r.start.0 + i)) (yields_is code c w.store z)

    -- and of what was there before
    read_off : (i : ℕ) → (i < a) ⊎ (a + size_of r ≤ i) → share scratch' N p i ≡ share w.scratch N p i
    read_off i o = share_put_off w.scratch N p a bs O.slot (room w m I) inside i (⊎_elim (λ k. inl k) (λ k. inr (omega (arith, bs_long))) o)

    share_inv : (steps' : List Did) → ((y : ℕ) → put_by T.j.steps y ≡ true → put_by steps' y ≡ true)
        → Fact x.phase w.store w.memory (share scratch' N p) x v (Some code) (with_steps T.j steps')
        → Inv (carries_out w p code c q) (put_job m p (Some (with_steps T.j steps')))
    share_inv steps' grows fact =
        subst (λ (z : World). Inv z (put_job m p (Some (with_steps T.j steps')))) (sym share_world)
        (carry_inv w m I p O.slot O.pending O.free T code w.store w.memory scratch' m.bytes steps' grows
        (λ o g n f u. refl) (λ o i n k. share_put_other w.scratch N p a bs O.slot (room w m I) inside o i (λ z. n (sym z)) k) (λ o g n f s b i k. refl)
        (rw (share_put_length w.scratch N p a bs O.slot (room w m I) inside) I.long) I.same T.flight.source fact)

  first_some : x.phase ≡ FirstRead → 0 < size_of x.stage.first
  unfolding is_regular
  first_some e = let k = S.regular in ltb-true 0 (size_of x.stage.first) (and_right (suits FirstRead x.course x.job) _ (rw e at k))

  second_some : x.phase ≡ SecondRead → 0 < size_of x.stage.second
  unfolding is_regular
  second_some e = let k = S.regular in ltb-true 0 (size_of x.stage.second) (and_right (suits SecondRead x.course x.job) _ (rw e at k))

  at_start : (n : ℕ) → pieces_from w.dock p (length w.memory) (length w.scratch) 0 1 ≡ (Ok (InScratch (segment (p * N) n))) ∷ [] → pieces_from w.dock p (length w.memory) (length w.scratch) 0 1 ≡ (Ok (InScratch (segment (p * N + 0) n))) ∷ []
  at_start n e = let z : p * N ≡ p * N + 0 = omega arith in e ∙ ap (λ (k : ℕ). (Ok (InScratch (segment k n))) ∷ []) z

  carry_first : x.phase ≡ FirstRead → Inv (carries_out w p code c q) (carried_by (m.jobs p) m p code c)
  carry_first e =
      let r = x.stage.first in
      let more = first_some e in
      let pieces = at_start (size_of r) (scratch_piece w m I p q O FirstRead (p * N) (size_of r) e (λ i k. refl) more) in
      let k = (within N x S.sound (ap uses_bounce e)).first in
      let fits : 0 + size_of r ≤ N = omega (arith, k) in
      subst (λ (z : Plain). Inv (carries_out w p code c q) z) (sym (plain_is FirstRead e))
      (share_inv r 0 (request_is FirstRead e) pieces fits T.j.steps (λ y k. k)
      (subst (λ (ph : Phase). Fact ph w.store w.memory (share (put w.scratch (p * N + 0) (window (yields code c w.store) r.start.0 (size_of r))) N p) x v (Some code) T.j) (sym e)
      (λ z i h.
      let o : i ≡ 0 + i = omega arith in
      ap (λ (k : ℕ). share (put w.scratch (p * N + 0) (window (yields code c w.store) r.start.0 (size_of r))) N p k) o
      ∙ read_on r 0 (request_is FirstRead e) pieces fits (code_is code z) i h ∙ ap (λ (k : ℕ). w.store (k + i)) (place.first_starts more))))

  carry_second : x.phase ≡ SecondRead → Inv (carries_out w p code c q) (carried_by (m.jobs p) m p code c)
  carry_second e =
      subst (λ (z : Plain). Inv (carries_out w p code c q) z) (sym (plain_is SecondRead e))
      (share_inv r b is pieces fits T.j.steps (λ y k. k)
      (subst (λ (ph : Phase). Fact ph w.store w.memory (share (put w.scratch (p * N + b) (window (yields code c w.store) r.start.0 (size_of r))) N p) x v (Some code) T.j) (sym e)
      ((λ z. no_code code z), λ z i h k. at_byte (code_is code z) i h k)))
    where
      r : Range
      r = x.stage.second

      b : ℕ
      b = second_at x.stage

      is : q ≡ request KRead x.stage.second 1
      is = request_is SecondRead e

      more : 0 < size_of x.stage.second
      more = second_some e

      pieces : pieces_from w.dock p (length w.memory) (length w.scratch) 0 1 ≡ (Ok (InScratch (segment (p * N + second_at x.stage) (size_of x.stage.second)))) ∷ []
      pieces = scratch_piece w m I p q O SecondRead (p * N + second_at x.stage) (size_of x.stage.second) e (λ i k. refl) more

      fits : second_at x.stage + size_of x.stage.second ≤ N
      fits = (within N x S.sound (ap uses_bounce e)).second

      old : (i : ℕ) → i < size_of x.stage.first → share w.scratch N p i ≡ w.store (x.stage.request.start.0 + i)
      old i h = (subst (λ (ph : Phase). Fact ph w.store w.memory (share w.scratch N p) x v (w.carried p) T.j) e T.flight.fact).0 O.once i h

      behind : code ≡ 0 → (i : ℕ) → i < size_of x.stage.request → b ≤ i → share (put w.scratch (p * N + b) (window (yields code c w.store) r.start.0 (size_of r))) N p i ≡ w.store (x.stage.request.start.0 + i)
      behind z i h k =
          let o : i ≡ b + (i - b) = omega arith in
          let starts = place.second_starts more in
          let ends = place.second_ends more in
          let y : x.stage.second.start.0 + (i - second_at x.stage) ≡ x.stage.request.start.0 + i = omega (arith, starts, k) in
          ap (λ (n : ℕ). share (put w.scratch (p * N + b) (window (yields code c w.store) r.start.0 (size_of r))) N p n) o
          ∙ read_on r b is pieces fits z (i - b) (omega (arith, starts, ends, k, h)) ∙ ap w.store y

      at_byte : code ≡ 0 → (i : ℕ) → i < size_of x.stage.request → ReadBy x.stage i → share (put w.scratch (p * N + b) (window (yields code c w.store) r.start.0 (size_of r))) N p i ≡ w.store (x.stage.request.start.0 + i)
      at_byte z i h k = elim (dec_lt i b) [
        | yes l ↦ read_off r b is pieces fits i (inl l) ∙ ⊎_elim (λ a. old i a) (λ a. absurd (omega (arith, a.1, l))) k
        | no l ↦ behind z i h (omega arith)
      ]

  -- ---- a padded read

  sole : has_vector x.job ≡ true → x.stage.asked ≡ x.range
  sole u = S.sole taken u

  bounced_read : x.phase ≡ BouncedRead → is_read_job x.job ≡ true
  bounced_read e = and_right (is_last x.course) _ (suited x S.regular BouncedRead e)

  carry_read : x.phase ≡ BouncedRead → Inv (carries_out w p code c q) (carried_by (m.jobs p) m p code c)
  carry_read e = subst (λ (z : Plain). Inv (carries_out w p code c q) z) (sym (plain_is BouncedRead e)) (go (eqb code 0) refl)
    where
      r : Range
      r = x.stage.request

      g : Range
      g = x.stage.asked

      is : q ≡ request KRead x.stage.request 1
      is = request_is BouncedRead e

      pieces : pieces_from w.dock p (length w.memory) (length w.scratch) 0 1 ≡ (Ok (InScratch (segment (p * N + 0) (size_of x.stage.request)))) ∷ []
      pieces = at_start (size_of x.stage.request) (scratch_piece w m I p q O BouncedRead (p * N) (size_of x.stage.request) e (λ i k. refl) (omega (arith, place.some)))

      fits : 0 + size_of x.stage.request ≤ N
      fits = let k = (within N x S.sound (ap uses_bounce e)).size in omega (arith, k)

      range_same : x.range ≡ x.stage.asked
      range_same = sym (sole (read_vector x.job (bounced_read e)))

      sh : ℕ → ℕ
      sh = share (put w.scratch (p * N + 0) (window (yields code c w.store) r.start.0 (size_of r))) N p

      ys : List ℕ
      ys = window m.bytes g.start.0 (size_of g)

      byte : code ≡ 0 → (i : ℕ) → i < size_of g → sh (x.stage.head.0 + i) ≡ get_or ys i 0
      byte z i h =
          let o : x.stage.head.0 + i ≡ 0 + (x.stage.head.0 + i) = omega arith in
          let starts = place.asked_starts in
          let ends = place.asked_ends in
          let y : x.stage.request.start.0 + (x.stage.head.0 + i) ≡ x.stage.asked.start.0 + i = omega (arith, starts) in
          ap sh o ∙ read_on r 0 is pieces fits z (x.stage.head.0 + i) (omega (arith, starts, ends, h)) ∙ ap w.store y
          ∙ I.same (g.start.0 + i) ∙ sym (window_at m.bytes g.start.0 (size_of g) i h)

      go : (t : Bool) → eqb code 0 ≡ t
          → Inv (carries_out w p code c q) (after_step m p (pick t (record { bytes = m.bytes; job = with_step T.j (yielded g ys) }) (no_step m.bytes T.j)))
      go true z =
          share_inv r 0 is pieces fits (yielded g ys ∷ T.j.steps) (λ y k. k)
          (subst (λ (ph : Phase). Fact ph w.store w.memory sh x v (Some code) (with_step T.j (yielded g ys))) (sym e)
          (λ k. (ys, subst (λ (o : Range). Among (yielded o ys) (yielded g ys ∷ T.j.steps)) (sym range_same) here, window_length m.bytes g.start.0 (size_of g), λ i h. byte (code_is code k) i h)))
      go false z =
          share_inv r 0 is pieces fits T.j.steps (λ y k. k)
          (subst (λ (ph : Phase). Fact ph w.store w.memory sh x v (Some code) T.j) (sym e) (λ k. never (sym z ∙ eq-eqb code 0 (code_is code k))))

  -- ---- a read into the segments

  long : length w.memory ≡ w.dock.buffers.«data».length
  long = data_long w.dock.buffers (length w.memory) (length w.scratch) I.long

  valid_vector : has_vector x.job ≡ true → is_valid (length w.memory) v ≡ true
  valid_vector u = rw long (S.vector taken u).0

  carry_direct_read : x.phase ≡ DirectRead → Inv (carries_out w p code c q) (carried_by (m.jobs p) m p code c)
  carry_direct_read e = subst (λ (z : Plain). Inv (carries_out w p code c q) z) (sym (plain_is DirectRead e)) (subst (λ (z : World). Inv z (plainly (eqb code 0))) (sym world) (go (eqb code 0) refl))
    where
      r : Range
      r = x.stage.request

      g : Range
      g = x.stage.asked

      reads : is_read_job x.job ≡ true
      reads = direct_reads x S.regular e

      has : has_vector x.job ≡ true
      has = read_vector x.job reads

      as_asked : x.stage.asked ≡ x.stage.request
      as_asked = subst (λ (ph : Phase). AsAsked ph x.stage) e T.flight.as_asked

      got : List ℕ
      got = window (yields code c w.store) r.start.0 (size_of r)

      ys : List ℕ
      ys = window m.bytes g.start.0 (size_of g)

      lie : all_segments (lies_in (length w.memory)) (segments_of v) ≡ true
      lie = segments_lie w m I p O.slot taken has

      memory' : List ℕ
      memory' = scatter_of w.memory (segments_of v) got

      plainly : Bool → Plain
      plainly t = after_step m p (pick t (record { bytes = m.bytes; job = with_step T.j (yielded g ys) }) (no_step m.bytes T.j))

      world : carries_out w p code c q ≡ acted w p code w.store memory' w.scratch
      world =
          ap (λ (k : Request). carries_out w p code c k) (request_is DirectRead e)
          ∙ ap (λ (ps : List (Result Piece Refusal)). acted w p code w.store (landed ps got w.memory w.scratch).memory (landed ps got w.memory w.scratch).scratch)
          (data_pieces_lem w m I p q O DirectRead e (λ i k. refl) (valid_vector has))
          ∙ ap (λ (b : Buffered). acted w p code w.store b.memory b.scratch) (landed_data v.count v.segments got w.memory w.scratch)

      size : length got ≡ sizeOfAll (segments_of v)
      size =
          window_length (yields code c w.store) r.start.0 (size_of r) ∙ ap size_of (sym as_asked) ∙ ap size_of (sole has) ∙ sym (S.vector taken has).1 ∙ (valid (length w.memory) v (valid_vector has)).total

      same_bytes : code ≡ 0 → got ≡ ys
      same_bytes z =
          ap (λ (f : Bytes). window f r.start.0 (size_of r)) (yields_is code c w.store z) ∙ window_same w.store m.bytes r.start.0 (size_of r) I.same
          ∙ ap (λ (k : Range). window m.bytes k.start.0 (size_of k)) (sym as_asked)

      range_same : x.range ≡ x.stage.asked
      range_same = sym (sole has)

      holds : bytes_of memory' (segments_of v) ≡ got
      holds = gather_scatter w.memory (segments_of v) got lie (I.alone p O.slot taken reads) size

      inv : (steps' : List Did) → ((y : ℕ) → put_by T.j.steps y ≡ true → put_by steps' y ≡ true)
          → (◌≡◌ {A = Option ℕ} (Some code) (Some 0) → OwedBy Read x.range v (with_steps T.j steps') memory')
          → Inv (acted w p code w.store memory' w.scratch) (put_job m p (Some (with_steps T.j steps')))
      inv steps' grows owed =
          carry_inv w m I p O.slot O.pending O.free T code w.store memory' w.scratch m.bytes steps' grows
          (λ o k n f u.
          scatter_others w.memory (segments_of (vector_at w.dock o)) (segments_of v) got (segments_lie w m I o k f u) lie
          (overlap_sym (segments_of (vector_at w.dock o)) (segments_of v) ∙ I.apart p o O.slot k (λ z. n (sym z)) taken f reads))
          (λ o i n k. refl) (λ o k n f s b i l. refl) (rw (scatter_length w.memory (segments_of v) got lie) I.long) I.same
          (λ u. never (sym (read_no_write x.job reads) ∙ u))
          (subst (λ (ph : Phase). Fact ph w.store memory' (share w.scratch N p) x v (Some code) (with_steps T.j steps')) (sym e) owed)

      go : (t : Bool) → eqb code 0 ≡ t → Inv (acted w p code w.store memory' w.scratch) (plainly t)
      go true z = inv (yielded g ys ∷ T.j.steps) (λ y k. k) (λ k. (ys, subst (λ (o : Range). Among (yielded o ys) (yielded g ys ∷ T.j.steps)) (sym range_same) here, holds ∙ same_bytes (code_is code k)))
      go false z = inv T.j.steps (λ y k. k) (λ k. never (sym z ∙ eq-eqb code 0 (code_is code k)))

  -- ---- what a request puts on the store

  abbrev writing : Bytes → World
  writing s = acted w p code s w.memory w.scratch

  abbrev which : ℕ → Bool
  which = becomes_new code c

  ordered : x.stage.request.start.0 ≤ x.stage.request.end.0
  ordered = omega (arith, place.some)

  -- a change in the request's range, tracked as one step
  put_inv : is_blocking x.phase ≡ true → (test : ℕ → Bool) (new bytes' : Bytes) (d : Did) → ((y : ℕ) → changed w.store x.stage.request test new y ≡ bytes' y)
      → Fact x.phase (changed w.store x.stage.request test new) w.memory (share w.scratch N p) x v (Some code) (with_step T.j d)
      → Inv (writing (changed w.store x.stage.request test new)) (put_job (put_bytes m bytes') p (Some (with_step T.j d)))
  put_inv b test new bytes' d same fact =
      carry_inv w m I p O.slot O.pending O.free T code (changed w.store x.stage.request test new) w.memory w.scratch bytes' (d ∷ T.j.steps) (λ y k. put_more d T.j.steps y k)
      (λ o g n f u. refl) (λ o i n k. refl) (λ o g n f s k i l. others_stay b test new o g n f s k i l) I.long same T.flight.source fact

  carry_zero : x.phase ≡ ZeroRequest → Inv (carries_out w p code c q) (carried_by (m.jobs p) m p code c)
  carry_zero e =
      subst (λ (z : Plain). Inv (carries_out w p code c q) z) (sym (plain_is ZeroRequest e)) (subst (λ (z : World). Inv z plainly) (sym world)
      (put_inv (ap is_blocking e) which (λ y. 0) (changed m.bytes r which (λ y. 0)) (zeroed r code) (λ y. changed_same w.store m.bytes r which (λ y. 0) (λ y. 0) y (I.same y) (λ k. refl))
      (subst (λ (ph : Phase). Fact ph (changed w.store r which (λ y. 0)) w.memory (share w.scratch N p) x v (Some code) (with_step T.j (zeroed r code))) (sym e)
      (λ k. subst (λ (n : ℕ). Among (zeroed r n) (zeroed r code ∷ T.j.steps)) (code_is code k) here))))
    where
      r : Range
      r = x.stage.request

      plainly : Plain
      plainly = put_job (put_bytes m (changed m.bytes r which (λ y. 0))) p (Some (with_step T.j (zeroed r code)))

      world : carries_out w p code c q ≡ writing (changed w.store r which (λ y. 0))
      world =
          ap (λ (k : Request). carries_out w p code c k) (request_is ZeroRequest e)
          ∙ ap (λ (b : Buffered). acted w p code (store_after (zero_kind x.job) (range_of r.start.0 (r.start.0 + size_of r)) code c (gathered (pieces_from w.dock p (length w.memory) (length w.scratch) 0 0) w.memory w.scratch) w.store) b.memory b.scratch)
          (fetched_zero x.job (request (zero_kind x.job) r 0) (pieces_from w.dock p (length w.memory) (length w.scratch) 0 0) code c w.store w.memory w.scratch)
          ∙ ap (λ (s : Bytes). writing s)
          (stored_zero x.job (range_of r.start.0 (r.start.0 + size_of r)) code c (gathered (pieces_from w.dock p (length w.memory) (length w.scratch) 0 0) w.memory w.scratch) w.store
          ∙ ap (λ (k : Range). changed w.store k which (λ y. 0)) (range_is r ordered))

  carry_discard : x.phase ≡ DiscardRequest → Inv (carries_out w p code c q) (carried_by (m.jobs p) m p code c)
  carry_discard e =
      subst (λ (z : Plain). Inv (carries_out w p code c q) z) (sym (plain_is DiscardRequest e)) (subst (λ (z : World). Inv z plainly) (sym world)
      (put_inv (ap is_blocking e) (λ y. true) c.left (changed m.bytes r (λ y. true) c.left) (discarded r) (λ y. changed_same w.store m.bytes r (λ y. true) c.left c.left y (I.same y) (λ k. refl))
      (subst (λ (ph : Phase). Fact ph (changed w.store r (λ y. true) c.left) w.memory (share w.scratch N p) x v (Some code) (with_step T.j (discarded r))) (sym e) tt)))
    where
      r : Range
      r = x.stage.request

      plainly : Plain
      plainly = put_job (put_bytes m (changed m.bytes r (λ y. true) c.left)) p (Some (with_step T.j (discarded r)))

      world : carries_out w p code c q ≡ writing (changed w.store r (λ y. true) c.left)
      world =
          ap (λ (k : Request). carries_out w p code c k) (request_is DiscardRequest e)
          ∙ ap (λ (k : Range). writing (changed w.store k (λ y. true) c.left)) (range_is r ordered)

  -- ---- writes

  abbrev new : Bytes
  new = new_bytes x.job x.stage.asked.start.0 T.j.bytes

  carry_direct_write : x.phase ≡ DirectWrite → Inv (carries_out w p code c q) (carried_by (m.jobs p) m p code c)
  carry_direct_write e =
      subst (λ (z : Plain). Inv (carries_out w p code c q) z) (sym (plain_is DirectWrite e)) (subst (λ (z : World). Inv z plainly) (sym world)
      (put_inv (ap is_blocking e) which new (changed m.bytes x.stage.asked which new) (wrote x.stage.asked code new) same
      (subst (λ (ph : Phase). Fact ph (changed w.store x.stage.request which new) w.memory (share w.scratch N p) x v (Some code) (with_step T.j (wrote x.stage.asked code new))) (sym e)
      (λ k. subst (λ (n : ℕ). Among (wrote x.stage.asked n new) (wrote x.stage.asked code new ∷ T.j.steps)) (code_is code k) here))))
    where
      r : Range
      r = x.stage.request

      as_asked : x.stage.asked ≡ x.stage.request
      as_asked = subst (λ (ph : Phase). AsAsked ph x.stage) e T.flight.as_asked

      writes : is_write_job x.job ≡ true
      writes = and_right (is_last x.course) _ (suited x S.regular DirectWrite e)

      has : has_vector x.job ≡ true
      has = write_vector x.job writes

      plainly : Plain
      plainly = put_job (put_bytes m (changed m.bytes x.stage.asked which new)) p (Some (with_step T.j (wrote x.stage.asked code new)))

      payload : gathered (pieces_from w.dock p (length w.memory) (length w.scratch) 0 v.count) w.memory w.scratch ≡ T.j.bytes
      payload =
          ap (λ (ps : List (Result Piece Refusal)). gathered ps w.memory w.scratch) (data_pieces_lem w m I p q O DirectWrite e (λ i k. refl) (valid_vector has))
          ∙ gathered_data v.count v.segments w.memory w.scratch (segments_lie w m I p O.slot taken has) ∙ T.flight.source writes

      is_new_lem : laid_at r.start.0 T.j.bytes ≡ new
      is_new_lem = ap (λ (k : Range). laid_at k.start.0 T.j.bytes) (sym as_asked) ∙ sym (new_write x.job x.stage.asked.start.0 T.j.bytes writes)

      world : carries_out w p code c q ≡ writing (changed w.store r which new)
      world =
          ap (λ (k : Request). carries_out w p code c k) (request_is DirectWrite e)
          ∙ ap (λ (l : List ℕ). writing (changed w.store (range_of r.start.0 (r.start.0 + size_of r)) which (laid_at r.start.0 l))) payload
          ∙ ap (λ (k : Range). writing (changed w.store k which (laid_at r.start.0 T.j.bytes))) (range_is r ordered)
          ∙ ap (λ (f : Bytes). writing (changed w.store r which f)) is_new_lem

      same : (y : ℕ) → changed w.store r which new y ≡ changed m.bytes x.stage.asked which new y
      same y = changed_same w.store m.bytes r which new new y (I.same y) (λ k. refl) ∙ ap (λ (k : Range). changed m.bytes k which new y) (sym as_asked)

  carry_bounced_write : x.phase ≡ BouncedWrite → Inv (carries_out w p code c q) (carried_by (m.jobs p) m p code c)
  carry_bounced_write e =
      subst (λ (z : Plain). Inv (carries_out w p code c q) z) (sym (plain_is BouncedWrite e)) (subst (λ (z : World). Inv z plainly) (sym world)
      (put_inv (ap is_blocking e) which laid (changed m.bytes g which new) (wrote g code new) same
      (subst (λ (ph : Phase). Fact ph (changed w.store r which laid) w.memory (share w.scratch N p) x v (Some code) (with_step T.j (wrote g code new))) (sym e)
      (old.0, (λ i h b. old.1 i h b ∙ sym (still i h b)), λ k. subst (λ (n : ℕ). Among (wrote g n new) (wrote g code new ∷ T.j.steps)) (code_is code k) here))))
    where
      r : Range
      r = x.stage.request

      g : Range
      g = x.stage.asked

      plainly : Plain
      plainly = put_job (put_bytes m (changed m.bytes g which new)) p (Some (with_step T.j (wrote g code new)))

      old : Fact BouncedWrite w.store w.memory (share w.scratch N p) x v (w.carried p) T.j
      old = subst (λ (ph : Phase). Fact ph w.store w.memory (share w.scratch N p) x v (w.carried p) T.j) e T.flight.fact

      sized : size_of x.stage.request ≤ N
      sized = (within N x S.sound (ap uses_bounce e)).size

      payload : List ℕ
      payload = take (size_of r) (drop (p * N) w.scratch) ++ []

      laid : Bytes
      laid = laid_at r.start.0 payload

      roomy : p * N + size_of x.stage.request ≤ length w.scratch
      roomy = omega (arith, share_room N p (length w.scratch) O.slot (room w m I), sized)

      handed : gathered ((Ok (InScratch (segment (p * N) (size_of r)))) ∷ []) w.memory w.scratch ≡ payload
      handed = handed_is w.memory w.scratch (p * N) (size_of r) roomy

      -- byte i of what is written is that of the share
      laid_at_lem : (i : ℕ) → i < size_of r → laid (r.start.0 + i) ≡ share w.scratch N p i
      laid_at_lem i h =
          let o : r.start.0 + i - r.start.0 ≡ i = omega arith in
          ap (λ (k : ℕ). get_or payload k 0) o ∙ payload_at w.scratch (p * N) (size_of r) i h roomy

      world : carries_out w p code c q ≡ writing (changed w.store r which laid)
      world =
          ap (λ (k : Request). carries_out w p code c k) (request_is BouncedWrite e)
          ∙ ap (λ (ps : List (Result Piece Refusal)). writing (changed w.store (range_of r.start.0 (r.start.0 + size_of r)) which (laid_at r.start.0 (gathered ps w.memory w.scratch))))
          (scratch_piece w m I p q O BouncedWrite (p * N) (size_of r) e (λ i k. refl) (omega (arith, place.some)))
          ∙ ap (λ (l : List ℕ). writing (changed w.store (range_of r.start.0 (r.start.0 + size_of r)) which (laid_at r.start.0 l))) handed
          ∙ ap (λ (k : Range). writing (changed w.store k which laid)) (range_is r ordered)

      -- a byte beside the asked ones becomes what it was
      still : (i : ℕ) → i < size_of r → Beside x.stage i → changed w.store r which laid (r.start.0 + i) ≡ w.store (r.start.0 + i)
      still i h b = changed_still w.store r which laid (r.start.0 + i) (laid_at_lem i h ∙ old.1 i h b)

      -- an asked one becomes the job's new byte
      renewed : (y : ℕ) → g.start.0 ≤ y → y < g.end.0 → laid y ≡ new y
      renewed y h k =
          let starts = place.asked_starts in
          let ends = place.asked_ends in
          let a : y ≡ r.start.0 + (x.stage.head.0 + (y - g.start.0)) = omega (arith, starts, h) in
          let b : g.start.0 + (y - g.start.0) ≡ y = omega (arith, h) in
          ap laid a ∙ laid_at_lem (x.stage.head.0 + (y - g.start.0)) (omega (arith, starts, ends, h, k)) ∙ old.0 (y - g.start.0) (omega (arith, h, k)) ∙ ap new b

      same : (y : ℕ) → changed w.store r which laid y ≡ changed m.bytes g which new y
      same y = elim (dec_lt y g.start.0) [
        | yes a ↦ beside (λ l h k. omega (arith, place.asked_starts, l, h, a)) ∙ I.same y ∙ sym (changed_off m.bytes g which new y (not_in_before g y a))
        | no a ↦ elim (dec_lt y g.end.0) [
          | yes b ↦ inside (omega (arith, a)) b
          | no b ↦ beside (λ l h k. omega (arith, place.asked_starts, place.asked_some, l, k, b)) ∙ I.same y ∙ sym (changed_off m.bytes g which new y (not_in_behind g y (omega (arith, b))))
        ]
      ]
        where
          -- outside the asked range nothing changes
          beside : (r.start.0 ≤ y → x.stage.head.0 ≤ y - r.start.0 → y - r.start.0 < x.stage.head.0 + size_of g → ⊥) → changed w.store r which laid y ≡ w.store y
          beside f = go (in_range r y) refl
            where
              go : (t : Bool) → in_range r y ≡ t → changed w.store r which laid y ≡ w.store y
              go true i =
                  let l = leb-true r.start.0 y (and_left _ _ i) in
                  let u = ltb-true y r.end.0 (and_right (leb r.start.0 y) _ i) in
                  let z : y ≡ r.start.0 + (y - r.start.0) = omega (arith, l) in
                  ap (λ (n : ℕ). changed w.store r which laid n) z ∙ still (y - r.start.0) (omega (arith, l, u)) (f l) ∙ ap w.store (sym z)
              go false i = changed_off w.store r which laid y i

          inside : g.start.0 ≤ y → y < g.end.0 → changed w.store r which laid y ≡ changed m.bytes g which new y
          inside h k =
              both_in w.store m.bytes r g which laid new y (in_range_lem r y (omega (arith, place.asked_starts, h)) (omega (arith, place.asked_ends, k))) (in_range_lem g y h k) (renewed y h k) (I.same y)

  -- ---- every request

  carry_by : (ph : Phase) → x.phase ≡ ph → is_pending ph ≡ true → Inv (carries_out w p code c q) (carried_by (m.jobs p) m p code c)
  carry_by Free e k = never k
  carry_by Ended e k = never k
  carry_by DirectRead e k = carry_direct_read e
  carry_by BouncedRead e k = carry_read e
  carry_by FirstRead e k = carry_first e
  carry_by SecondRead e k = carry_second e
  carry_by BouncedWrite e k = carry_bounced_write e
  carry_by DirectWrite e k = carry_direct_write e
  carry_by ZeroRequest e k = carry_zero e
  carry_by DiscardRequest e k = carry_discard e

  pub carried_inv : Inv (carries_out w p code c q) (carried_by (m.jobs p) m p code c)
  carried_inv = carry_by x.phase refl O.pending
