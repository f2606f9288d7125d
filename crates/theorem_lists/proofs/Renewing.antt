-- An event that changes one slot keeps the invariant where that slot has it anew; and so it holds at opening and is kept by collect. Assumes nothing.
use Rattle.std.specs.Prelude.{None}
use Rattle.std.specs.Prelude.{Ok}
use mathlib.Core.Path.{◌≡◌, refl, sym, ap, ◌∙◌, subst}
use mathlib.Core.Bool.{true, false, ◌||◌, or-true}
use mathlib.Core.Logic.{◌≢◌}
use mathlib.Core.List.{List, []}
use Prim.Native.Nat.{ℕ, ◌+◌, ◌<◌}
use native.Mathlib.Decide.{ℕ_discrete}
use lib.ListN.{length, get_or-replicate}
use lib.Seq.{get_or-set_same, get_or-set_other}
use borrow.Author.Tests.{eq-eqb, ne_eqb}
use Rattle.arithmetic.specs.Settings.{opening_of}
use Rattle.arithmetic.specs.Content.{Bytes}
use Rattle.arithmetic.specs.declared.settings.Settings.{Settings}
use Rattle.arithmetic.specs.declared.settings.Buffers.{Buffers}
use Rattle.vectors.specs.Vectors.{segments_of, bytes_of, overlap_of, self_overlap_of, vector_of}
use Rattle.vectors.specs.OverlapLaws.{overlap_sym}
use Rattle.blockers.specs.Blockers.{waits_of}
use Rattle.stages.specs.Stages.{size_of, is_free, is_pending, is_blocking, has_ended}
use Rattle.stages.specs.declared.state.Phase.{Phase}
use Rattle.stages.specs.declared.state.Phase.TheVariants.{Free, Ended, DirectRead, BouncedRead, FirstRead, SecondRead, BouncedWrite, DirectWrite, ZeroRequest, DiscardRequest}
use Rattle.stages.specs.declared.state.State.{State}
use Rattle.dock.specs.Dock.{no_state, no_vector, vacant, fresh, open_of, state_at, vector_at, lent_fits, is_read_job}
use Rattle.dock.specs.Begin.{with_job}
use Rattle.stages.specs.Laws.{never}
use Rattle.theorem_lists.specs.Courses.{has_vector}
use Rattle.theorem_lists.specs.Held.{Held}
use Rattle.theorem_lists.specs.Keeping.{fresh_held}
use Rattle.theorem_lists.specs.Calls.{freed_held}
use Rattle.theorem_lists.specs.PlainStore.{Plain, plain_opened, set_at, put_job}
use Rattle.theorem_lists.specs.Histories.{World, opened, Same, called}
use Rattle.theorem_lists.proofs.Invariant.{share}
use Rattle.theorem_lists.proofs.World.{Taken, SlotInv, Inv, slot_frame}

-- ---- one slot anew

pub set_same : {A : Type 0} (f : ℕ → A) (p : ℕ) (a : A) → set_at f p a p ≡ a
set_same f p a = simp (eq-eqb p p refl)

pub set_other : {A : Type 0} (f : ℕ → A) (p q : ℕ) (a : A) → q ≢ p → set_at f p a q ≡ f q
set_other f p q a n = simp (ne_eqb q p n)

module _ (w w' : World) (m m' : Plain) (I : Inv w m) (p : ℕ) (h : p < 8)
    (settings : w'.dock.settings ≡ w.dock.settings) (buffers : w'.dock.buffers ≡ w.dock.buffers) (plain-settings : m'.settings ≡ m.settings) (plain-buffers : m'.buffers ≡ m.buffers)
    (state_other : (q : ℕ) → q ≢ p → state_at w'.dock q ≡ state_at w.dock q) (vector-other : (q : ℕ) → q ≢ p → vector_at w'.dock q ≡ vector_at w.dock q)
    (carried_other : (q : ℕ) → q ≢ p → w'.carried q ≡ w.carried q) (jobs-other : (q : ℕ) → q ≢ p → m'.jobs q ≡ m.jobs q)
    (data-same : (q : ℕ) → q < 8 → q ≢ p → Taken w.dock q → has_vector (state_at w.dock q).job ≡ true → bytes_of w'.memory (segments_of (vector_at w.dock q)) ≡ bytes_of w.memory (segments_of (vector_at w.dock q)))
    (share-same : (q i : ℕ) → q ≢ p → i < w.dock.settings.bounce → share w'.scratch w.dock.settings.bounce q i ≡ share w.scratch w.dock.settings.bounce q i)
    (store_same : (q : ℕ) → q < 8 → q ≢ p → waits_of q w.dock.blockers ≡ false → (state_at w.dock q).stage.strong ≡ true → is_blocking (state_at w.dock q).phase ≡ true → (i : ℕ) → i < size_of (state_at w.dock q).stage.request
    → w'.store ((state_at w.dock q).stage.request.start.0 + i) ≡ w.store ((state_at w.dock q).stage.request.start.0 + i))
    (wait_less : (q : ℕ) → q < 8 → q ≢ p → waits_of q w'.dock.blockers ≡ true → waits_of q w.dock.blockers ≡ true)
    (held : Held w'.dock) (long : lent_fits w.dock.buffers (length w'.memory) (length w'.scratch) ≡ true) (same : Same w' m') (own : SlotInv w' m' p)
    (apart-own : (q : ℕ) → q < 8 → q ≢ p → Taken w'.dock p → Taken w.dock q → (is_read_job (state_at w'.dock p).job || is_read_job (state_at w.dock q).job) ≡ true → overlap_of (segments_of (vector_at w'.dock p)) (segments_of (vector_at w.dock q)) ≡ false)
    (alone-own : Taken w'.dock p → is_read_job (state_at w'.dock p).job ≡ true → self_overlap_of (segments_of (vector_at w'.dock p)) ≡ false) where
  other : (q : ℕ) → q < 8 → q ≢ p → SlotInv w' m' q
  other q g n =
      slot_frame w w' m m' I q g settings (state_other q n) (vector-other q n) (carried_other q n) (jobs-other q n) (data-same q g n) (λ i k. share-same q i n k) (store_same q g n) (wait_less q g n)

  each : (q : ℕ) → q < 8 → SlotInv w' m' q
  each q g = elim (ℕ_discrete q p) [
    | yes i ↦ subst (λ (k : ℕ). SlotInv w' m' k) (sym i) own
    | no n ↦ other q g n
  ]

  -- p against another, and another against p
  own_first : (q : ℕ) → q < 8 → q ≢ p → Taken w'.dock p → Taken w'.dock q → is_read_job (state_at w'.dock p).job ≡ true → overlap_of (segments_of (vector_at w'.dock p)) (segments_of (vector_at w'.dock q)) ≡ false
  own_first q g n t u r = rw (vector-other q n) (apart-own q g n t (rw (state_other q n) at u) (rw r))

  own_second : (q : ℕ) → q < 8 → q ≢ p → Taken w'.dock q → Taken w'.dock p → is_read_job (state_at w'.dock q).job ≡ true → overlap_of (segments_of (vector_at w'.dock q)) (segments_of (vector_at w'.dock p)) ≡ false
  own_second q g n t u r =
      overlap_sym (segments_of (vector_at w'.dock q)) (segments_of (vector_at w'.dock p))
      ∙ (rw (vector-other q n) (apart-own q g n u (rw (state_other q n) at t) (let e : is_read_job (state_at w.dock q).job ≡ true = rw (state_other q n) at r in rw e (or-true (is_read_job (state_at w'.dock p).job)))))

  pairs : (a b : ℕ) → a < 8 → b < 8 → a ≢ b → Taken w'.dock a → Taken w'.dock b → is_read_job (state_at w'.dock a).job ≡ true
      → overlap_of (segments_of (vector_at w'.dock a)) (segments_of (vector_at w'.dock b)) ≡ false
  pairs a b ha hb n t u r = elim (ℕ_discrete a p) [
    | yes i ↦ subst (λ (k : ℕ). k ≢ b → Taken w'.dock k → is_read_job (state_at w'.dock k).job ≡ true → overlap_of (segments_of (vector_at w'.dock k)) (segments_of (vector_at w'.dock b)) ≡ false) (sym i) (λ z t r. own_first b hb (λ e. z (sym e)) t u r) n t r
    | no i ↦ elim (ℕ_discrete b p) [
      | yes k ↦ subst (λ (c : ℕ). Taken w'.dock c → overlap_of (segments_of (vector_at w'.dock a)) (segments_of (vector_at w'.dock c)) ≡ false) (sym k) (λ u. own_second a ha i t u r) u
      | no k ↦ rw (vector-other a i, vector-other b k) (I.apart a b ha hb n (rw (state_other a i) at t) (rw (state_other b k) at u) (rw (state_other a i) at r))
    ]
  ]

  selves : (a : ℕ) → a < 8 → Taken w'.dock a → is_read_job (state_at w'.dock a).job ≡ true → self_overlap_of (segments_of (vector_at w'.dock a)) ≡ false
  selves a ha t r = elim (ℕ_discrete a p) [
    | yes i ↦ subst (λ (k : ℕ). Taken w'.dock k → is_read_job (state_at w'.dock k).job ≡ true → self_overlap_of (segments_of (vector_at w'.dock k)) ≡ false) (sym i) alone-own t r
    | no i ↦ rw (vector-other a i) (I.alone a ha (rw (state_other a i) at t) (rw (state_other a i) at r))
  ]

  pub renewed_inv : Inv w' m'
  renewed_inv = record {
    held = held;
    long = rw buffers long;
    same = same;
    settings = plain-settings ∙ I.settings ∙ sym settings;
    buffers = plain-buffers ∙ I.buffers ∙ sym buffers;
    slots = each;
    apart = pairs;
    alone = selves;
  }

-- ---- opening

fresh_free : (s : Settings) (b : Buffers) (p : ℕ) → p < 8 → is_free (state_at (fresh s b) p).phase ≡ true
unfolding fresh vacant
fresh_free s b p h = ap (λ (x : State). is_free x.phase) (get_or-replicate 8 p vacant no_state h)

pub opened_inv : (s : Settings) (b : Buffers) (content : Bytes) (memory scratch : List ℕ) → opening_of s b ≡ (Ok tt) → lent_fits b (length memory) (length scratch) ≡ true
    → Inv (opened s b content memory scratch) (plain_opened s b content)
unfolding fresh open_of
opened_inv s b content memory scratch e l = record {
  held = fresh_held s b e;
  long = l;
  same = λ x. refl;
  settings = refl;
  buffers = refl;
  slots = λ p h. record { idle = λ f. refl; tracks = λ f. never (sym f ∙ fresh_free s b p h) };
  apart = λ p q h g n f u r. never (sym f ∙ fresh_free s b p h);
  alone = λ p h f r. never (sym f ∙ fresh_free s b p h);
}

-- ---- collect

ended_idle : (ph : Phase) → has_ended ph ≡ true → is_pending ph ≡ false
ended_idle Free e = refl
ended_idle Ended e = refl
ended_idle DirectRead e = never e
ended_idle BouncedRead e = never e
ended_idle FirstRead e = never e
ended_idle SecondRead e = never e
ended_idle BouncedWrite e = never e
ended_idle DirectWrite e = never e
ended_idle ZeroRequest e = never e
ended_idle DiscardRequest e = never e

module _ (w : World) (m : Plain) (I : Inv w m) (p : ℕ) (h : p < 8) (e : has_ended (state_at w.dock p).phase ≡ true) where
  abbrev freed : World
  freed = called w (with_job w.dock p w.dock.blockers vacant (vector_of [])) w.memory w.scratch

  abbrev removed : Plain
  removed = put_job m p None

  now_free : is_free (state_at freed.dock p).phase ≡ true
  unfolding vacant
  now_free = ap (λ (x : State). is_free x.phase) (get_or-set_same w.dock.states p vacant no_state (rw I.held.states h))

  pub freed_inv : Inv freed removed
  freed_inv =
      renewed_inv w freed m removed I p h refl refl refl refl
      (λ q n. get_or-set_other w.dock.states p q vacant no_state n) (λ q n. get_or-set_other w.dock.vectors p q (vector_of []) no_vector n)
      (λ q n. refl) (λ q n. set_other m.jobs p q None n)
      (λ q g n f u. refl) (λ q i n k. refl) (λ q g n a b c i k. refl) (λ q g n a. a)
      (freed_held w.dock I.held p h e) I.long I.same
      (record { idle = λ f. (I.slots p h).idle (ended_idle (state_at w.dock p).phase e); tracks = λ f. never (sym f ∙ now_free) })
      (λ q g n f u r. never (sym f ∙ now_free)) (λ f r. never (sym f ∙ now_free))
