-- Every dock that calls made has `Held`; and so begin, a request's piece and tell answer on it as document 01 says, and never by a refusal
-- of their inner steps. Assumes nothing.
use Rattle.std.specs.Prelude.{◌≡◌, Bool, ◌&&◌, List, [], ℕ, ◌<◌, length, Result, Ok, Err, Option, Some, None}
use Rattle.std.proofs.Math.Path.{refl}
use Rattle.std.proofs.Common.{sym, subst, arith}
use Rattle.std.proofs.Math.Bool.{true, false}
use Rattle.std.proofs.Math.Dec.{ltb}
use borrow.Author.Tests.{ltb-true, eqb-true, le-leb}
use Rattle.arithmetic.specs.Rounding.{pick}
use Rattle.arithmetic.specs.SettingsLaws.{and_left, opened}
use Rattle.arithmetic.specs.declared.refusals.Refusal.TheVariants.{Buffer, Slot, NoAnswer}
use Rattle.arithmetic.specs.declared.settings.Buffers.{Buffers}
use Rattle.vectors.specs.Vectors.{is_valid, vector_of}
use Rattle.stages.specs.Stages.{is_pending, told_of, has_ended}
use Rattle.stages.specs.declared.state.State.{State}
use Rattle.dock.specs.Dock.{state_at, vector_at, share_at, vacant, open_of, open_by, lent_fits, lent_of, is_out_by, is_out, overlaps_of}
use Rattle.dock.specs.Dock.{first_free}
use Rattle.dock.specs.Begin.{admit_at, with_job, Begins, stored_with, vector_for, plan_for, decided_for, begin_of}
use Rattle.dock.specs.Next.{is_sound_in, is_sound_of}
use Rattle.dock.specs.Tell.{refused_step, answered_of, answered_by, told_at, Told, refused_tell, stored, tell_of, collect_of}
use Rattle.dock.specs.SlotLaws.{started, lent_done}
use Rattle.dock.specs.declared.dock.Dock.{Dock}
use Rattle.dock.specs.declared.begin.Asked.{Asked}
use Rattle.dock.specs.declared.tell.Collects.{Collects}
use Rattle.theorem_lists.specs.Held.{Held, Made, opens, opens_by, begins, tells, collects}
use Rattle.theorem_lists.specs.Keeping.{fresh_held}
use Rattle.theorem_lists.specs.Calls.{Ready, planned_ready, begun_rule, admit_done, admit_held, after, told_done, told_held}
use Rattle.theorem_lists.specs.Calls.{freed_held}
use Rattle.arithmetic.specs.declared.refusals.Refusal.{Refusal}
use Rattle.arithmetic.specs.declared.settings.Alignments.{Alignments}

-- ---- what a call is lent

pub data_long : (b : Buffers) (m n : ℕ) → lent_fits b m n ≡ true → m ≡ b.«data».length
unfolding lent_fits
data_long b m n e = eqb-true m b.«data».length (and_left _ _ e)

-- ---- begin

module _ (d : Dock) (H : Held d) (q : Asked) (memory scratch : List ℕ) where
  abbrev plan : Result (Option State) Refusal
  plan = decided_for d q (length memory) (length scratch)

  -- what a plan that was decided to start says of its job, and of what is lent
  decided_ready : (x : State) → plan ≡ Ok (Some x)
      → (length memory ≡ d.buffers.«data».length) × Ready d.settings d.buffers.«data».length (vector_for q) x
      × (first_free d.states < 8)
  decided_ready x e =
      let w =
      started (lent_of d.settings d.buffers (length memory) (length scratch)) (is_valid (length memory) (vector_for q))
      (plan_for d.settings d.buffers q)
      (overlaps_of d.states d.vectors q.job (vector_for q)) (first_free d.states) x e in
      let l = data_long d.buffers (length memory) (length scratch)
      (lent_done d.settings d.buffers (length memory) (length scratch) w.lent).1 in (
        l,
        (rw w.planned at (planned_ready d.settings d.buffers.«data».length q.offset d.buffers q.job q.length
            q.vector (rw l at w.valid))),
        w.slot,
      )

  pub begin_is : begin_of d q memory scratch ≡ begun_rule d (vector_for q) memory scratch plan
  unfolding begin_of
  begin_is = go plan refl
    where
      go : (z : Result (Option State) Refusal) → plan ≡ z
          → stored_with d (vector_for q) (admit_at d.blockers (first_free d.states) d.settings.bounce (vector_for q) memory scratch z)
          ≡ begun_rule d (vector_for q) memory scratch z
      go (Ok None) e = refl
      go (Err r) e = refl
      go (Ok (Some x)) e = let k = decided_ready x e in admit_done d H (vector_for q) memory scratch k.0 x k.1 k.2

  begin_held : Held (begin_of d q memory scratch).dock
  begin_held = subst (λ (b : Begins). Held b.dock) (sym begin_is) (go plan refl)
    where
      go : (z : Result (Option State) Refusal) → plan ≡ z → Held (begun_rule d (vector_for q) memory scratch z).dock
      go (Ok None) e = H
      go (Err r) e = H
      go (Ok (Some x)) e = let k = decided_ready x e in admit_held d H (vector_for q) memory scratch k.0 x k.1 k.2

-- ---- tell

-- "Tell: 205, 208, 209", and nothing else
abbrev pub tell_rule : Dock → ℕ → ℕ → List ℕ → List ℕ → Told
tell_rule d p code memory scratch =
    pick (lent_fits d.buffers (length memory) (length scratch))
    (pick (is_out d p)
    (pick (ltb code 200) (after d p (state_at d p) code memory scratch (told_of d.settings (state_at d p) code))
    (refused_tell d memory scratch NoAnswer))
    (refused_tell d memory scratch Slot))
    (refused_tell d memory scratch Buffer)

module _ (d : Dock) (H : Held d) (p : ℕ) where
  -- the test of the job at hand is passed
  pub sound_held : p < 8 → is_sound_of d p ≡ true
  unfolding is_sound_of is_sound_in
  sound_held h = simp ((H.slots p h).sound, le-leb _ _ (opened d.settings d.buffers H.opened).room)

  pub out_pending : is_out_by d.blockers (state_at d p) p ≡ true → is_pending (state_at d p).phase ≡ true
  unfolding is_out_by
  out_pending e = and_left _ _ e

  module _ (code : ℕ) (memory scratch : List ℕ) where
    abbrev step : Told
    step = after d p (state_at d p) code memory scratch (told_of d.settings (state_at d p) code)

    abbrev told : Bool → Bool → Told
    told t u =
        stored d p (pick (t && is_sound_in (state_at d p) d.settings d.buffers)
        (answered_by (pick u (Ok (told_of d.settings (state_at d p) code)) (Err NoAnswer)) d.blockers p (share_at d p)
        (state_at d p) code (vector_at d p)
        memory scratch) (refused_step d.blockers (state_at d p) Slot memory scratch))

    there : p < 8 → length memory ≡ d.buffers.«data».length → (t u : Bool) → is_out_by d.blockers (state_at d p) p ≡ t
        → told t u ≡ pick t (pick u step (refused_tell d memory scratch NoAnswer)) (refused_tell d memory scratch Slot)
    unfolding is_sound_of
    there h l true true e = simp (sound_held h) (told_done d H p h (out_pending e) code memory scratch l)
    there h l true false e = simp (sound_held h)
    there h l false u e = refl

    pub tell_is : tell_of d p code memory scratch ≡ tell_rule d p code memory scratch
    unfolding tell_of told_at answered_of is_out
    tell_is = go (lent_fits d.buffers (length memory) (length scratch)) (ltb p 8) refl refl
      where
        go : (a b : Bool) → lent_fits d.buffers (length memory) (length scratch) ≡ a → ltb p 8 ≡ b
            → pick a (pick b (told (is_out_by d.blockers (state_at d p) p) (ltb code 200)) (refused_tell d memory scratch Slot))
            (refused_tell d memory scratch Buffer)
            ≡ pick a (pick (b && is_out_by d.blockers (state_at d p) p) (pick (ltb code 200) step (refused_tell d memory scratch NoAnswer))
            (refused_tell d memory scratch Slot)) (refused_tell d memory scratch Buffer)
        go true true e f =
            there (ltb-true p 8 f) (data_long d.buffers (length memory) (length scratch) e) (is_out_by d.blockers (state_at d p) p)
            (ltb code 200) refl
        go true false e f = refl
        go false b e f = refl

    rule_held : Held (tell_rule d p code memory scratch).dock
    unfolding is_out
    rule_held =
        go (lent_fits d.buffers (length memory) (length scratch)) (ltb p 8) (is_out_by d.blockers (state_at d p) p)
        (ltb code 200) refl refl refl
      where
        go : (a b c u : Bool) → lent_fits d.buffers (length memory) (length scratch) ≡ a → ltb p 8 ≡ b
            → is_out_by d.blockers (state_at d p) p ≡ c
            → Held (pick a (pick (b && c) (pick u step (refused_tell d memory scratch NoAnswer)) (refused_tell d memory scratch Slot))
            (refused_tell d memory scratch Buffer)).dock
        go true true true true e f g =
            told_held d H p (ltb-true p 8 f) (out_pending g) code memory scratch (data_long d.buffers (length memory) (length scratch) e)
        go true true true false e f g = H
        go true true false u e f g = H
        go true false c u e f g = H
        go false b c u e f g = H

    tell_held : Held (tell_of d p code memory scratch).dock
    tell_held = subst (λ (t : Told). Held t.dock) (sym tell_is) rule_held

  collect_held : (m n : ℕ) → Held (collect_of d p m n).dock
  unfolding collect_of
  collect_held m n = go (lent_fits d.buffers m n) (ltb p 8) (has_ended (state_at d p).phase) refl refl
    where
      go : (a b c : Bool) → ltb p 8 ≡ b → has_ended (state_at d p).phase ≡ c
          → Held (pick {A = Collects} a (pick (b && c)
          (record { dock = with_job d p d.blockers vacant (vector_of []); answer = Ok (state_at d p).answer })
          (record { dock = d; answer = Err Slot })) (record { dock = d; answer = Err Buffer })).dock
      go true true true e f = freed_held d H p (ltb-true p 8 e) f
      go true true false e f = H
      go true false c e f = H
      go false b c e f = H

-- ---- every dock that calls made

profile_held : (f : Result Alignments Refusal) (n : ℕ) (b : Buffers) → (open_by f n b).outcome ≡ (Ok tt) → Held (open_by f n b).dock
unfolding open_of
profile_held (Ok a) n b e = fresh_held (record { align = a; bounce = n }) b e
profile_held (Err r) n b e = let z : ◌≡◌ {A = ℕ} 0 1 = cc in absurd (omega arith)

pub made_held : {d : Dock} → Made d → Held d
unfolding open_of
made_held (opens s b e) = fresh_held s b e
made_held (opens_by f n b e) = profile_held f n b e
made_held (begins {d} k q memory scratch) = begin_held d (made_held k) q memory scratch
made_held (tells {d} k p code memory scratch) = tell_held d (made_held k) p code memory scratch
made_held (collects {d} k p m n) = collect_held d (made_held k) p m n

-- ---- so document 01's rules are all that a call on such a dock meets

module _ {d : Dock} (k : Made d) where
  -- the test of the job at hand is passed
  pub made_sound : (p : ℕ) → p < 8 → is_sound_of d p ≡ true
  made_sound p h = sound_held d (made_held k) p h

  pub made_tell : (p code : ℕ) (memory scratch : List ℕ) → tell_of d p code memory scratch ≡ tell_rule d p code memory scratch
  made_tell p code memory scratch = tell_is d (made_held k) p code memory scratch

  pub made_begin : (q : Asked) (memory scratch : List ℕ)
      → begin_of d q memory scratch ≡ begun_rule d (vector_for q) memory scratch (decided_for d q (length memory) (length scratch))
  made_begin q memory scratch = begin_is d (made_held k) q memory scratch
