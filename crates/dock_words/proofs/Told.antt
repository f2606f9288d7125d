-- What each way out of a tell, and of its step, leaves in words is what the definition keeps. Assumes nothing.
use Rattle.std.specs.Prelude.{Result, Ok, Err}
use mathlib.Core.Path.{◌≡◌, refl, sym, ap, ◌∙◌}
use mathlib.Core.Bool.{true, false}
use mathlib.Core.List.{List}
use Prim.Native.Nat.{ℕ, ◌*◌, ◌<◌, ◌≤◌}
use lib.ListN.{length, set}
use borrow.Author.Tests.{lt-ltb, le-ltb}
use Rattle.arithmetic.specs.Refusals.{is_done, is_done_lem}
use Rattle.arithmetic.specs.declared.refusals.Refusal.{Refusal}
use Rattle.arithmetic.specs.declared.refusals.Refusal.TheVariants.{Buffer, Slot}
use Rattle.arithmetic.specs.declared.settings.Settings.{Settings}
use Rattle.arithmetic.specs.declared.settings.Buffers.{Buffers}
use Rattle.vectors.specs.declared.vector.IoVector.{IoVector}
use Rattle.stages.specs.declared.state.State.{State}
use Rattle.stages.specs.declared.told.Step.{Step}
use Rattle.dock.specs.Dock.{lent_fits, is_out_by, state_at, vector_at}
use Rattle.dock.specs.Begin.{Filled, fills, filled, blockers_with}
use Rattle.dock.specs.Next.{is_sound_in}
use Rattle.dock.specs.Tell.{Handed, hands, handed, blockers_without, tells, tell_of, Stepped, stays_at, ends_at, enters_at, stepped_at, answered_of, answered_by, told_at}
use Rattle.dock_words.specs.View.{Rows, blockers_of, states_of, settings_of, buffers_of, dock_of}
use Rattle.dock_words.specs.CallWords.{changes, ToldWords, tells_words, stored_words}
use Rattle.dock_words.specs.CallWordsLaws.{tell_stored, stored_done, stored_refused, ends_left, ends_stuck, enters_changed, enters_stuck}

-- ---- a step

module _ (b x : Rows) (p share : ℕ) (y : State) (v : IoVector) (memory scratch s : List ℕ) (o : Result (Unit {0}) Refusal) (f : fills o s ≡ filled share y v memory scratch) where
  abbrev Stay : Stepped
  Stay = stays_at (blockers_of b) share y v memory scratch

  pub stays_refused : (r : Refusal) → o ≡ Err r → tells_words o b x memory s ≡ stored_words (blockers_of b) (states_of x) p Stay
  stays_refused r e =
      ap (λ (z : Result (Unit {0}) Refusal). tells_words z b x memory s) e
      ∙ stored_refused (blockers_of b) (states_of x) p Stay b x memory s r (sym (ap (λ (z : Filled). z.outcome) f) ∙ e) refl refl refl (ap (λ (z : Filled). z.scratch) f)

  pub stays_done : o ≡ (Ok tt) → (x' : Rows) → states_of x' ≡ set (states_of x) p y → tells_words (Ok tt) b x' memory s ≡ stored_words (blockers_of b) (states_of x) p Stay
  stays_done e x' g = stored_done (blockers_of b) (states_of x) p Stay b x' memory s (sym (ap (λ (z : Filled). z.outcome) f) ∙ e) refl g refl (ap (λ (z : Filled). z.scratch) f)

module _ (b x : Rows) (p share : ℕ) (w : State) (code : ℕ) (y : State) (v : IoVector) (memory scratch : List ℕ) where
  abbrev End : Stepped
  End = ends_at (blockers_of b) p share w code y v memory scratch

  pub ends_not : is_done (blockers_without (blockers_of b) p w).outcome ≡ false → tells_words (Err Slot) b x memory scratch ≡ stored_words (blockers_of b) (states_of x) p End
  ends_not e = sym (ap (λ (z : Stepped). stored_words (blockers_of b) (states_of x) p z) (ends_stuck (blockers_of b) p share w code y v memory scratch e))

  module _ (e : is_done (blockers_without (blockers_of b) p w).outcome ≡ true) (o : Result (Unit {0}) Refusal) (m : List ℕ) (f : hands o m ≡ handed share w code v memory scratch) where
    left : End ≡ record { outcome = o; blockers = (blockers_without (blockers_of b) p w).blockers; state = y; memory = m; scratch = scratch }
    left =
        ends_left (blockers_of b) p share w code y v memory scratch e
        ∙ ap (λ (z : Handed). record { outcome = z.outcome; blockers = (blockers_without (blockers_of b) p w).blockers; state = y; memory = z.memory; scratch = scratch }) (sym f)

    pub ends_refused : (r : Refusal) → o ≡ Err r → tells_words o b x m scratch ≡ stored_words (blockers_of b) (states_of x) p End
    ends_refused r q =
        ap (λ (z : Result (Unit {0}) Refusal). tells_words z b x m scratch) q
        ∙ stored_refused (blockers_of b) (states_of x) p End b x m scratch r (ap (λ (z : Stepped). z.outcome) left ∙ q) refl refl (sym (ap (λ (z : Stepped). z.memory) left)) (sym (ap (λ (z : Stepped). z.scratch) left))

    pub ends_done : o ≡ (Ok tt) → (u : Result (Unit {0}) Refusal) → u ≡ (blockers_without (blockers_of b) p w).outcome → (b' x' : Rows) → blockers_of b' ≡ (blockers_without (blockers_of b) p w).blockers → states_of x' ≡ set (states_of x) p y
        → tells_words u b' x' m scratch ≡ stored_words (blockers_of b) (states_of x) p End
    ends_done q u h b' x' g k =
        ap (λ (z : Result (Unit {0}) Refusal). tells_words z b' x' m scratch) (h ∙ is_done_lem (blockers_without (blockers_of b) p w).outcome e)
        ∙ stored_done (blockers_of b) (states_of x) p End b' x' m scratch (ap (λ (z : Stepped). z.outcome) left ∙ q) (g ∙ sym (ap (λ (z : Stepped). z.blockers) left))
        (k ∙ sym (ap (λ (z : Stepped). set (states_of x) p z.state) left)) (sym (ap (λ (z : Stepped). z.memory) left)) (sym (ap (λ (z : Stepped). z.scratch) left))

module _ (b x : Rows) (p share : ℕ) (w y : State) (v : IoVector) (memory scratch : List ℕ) where
  abbrev Enter : Stepped
  Enter = enters_at (blockers_of b) p share w y v memory scratch

  pub enters_not : is_done (changes (blockers_of b) p w y) ≡ false → tells_words (Err Slot) b x memory scratch ≡ stored_words (blockers_of b) (states_of x) p Enter
  enters_not e =
      let n = enters_stuck (blockers_of b) p share w y v memory scratch e in
      stored_refused (blockers_of b) (states_of x) p Enter b x memory scratch Slot n.0 refl refl n.1 n.2

  module _ (e : is_done (changes (blockers_of b) p w y) ≡ true) (o : Result (Unit {0}) Refusal) (s : List ℕ) (f : fills o s ≡ filled share y v memory scratch) where
    changed : Enter ≡ record { outcome = o; blockers = (blockers_with (blockers_without (blockers_of b) p w).blockers p y).blockers; state = y; memory = memory; scratch = s }
    changed =
        enters_changed (blockers_of b) p share w y v memory scratch e
        ∙ ap (λ (z : Filled). record { outcome = z.outcome; blockers = (blockers_with (blockers_without (blockers_of b) p w).blockers p y).blockers; state = y; memory = memory; scratch = z.scratch }) (sym f)

    pub enters_refused : (r : Refusal) → o ≡ Err r → tells_words o b x memory s ≡ stored_words (blockers_of b) (states_of x) p Enter
    enters_refused r q =
        ap (λ (z : Result (Unit {0}) Refusal). tells_words z b x memory s) q
        ∙ stored_refused (blockers_of b) (states_of x) p Enter b x memory s r (ap (λ (z : Stepped). z.outcome) changed ∙ q) refl refl (sym (ap (λ (z : Stepped). z.memory) changed)) (sym (ap (λ (z : Stepped). z.scratch) changed))

    pub enters_done : o ≡ (Ok tt) → (b' x' : Rows) → blockers_of b' ≡ (blockers_with (blockers_without (blockers_of b) p w).blockers p y).blockers → states_of x' ≡ set (states_of x) p y
        → tells_words (Ok tt) b' x' memory s ≡ stored_words (blockers_of b) (states_of x) p Enter
    enters_done q b' x' g k =
        stored_done (blockers_of b) (states_of x) p Enter b' x' memory s (ap (λ (z : Stepped). z.outcome) changed ∙ q) (g ∙ sym (ap (λ (z : Stepped). z.blockers) changed))
        (k ∙ sym (ap (λ (z : Stepped). set (states_of x) p z.state) changed)) (sym (ap (λ (z : Stepped). z.memory) changed)) (sym (ap (λ (z : Stepped). z.scratch) changed))

-- ---- a code is told

module _ (b x : Rows) (p : ℕ) (s : Settings) (l : Buffers) (w : State) (v : IoVector) (code : ℕ) (memory scratch : List ℕ) where
  abbrev Tell : Stepped
  Tell = told_at (blockers_of b) p s l w v code memory scratch

  pub told_not_out : is_out_by (blockers_of b) w p ≡ false → tells_words (Err Slot) b x memory scratch ≡ stored_words (blockers_of b) (states_of x) p Tell
  unfolding told_at
  told_not_out o = simp o

  module _ (o : is_out_by (blockers_of b) w p ≡ true) where
    pub told_not_sound : is_sound_in w s l ≡ false → tells_words (Err Slot) b x memory scratch ≡ stored_words (blockers_of b) (states_of x) p Tell
    unfolding told_at
    told_not_sound k = simp (o, k)

    module _ (k : is_sound_in w s l ≡ true) (a : Result Step Refusal) (e : a ≡ answered_of s w code) where
      by : (z : Result Step Refusal) → a ≡ z → answered_by z (blockers_of b) p (p * s.bounce) w code v memory scratch ≡ Tell
      unfolding told_at
      by z q = ap (λ (y : Result Step Refusal). answered_by y (blockers_of b) p (p * s.bounce) w code v memory scratch) (sym q ∙ e) ∙ simp (o, k)

      pub told_no_answer : (r : Refusal) → a ≡ Err r → tells_words (Err r) b x memory scratch ≡ stored_words (blockers_of b) (states_of x) p Tell
      told_no_answer r q = ap (λ (z : Stepped). stored_words (blockers_of b) (states_of x) p z) (by (Err r) q)

      pub told_leads : (t : Step) → a ≡ Ok t → (z : ToldWords) → z ≡ stored_words (blockers_of b) (states_of x) p (stepped_at (blockers_of b) p (p * s.bounce) w code v memory scratch t) → z ≡ stored_words (blockers_of b) (states_of x) p Tell
      told_leads t q z g = g ∙ ap (λ (z : Stepped). stored_words (blockers_of b) (states_of x) p z) (by (Ok t) q)

-- ---- tell

module _ (s : List ℕ) (b x v : Rows) (p code : ℕ) (memory scratch : List ℕ) where
  pub tell_not_lent : lent_fits (buffers_of s) (length memory) (length scratch) ≡ false → tells (record { outcome = Err Buffer; dock = dock_of s b x v }) memory scratch ≡ tell_of (dock_of s b x v) p code memory scratch
  unfolding tell_of
  tell_not_lent l = simp l

  module _ (l : lent_fits (buffers_of s) (length memory) (length scratch) ≡ true) where
    pub tell_no_slot : 8 ≤ p → tells (record { outcome = Err Slot; dock = dock_of s b x v }) memory scratch ≡ tell_of (dock_of s b x v) p code memory scratch
    unfolding tell_of
    tell_no_slot h = simp (l, le-ltb p 8 h)

    pub tell_there : p < 8 → (w : State) → w ≡ state_at (dock_of s b x v) p → (c : Settings) → c ≡ settings_of s → (d : Buffers) → d ≡ buffers_of s → (o : Result (Unit {0}) Refusal) (b' x' : Rows) (m n : List ℕ)
        → tells_words o b' x' m n ≡ stored_words (blockers_of b) (states_of x) p (told_at (blockers_of b) p c d w (vector_at (dock_of s b x v) p) code memory scratch)
        → tells (record { outcome = o; dock = dock_of s b' x' v }) m n ≡ tell_of (dock_of s b x v) p code memory scratch
    unfolding tell_of
    tell_there h w e c f d g o b' x' m n k =
        tell_stored s b x v p o b' x' m n (told_at (blockers_of b) p (settings_of s) (buffers_of s) (state_at (dock_of s b x v) p) (vector_at (dock_of s b x v) p) code memory scratch) (k ∙ rw (e, f, g)) ∙ simp (l, lt-ltb p 8 h)
