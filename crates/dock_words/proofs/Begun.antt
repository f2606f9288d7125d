-- What each way out of a begin leaves in words is what the definition places. Assumes nothing.
use Rattle.std.specs.Prelude.{Result, Ok, Err, Option, Some}
use mathlib.Core.Path.{◌≡◌, sym, ap, ◌∙◌}
use mathlib.Core.Bool.{Bool, true, false, ◌&&◌}
use mathlib.Core.List.{List}
use Prim.Native.Nat.{ℕ, ◌<◌}
use lib.Dec.{ltb, eqb}
use lib.ListN.{length, set}
use borrow.Author.Tests.{ltb-true}
use Rattle.arithmetic.specs.Refusals.{is_done, is_done_lem}
use Rattle.arithmetic.specs.SettingsLaws.{and_left}
use Rattle.arithmetic.specs.declared.refusals.Refusal.{Refusal}
use Rattle.arithmetic.specs.declared.refusals.Refusal.TheVariants.{Slot}
use Rattle.arithmetic.specs.declared.settings.Settings.{Settings}
use Rattle.arithmetic.specs.declared.settings.Buffers.{Buffers}
use Rattle.vectors.specs.Vectors.{is_valid}
use Rattle.vectors.specs.declared.vector.IoVector.{IoVector}
use Rattle.stages.specs.declared.state.State.{State}
use Rattle.dock.specs.Dock.{lent_of, overlaps_of, first_free}
use Rattle.dock.specs.Begin.{Filled, fills, filled, blockers_with, begins, selected_of, plan_of, begin_of, Entering, enter_at, decided_of, admit_by, admit_at}
use Rattle.dock.specs.Next.{is_sound_in, is_sound_at}
use Rattle.dock.specs.SlotLaws.{begin_whole}
use Rattle.dock.specs.declared.begin.Asked.{Asked}
use Rattle.dock_words.specs.View.{Rows, blockers_of, states_of, vectors_of, settings_of, buffers_of, dock_of}
use Rattle.dock_words.specs.CallWords.{BegunWords, begins_words, stored_job}
use Rattle.dock_words.specs.CallWordsLaws.{enters_not, begin_stored}

-- a job that is sound in a slot is in one of the eight
pub sound_slot : (p : ℕ) (x : State) (s : Settings) (b : Buffers) (n : ℕ) → is_sound_at p x s b n ≡ true → p < 8
unfolding is_sound_at
sound_slot p x s b n e = ltb-true p 8 (and_left (ltb p 8) (is_sound_in x s b) (and_left (ltb p 8 && is_sound_in x s b) (eqb n b.scratch.length) e))

-- ---- the job w with the vector u comes to slot p

module _ (b x v : Rows) (p share : ℕ) (w : State) (u : IoVector) (memory scratch : List ℕ) where
  abbrev There : Entering
  There = enter_at (blockers_of b) p share w u memory scratch

  abbrev admitted : Result (Unit {0}) Refusal → Entering → BegunWords
  admitted o e = stored_job (blockers_of b) (states_of x) (vectors_of v) u (admit_by o (blockers_of b) p w e)

  pub admit_not : is_done (blockers_with (blockers_of b) p w).outcome ≡ false → begins_words (Err Slot) b x v scratch ≡ admitted There.outcome There
  unfolding enter_at
  admit_not e = simp (enters_not (blockers_of b) p w e)

  module _ (e : is_done (blockers_with (blockers_of b) p w).outcome ≡ true) (o : Result (Unit {0}) Refusal) (s : List ℕ) (f : fills o s ≡ filled share w u memory scratch) where
    there : There ≡ record { blockers = (blockers_with (blockers_of b) p w).blockers; outcome = o; scratch = s }
    unfolding enter_at
    there =
        simp (is_done_lem (blockers_with (blockers_of b) p w).outcome e)
        (sym (ap (λ (z : Filled). record { blockers = (blockers_with (blockers_of b) p w).blockers; outcome = z.outcome; scratch = z.scratch }) f))

    pub admit_refused : (r : Refusal) → o ≡ Err r → begins_words (Err r) b x v s ≡ admitted There.outcome There
    admit_refused r q = sym (ap (λ (z : Entering). admitted z.outcome z) there ∙ ap (λ (z : Result (Unit {0}) Refusal). admitted z (record { blockers = (blockers_with (blockers_of b) p w).blockers; outcome = o; scratch = s })) q)

    pub admit_done : o ≡ (Ok tt) → (b' x' v' : Rows) → blockers_of b' ≡ (blockers_with (blockers_of b) p w).blockers → states_of x' ≡ set (states_of x) p w → vectors_of v' ≡ set (vectors_of v) p u
        → begins_words (Ok (Some p)) b' x' v' s ≡ admitted There.outcome There
    admit_done q b' x' v' g h k =
        rw (g, h, k) (sym (ap (λ (z : Entering). admitted z.outcome z) there ∙ ap (λ (z : Result (Unit {0}) Refusal). admitted z (record { blockers = (blockers_with (blockers_of b) p w).blockers; outcome = o; scratch = s })) q))

-- ---- begin

pub begin_there : (s : List ℕ) (b x v : Rows) (q : Asked) (memory scratch : List ℕ) (c : Settings) → c ≡ settings_of s → (g : Buffers) → g ≡ buffers_of s → (w : IoVector) → w ≡ selected_of q.job q.vector
    → (met : Bool) → met ≡ overlaps_of (states_of x) (vectors_of v) q.job w → (l : Result (Unit {0}) Refusal) → l ≡ lent_of c g (length memory) (length scratch) → (f : ℕ) → f ≡ first_free (states_of x)
    → (plan : Result (Option State) Refusal) → plan ≡ plan_of q.job c g q.offset q.length q.vector → (t : Bool) → t ≡ is_valid (length memory) w → (r : Result (Option State) Refusal) → r ≡ decided_of l t plan met f
    → (o : Result (Option ℕ) Refusal) (b' x' v' : Rows) (n : List ℕ) → begins_words o b' x' v' n ≡ stored_job (blockers_of b) (states_of x) (vectors_of v) w (admit_at (blockers_of b) f c.bounce w memory scratch r)
    → begins (record { answer = o; dock = dock_of s b' x' v' }) n ≡ begin_of (dock_of s b x v) q memory scratch
begin_there s b x v q memory scratch c ce g ge w we met me l le f fe plan pe t te r re o b' x' v' n k =
    begin_stored s b x v o b' x' v' n w (admit_at (blockers_of b) f (settings_of s).bounce w memory scratch r) (k ∙ rw ce)
    ∙ begin_whole (dock_of s b x v) q memory scratch w we met me l (le ∙ rw (ce, ge)) f fe plan (pe ∙ rw (ce, ge)) t te r re
