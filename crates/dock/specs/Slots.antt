-- What is asked of one slot, of any job and over any buffers: its bytes are moved where it is sound there.
use Rattle.std.specs.Prelude.{◌≡◌, true, ◌&&◌, List, ℕ, ◌*◌, eqb, length, Result, Ok, Err, Option, Some, None}
use Rattle.arithmetic.specs.Rounding.{pick}
use Rattle.arithmetic.specs.declared.refusals.Refusal.TheVariants.{Slot}
use Rattle.arithmetic.specs.declared.settings.Settings.{Settings}
use Rattle.arithmetic.specs.declared.settings.Buffers.{Buffers}
use Rattle.vectors.specs.declared.vector.IoVector.{IoVector}
use Rattle.stages.specs.declared.state.State.{State}
use Rattle.stages.specs.declared.told.Step.{Step}
use Rattle.stages.specs.declared.told.Step.TheVariants.{Stays, Ends, Enters}
use Rattle.dock.specs.Begin.{Filled, fills, is_bounced_write, filled}
use Rattle.dock.specs.Next.{is_sound_at}
use Rattle.dock.specs.Tell.{Handed, hands, is_bounced_read, handed}
use Rattle.arithmetic.specs.declared.refusals.Refusal.{Refusal}

-- "Then the vector is copied in": into the share of slot p
unfoldable pub filled_share : ℕ → Settings → Buffers → State → IoVector → List ℕ → List ℕ → Filled
filled_share p s b x v memory scratch =
    pick (is_bounced_write x.phase)
    (pick (is_sound_at p x s b (length scratch)) (filled (p * s.bounce) x v memory scratch) (fills (Err Slot) scratch))
    (fills (Ok tt) scratch)

-- "then the asked bytes are copied out": of the share of slot p
unfoldable pub handed_share : ℕ → Settings → Buffers → State → ℕ → IoVector → List ℕ → List ℕ → Handed
handed_share p s b x code v memory scratch =
    pick (is_bounced_read x.phase && eqb code 0)
    (pick (is_sound_at p x s b (length scratch)) (handed (p * s.bounce) x code v memory scratch) (hands (Err Slot) memory))
    (hands (Ok tt) memory)

-- the job that a plan starts, in any slot and over any buffers, is sound there
abbrev pub PlanSound : ℕ → Settings → Buffers → ℕ → Result (Option State) Refusal → Type 0
PlanSound p s b n (Ok None) = Unit {0}
PlanSound p s b n (Err r) = Unit {0}
PlanSound p s b n (Ok (Some x)) = is_sound_at p x s b n ≡ true

-- the job whose bytes a step moves is sound there
abbrev pub StepSound : ℕ → Settings → Buffers → State → ℕ → Step → Type 0
StepSound p s b x n (Stays y) = is_sound_at p y s b n ≡ true
StepSound p s b x n (Ends y) = is_sound_at p x s b n ≡ true
StepSound p s b x n (Enters y) = is_sound_at p y s b n ≡ true
