-- The bytes of a job that is sound in its slot lie in its share, and its share in the scratch. Assumes nothing.
use mathlib.Core.Path.{◌≡◌, refl}
use Rattle.std.specs.Prelude.{Some, None}
use Rattle.arithmetic.specs.Rounding.{pick}
use mathlib.Core.Bool.{Bool, true, false, ◌&&◌}
use Prim.Native.Nat.{ℕ, ◌*◌, ◌+◌, ◌≤◌}
use native.Mathlib.Omega.{arith}
use lib.Dec.{ltb}
use borrow.Author.Tests.{leb-true, ltb-true, eqb-true}
use Rattle.arithmetic.specs.SettingsLaws.{and_left, and_right}
use Rattle.arithmetic.specs.declared.settings.Settings.{Settings}
use Rattle.arithmetic.specs.declared.settings.Buffers.{Buffers}
use Rattle.stages.specs.Stages.{is_sound}
use Rattle.stages.specs.declared.state.State.{State}
use Rattle.dock.specs.Begin.{InShare}
use Rattle.dock.specs.Next.{is_sound_in, is_sound_at}
use Rattle.dock.proofs.Merging.{in_share}
use Rattle.dock.proofs.SlotsOf.{share_room_sound}
use Rattle.dock.specs.SlotLaws.{sound_share}

module _ (p : ℕ) (x : State) (s : Settings) (b : Buffers) (n : ℕ) (e : is_sound_at p x s b n ≡ true) where
  lent : n ≡ b.scratch.length
  unfolding is_sound_at
  lent = eqb-true n b.scratch.length (and_right (ltb p 8 && is_sound_in x s b) _ e)

  sound : is_sound_in x s b ≡ true
  unfolding is_sound_at
  sound = and_right (ltb p 8) _ (and_left (ltb p 8 && is_sound_in x s b) _ e)

  pub room : p * s.bounce + s.bounce ≤ n
  unfolding is_sound_at
  room = omega (arith, lent, share_room_sound p x s b (ltb-true p 8 (and_left (ltb p 8) _ (and_left (ltb p 8 && is_sound_in x s b) _ e))) sound)

  pub sound_in_share : InShare (p * s.bounce) x n
  unfolding is_sound_at is_sound_in
  sound_in_share = in_share p s.bounce x n (ltb-true p 8 (and_left (ltb p 8) _ (and_left (ltb p 8 && is_sound_in x s b) _ e))) (sound_share x s b sound) (omega (arith, lent, leb-true (8 * s.bounce) b.scratch.length (and_right (is_sound s.bounce x) _ sound)))

-- where a share was found, it is the slot's, and the job's bytes lie in it
pub found_in_share : (p : ℕ) (x : State) (s : Settings) (b : Buffers) (n share : ℕ) → Some share ≡ pick (is_sound_at p x s b n) (Some (p * s.bounce)) None → InShare share x n
found_in_share p x s b n share e = go (is_sound_at p x s b n) refl e
  where
    go : (t : Bool) → is_sound_at p x s b n ≡ t → Some share ≡ pick t (Some (p * s.bounce)) None → InShare share x n
    go true k f = let w : share ≡ p * s.bounce = cc in rw w (sound_in_share p x s b n k)
    go false k f = absurd (let z : ◌≡◌ {A = ℕ} 0 1 = cc in omega arith)
