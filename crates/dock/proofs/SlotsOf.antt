-- Laws on a slot's share of the scratch, and on what a sound stage holds there. Assumes nothing.
use mathlib.Core.Path.{◌≡◌, sym, ap, ◌∙◌}
use mathlib.Core.Bool.{true, ◌&&◌, ◌||◌, not}
use Prim.Native.Nat.{ℕ, suc, ◌+◌, ◌*◌, ◌/◌, ◌≤◌, ◌<◌}
use native.Mathlib.Decide.{dec_le}
use native.Mathlib.Nat.{mul-le-mul_right}
use native.Mathlib.Omega.{arith}
use lib.Dec.{leb, eqb}
use borrow.Author.Tests.{leb-true, eqb-true, le-leb, lt-leb}
use Rattle.arithmetic.specs.SettingsLaws.{and_right}
use Rattle.arithmetic.specs.declared.settings.Settings.{Settings}
use Rattle.arithmetic.specs.declared.settings.Buffers.{Buffers}
use Rattle.stages.specs.Stages.{size_of, uses_bounce, second_at, lies_in, is_sound}
use Rattle.stages.specs.declared.state.Phase.{Phase}
use Rattle.stages.specs.declared.state.Phase.TheVariants.{SecondRead}
use Rattle.stages.specs.declared.state.State.{State}
use Rattle.dock.specs.Dock.{lent_fits}
use Rattle.dock.specs.Next.{is_sound_in}

-- ---- shares

-- eight shares of b bytes lie in n bytes
pub share_room : (b n : ℕ) → leb b (n / 8) ≡ leb (8 * b) n
share_room b n = elim (dec_le (8 * b) n) [
  | yes l ↦ le-leb b (n / 8) (omega arith) ∙ sym (le-leb (8 * b) n l)
  | no l ↦ lt-leb b (n / 8) (omega arith) ∙ sym (lt-leb (8 * b) n (omega arith))
]

-- a slot's share lies in them
pub share_in : (p b : ℕ) → p < 8 → p * b + b ≤ 8 * b
share_in p b h =
    let l : suc p * b ≤ 8 * b = mul-le-mul_right b (omega arith) in
    omega (arith, l)

-- and the scratch has its length of opening, which is the one it is lent with
pub share_sound : (p : ℕ) (x : State) (s : Settings) (b : Buffers) (m n : ℕ) → p < 8 → lent_fits b m n ≡ true → is_sound_in x s b ≡ true → p * s.bounce + s.bounce ≤ n
unfolding lent_fits is_sound_in
share_sound p x s b m n h f k =
    let e = eqb-true n b.scratch.length (and_right (eqb m b.«data».length) _ f) in
    let l = leb-true (8 * s.bounce) b.scratch.length (and_right (is_sound s.bounce x) _ k) in
    omega (arith, share_in p s.bounce h)

-- where the scratch is as long as at opening, it has room for the share
pub share_room_sound : (p : ℕ) (x : State) (s : Settings) (b : Buffers) → p < 8 → is_sound_in x s b ≡ true → p * s.bounce + s.bounce ≤ b.scratch.length
unfolding is_sound_in
share_room_sound p x s b h k =
    let l = leb-true (8 * s.bounce) b.scratch.length (and_right (is_sound s.bounce x) _ k) in
    omega (arith, share_in p s.bounce h)

-- the second read's bytes start in the share
pub second_in : (n : ℕ) (x : State) → x.phase ≡ SecondRead → is_sound n x ≡ true → second_at x.stage ≤ n
unfolding is_sound lies_in
second_in n x e s =
    let l : lies_in n x.stage ≡ true = sym (ap (λ (ph : Phase). not (uses_bounce ph) || lies_in n x.stage) e) ∙ s in
    let k = leb-true (second_at x.stage + size_of x.stage.second) n (and_right (leb (x.stage.head.0 + size_of x.stage.asked) n && leb (size_of x.stage.request) n && leb (size_of x.stage.first) n) _ l) in
    omega arith
