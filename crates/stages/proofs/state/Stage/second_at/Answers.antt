-- `stages::state::Stage::second_at` meets its contract: behind the request's start it lies as many bytes in, before it there is none. Assumes nothing.
use Rattle.std.specs.Prelude.{Result, Ok, Err}
use mathlib.Core.Path.{◌≡◌, ap}
use Prim.Native.Nat.{ℕ, ◌-◌, ◌≤◌, ◌<◌}
use native.Mathlib.Decide.{dec_lt}
use native.Mathlib.Omega.{arith}
use borrow.Author.Tests.{lt-leb}
use Rattle.arithmetic.specs.Offsets.{buffer_at, in_buffer_of, in_buffer_at}
use Rattle.arithmetic.specs.declared.refusals.Refusal.{Refusal}
use Rattle.arithmetic.specs.declared.refusals.Refusal.TheVariants.{Overflow}
use Rattle.arithmetic.specs.declared.offsets.StoreOffset.{StoreOffset}
use Rattle.arithmetic.specs.declared.offsets.BufferOffset.{BufferOffset}
use Rattle.stages.proofs.state.Stage.second_at.Goals as goal

before : (o start : StoreOffset) → o.0 < start.0 → in_buffer_of o start ≡ Err Overflow
unfolding in_buffer_of
before o start h = rw (lt-leb start.0 o.0 h)

module _ (o start : StoreOffset) {x : Result BufferOffset Refusal} (e : x ≡ in_buffer_of o start) where
  there : (b : BufferOffset) → x ≡ Ok b → b ≡ buffer_at (o.0 - start.0)
  there b f = elim (dec_lt o.0 start.0) [
    | yes h ↦ let g = before o start h in let z : ◌≡◌ {A = ℕ} 0 1 = cc in absurd (omega arith)
    | no h ↦ let k : start.0 ≤ o.0 = omega arith in let g = in_buffer_at o start k in cc
  ]

  nowhere : (r : Refusal) → x ≡ Err r → buffer_at 0 ≡ buffer_at (o.0 - start.0)
  nowhere r f = elim (dec_lt o.0 start.0) [
    | yes h ↦ let z : 0 ≡ o.0 - start.0 = omega arith in ap buffer_at z
    | no h ↦ let k : start.0 ≤ o.0 = omega arith in let g = in_buffer_at o start k in let z : ◌≡◌ {A = ℕ} 0 1 = cc in absurd (omega arith)
  ]

pub returns-in_default : goal.returns-in_default
returns-in_default c = nowhere _ _ c.in_buffer.ensures _ c.in_default.is

pub returns : goal.returns
returns c = there _ _ c.in_buffer.ensures _ c.in-Ok.is
