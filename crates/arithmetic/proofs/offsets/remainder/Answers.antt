-- `arithmetic::offsets::remainder` meets its contract: modulo a power of two by its mask, modulo 0 the number itself. Assumes nothing.
use native.Mathlib.Omega.{arith}
use Rattle.arithmetic.specs.PowerLaws as powers
use Rattle.arithmetic.proofs.offsets.remainder.Goals as goal

pub returns-then-r-mask-eq0 : goal.returns-then-r-mask-eq0
returns-then-r-mask-eq0 c = let a = c.args in powers.remainder a.x a.r (omega arith) c.if-r-mask-eq0.true
