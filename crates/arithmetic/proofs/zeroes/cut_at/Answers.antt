-- `arithmetic::zeroes::cut_at` meets its contract: both sums fit, and are rounded as defined. Assumes nothing.
use native.Mathlib.Omega.{arith}
use Rattle.arithmetic.specs.ZeroesLaws.{cut_sums}
use Rattle.arithmetic.proofs.zeroes.cut_at.Goals as goal

pub overflow_add-last : goal.overflow_add-last
overflow_add-last c = omega (arith, (cut_sums c.args.z c.args.at c.args.length c.requires.1).rounded)

pub overflow_add-asked_end : goal.overflow_add-asked_end
overflow_add-asked_end c = omega (arith, (cut_sums c.args.z c.args.at c.args.length c.requires.1).end)
