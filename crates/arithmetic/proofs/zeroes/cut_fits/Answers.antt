-- `arithmetic::zeroes::cut_fits` meets its contract: there is room for a number exactly where the sum fits. Assumes nothing.
use Rattle.arithmetic.specs.RoundingLaws.{room}
use Rattle.arithmetic.specs.Zeroes.{cut_fits}
use Prim.Native.Nat.{◌-◌}
use borrow.Author.Rules.{rules}
use Rattle.arithmetic.proofs.zeroes.cut_fits.Goals as goal

pub returns : goal.returns
unfolding cut_fits
returns c = simp (room c.args.at c.args.length (search rules), room c.args.at (c.args.z - 1) (search rules))
