-- `arithmetic::settings::is_alignment` meets its contract: a mask tells the powers of two. Assumes nothing.
use native.Mathlib.Omega.{arith}
use Rattle.arithmetic.specs.Settings.{is_alignment}
use Rattle.arithmetic.specs.PowerLaws.{test}
use Rattle.arithmetic.proofs.settings.is_alignment.Goals as goal

pub returns : goal.returns
unfolding is_alignment
returns c = test 16 c.args.x (omega arith)
