-- `arithmetic::padding::round_edge` meets its contract: what is below l rounds up to 0 or l. Assumes nothing.
use borrow.Author.Rules.{rules}
use native.Mathlib.Omega.{arith}
use mathlib.Core.Path.{sym}
use Rattle.arithmetic.specs.PaddingLaws.{up_edge, up_nothing}
use Rattle.arithmetic.proofs.padding.round_edge.Goals as goal

pub returns-then-x-eq0 : goal.returns-then-x-eq0
returns-then-x-eq0 c = rw c.if-x-eq0.true (sym (up_nothing c.args.l (omega arith)))

pub returns-else-x-eq0 : goal.returns-else-x-eq0
returns-else-x-eq0 c = sym (up_edge c.args.x c.args.l (omega arith) (search rules))
