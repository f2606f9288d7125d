-- `arithmetic::planner::chunk_count` meets its contract: division, one more where something is left. Assumes nothing.
use native.Mathlib.Omega.{arith}
use Rattle.arithmetic.specs.PlannerLaws.{count_exact, count_more}
use Rattle.arithmetic.proofs.planner.chunk_count.Goals as goal

pub returns-then-n-bounce-eq0 : goal.returns-then-n-bounce-eq0
returns-then-n-bounce-eq0 c = count_exact c.args.bounce c.args.n c.requires c.if-n-bounce-eq0.true

pub returns-else-n-bounce-eq0 : goal.returns-else-n-bounce-eq0
returns-else-n-bounce-eq0 c = count_more c.args.bounce c.args.n c.requires (omega arith)
