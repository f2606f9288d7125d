-- `arithmetic::planner::chunk_at` meets its contract: a chunk that starts within the range, or the end. Assumes nothing.
use native.Mathlib.Omega.{arith}
use Prim.Native.Nat.{◌+◌, ◌*◌, ◌<◌, ◌^◌, ◌≤◌}
use Rattle.arithmetic.specs.RoundingLaws.{true_fits}
use Rattle.arithmetic.specs.PlannerLaws.{starts_within}
use borrow.Author.Rules.{rules}
use Rattle.arithmetic.proofs.planner.chunk_at.Goals as goal
use Rattle.arithmetic.proofs.planner.chunk_at.Goals.{Else-full-i}

-- what is known of a chunk that starts within the range
skip : (c : Else-full-i) → c.args.i * c.args.bounce ≤ c.args.n
skip c = starts_within c.args.bounce c.args.n c.requires.0 c.args.i (search rules)

end_fits : (c : Else-full-i) → c.args.at + c.args.n < 2 ^ 64
end_fits c = true_fits (c.args.at + c.args.n) c.requires.1

pub overflow_add-end : goal.overflow_add-end
overflow_add-end c = omega (arith, true_fits (c.args.at + c.args.n) c.requires.1)

pub overflow_add-start : goal.overflow_add-start
overflow_add-start c = omega (arith, skip c.before, end_fits c.before)

pub overflow_add-end-2 : goal.overflow_add-end-2
overflow_add-end-2 c = omega (arith, skip c.before, end_fits c.before, c.min-length.ensures)
