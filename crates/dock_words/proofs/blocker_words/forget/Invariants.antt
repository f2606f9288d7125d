-- `dock_words::blocker_words::forget` meets its contract: after i turns the first i rows have forgotten `slot`. Assumes nothing.
use Rattle.std.specs.Prelude.{[], ◌+◌, set}
use Rattle.arithmetic.specs.Loops.{Mapped}
use Rattle.dock_words.proofs.blocker_words.forget.Given as goal

abbrev pub invariant-loop-row : goal.invariant-loop-row
invariant-loop-row l = Mapped (λ r. set r (3 + l.slot) 0) [] l.initial.all l.all l.row-index
