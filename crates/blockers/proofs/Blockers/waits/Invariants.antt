-- `blockers::Blockers::waits` meets its contract: the loop leaves at the first noted slot that is entered; before it none is one.
use Prim.Native.Nat.{ℕ, ◌<◌}
use mathlib.Core.Path.{◌≡◌}
use mathlib.Core.Bool.{false, ◌&&◌}
use Rattle.blockers.specs.Blockers.{is_entered, blocker_at, has_noted}
use Rattle.blockers.proofs.Blockers.waits.Given as goal

abbrev pub invariant-loop-i : goal.invariant-loop-i
invariant-loop-i l = (k : ℕ) → k < l.i → (has_noted l.fn.self l.slot k && is_entered (blocker_at l.fn.self k)) ≡ false
