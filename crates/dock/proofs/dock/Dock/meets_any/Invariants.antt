-- The loop has found whether the vector meets itself or one of the slots before i.
use mathlib.Core.Path.{◌≡◌}
use mathlib.Core.Bool.{◌||◌}
use Rattle.arithmetic.specs.Loops.{any_below}
use Rattle.dock.specs.Dock.{meets_at, meets_itself}
use Rattle.dock.proofs.dock.Dock.meets_any.Given as goal

abbrev pub invariant-loop-i : goal.invariant-loop-i
invariant-loop-i l = l.met ≡ (meets_itself l.fn.job l.fn.v || any_below l.i (meets_at l.fn.self.states l.fn.self.vectors l.fn.job l.fn.v))
