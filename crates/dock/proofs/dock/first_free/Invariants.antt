-- `dock::dock::first_free` meets its contract: after i turns none of the first i slots is free. Assumes nothing.
use Rattle.dock.specs.SlotLaws.{NoneFree}
use Rattle.dock.proofs.dock.first_free.Given as goal

abbrev pub invariant-loop-i : goal.invariant-loop-i
invariant-loop-i l = NoneFree l.fn.states l.i
