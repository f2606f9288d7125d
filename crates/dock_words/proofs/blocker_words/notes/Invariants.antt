-- `dock_words::blocker_words::notes` meets its contract: after i turns the first i notes are there. Assumes nothing.
use Rattle.arithmetic.specs.Loops.{Like}
use Rattle.blockers.specs.Blockers.{notes_of}
use Rattle.dock_words.specs.View.{blockers_of}
use Rattle.dock_words.proofs.blocker_words.notes.Given as goal

abbrev pub invariant-loop-i : goal.invariant-loop-i
invariant-loop-i l = Like (notes_of l.kind l.range (blockers_of l.all)) l.noted l.i
