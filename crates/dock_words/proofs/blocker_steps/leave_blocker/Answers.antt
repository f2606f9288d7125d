-- `dock_words::blocker_steps::leave_blocker` meets its contract: none for a job without, else it leaves. Assumes nothing.
use mathlib.Core.Path.{refl, sym, ◌∙◌}
use Rattle.dock.specs.Tell.{blockers_without}
use Rattle.dock_words.specs.CallWordsLaws.{same_words}
use Rattle.dock_words.proofs.blocker_steps.leave_blocker.Goals as goal

pub returns-then-not-is_blocking : goal.returns-then-not-is_blocking
unfolding blockers_without
returns-then-not-is_blocking c = simp (sym c.is_blocking.ensures ∙ c.if-not-is_blocking.true) (refl, refl, same_words _ _)

pub returns : goal.returns
unfolding blockers_without
returns c = simp (sym c.is_blocking.ensures ∙ c.if-not-is_blocking.false) c.leave.ensures
