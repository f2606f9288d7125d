-- `dock_words::blocker_steps::enter_blocker` meets its contract: none for a job without, else it enters with its strength. Assumes nothing.
use mathlib.Core.Path.{refl, sym, ◌∙◌}
use Rattle.dock.specs.Begin.{blockers_with}
use Rattle.dock_words.specs.CallWordsLaws.{same_words}
use Rattle.dock_words.proofs.blocker_steps.enter_blocker.Goals as goal

pub returns-then-not-is_blocking : goal.returns-then-not-is_blocking
unfolding blockers_with
returns-then-not-is_blocking c = simp (sym c.is_blocking.ensures ∙ c.if-not-is_blocking.true) (refl, refl, same_words _ _)

pub returns : goal.returns
unfolding blockers_with
returns c = simp (sym c.is_blocking.ensures ∙ c.if-not-is_blocking.false) (rw c.strength.ensures at c.enter.ensures.0, rw c.strength.ensures at c.enter.ensures.1, c.enter.ensures.2)
