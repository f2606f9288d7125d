-- `dock_words::blocker_steps::may_change` meets its contract: a blocker that can leave makes way for the next one. Assumes nothing.
use mathlib.Core.Path.{sym, ◌∙◌}
use Rattle.dock_words.specs.View.{blockers_of}
use Rattle.dock_words.specs.CallWordsLaws.{changes_blocking, changes_plain}
use Rattle.dock_words.proofs.blocker_steps.may_change.Goals as goal

pub returns-then-is_blocking : goal.returns-then-is_blocking
returns-then-is_blocking c = let a = c.args in c.may_leave.ensures ∙ changes_blocking (blockers_of a.blockers.now) a.slot a.x a.y (sym c.is_blocking.ensures ∙ c.if-is_blocking.true)

pub returns-else-is_blocking : goal.returns-else-is_blocking
returns-else-is_blocking c = let a = c.args in c.may_enter.ensures ∙ changes_plain (blockers_of a.blockers.now) a.slot a.x a.y (sym c.is_blocking.ensures ∙ c.if-is_blocking.false)
