-- `dock_words::blocker_steps::may_leave` meets its contract: a job with no blocker, or one whose blocker is entered. Assumes nothing.
use mathlib.Core.Path.{sym, ap, ◌∙◌}
use mathlib.Core.Bool.{not}
use Rattle.dock_words.specs.View.{blockers_of}
use Rattle.dock_words.specs.CallWordsLaws.{leaves_plain, leaves_entered}
use Rattle.dock_words.proofs.blocker_steps.may_leave.Goals as goal

pub returns-then-not-is_blocking : goal.returns-then-not-is_blocking
returns-then-not-is_blocking c = let a = c.args in ap not c.if-not-is_blocking.true ∙ leaves_plain (blockers_of a.blockers.now) a.slot a.x (sym c.is_blocking.ensures ∙ c.if-not-is_blocking.true)

pub returns-else-not-is_blocking : goal.returns-else-not-is_blocking
returns-else-not-is_blocking c = let a = c.args in c.is_entered_at.ensures ∙ leaves_entered (blockers_of a.blockers.now) a.slot a.x (sym c.is_blocking.ensures ∙ c.if-not-is_blocking.false)
