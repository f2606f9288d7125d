-- `dock_words::blocker_steps::may_enter` meets its contract: a job with no blocker, or a slot of the eight where none is entered. Assumes nothing.
use mathlib.Core.Path.{sym, ap, ◌∙◌}
use borrow.Author.Tests.{le-ltb}
use mathlib.Core.Bool.{not}
use Rattle.dock_words.specs.View.{blockers_of}
use Rattle.dock_words.specs.CallWordsLaws.{enters_plain, enters_past, enters_vacant}
use Rattle.dock_words.proofs.blocker_steps.may_enter.Goals as goal

pub returns-then-not-is_blocking : goal.returns-then-not-is_blocking
returns-then-not-is_blocking c = let a = c.args in ap not c.if-not-is_blocking.true ∙ enters_plain (blockers_of a.blockers.now) a.slot a.x (sym c.is_blocking.ensures ∙ c.if-not-is_blocking.true)

pub returns-else-slot-lt-SLOTS : goal.returns-else-slot-lt-SLOTS
returns-else-slot-lt-SLOTS c = let a = c.args in le-ltb a.slot 8 c.if-slot-lt-SLOTS.false ∙ enters_past (blockers_of a.blockers.now) a.slot a.x (sym c.is_blocking.ensures ∙ c.if-not-is_blocking.false) c.if-slot-lt-SLOTS.false

pub returns-then-slot-lt-SLOTS : goal.returns-then-slot-lt-SLOTS
returns-then-slot-lt-SLOTS c = let a = c.args in ap not c.is_entered_at.ensures ∙ enters_vacant (blockers_of a.blockers.now) a.slot a.x (sym c.is_blocking.ensures ∙ c.if-not-is_blocking.false) c.if-slot-lt-SLOTS.true
