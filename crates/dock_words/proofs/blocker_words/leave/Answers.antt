-- `dock_words::blocker_words::leave` meets its contract: where none is entered nothing changes, else its row is vacant. Assumes nothing.
use Rattle.std.specs.Prelude.{refl}
use Rattle.std.proofs.Common.{sym, ◌∙◌}
use Rattle.blockers.specs.Blockers.{left_of}
use Rattle.dock_words.specs.Laws.{left_row}
use Rattle.dock_words.specs.CallWordsLaws.{same_words, done_words}
use Rattle.dock_words.proofs.blocker_words.leave.Goals as goal

pub returns-then-not-is_entered_at : goal.returns-then-not-is_entered_at
unfolding left_of
returns-then-not-is_entered_at c = simp (sym c.is_entered_at.ensures ∙ c.if-not-is_entered_at.true) (refl, refl, same_words _ _)

pub returns : goal.returns
unfolding left_of
returns c = simp (sym c.is_entered_at.ensures ∙ c.if-not-is_entered_at.false) (refl, left_row c.forget.new.all c.args.slot ∙ rw c.forget.ensures, done_words _ _ _ refl)
