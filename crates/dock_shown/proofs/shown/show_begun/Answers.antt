-- `dock_shown::shown::show_begun` meets its contract: the words of a begin that took no slot stay. Assumes nothing.
use Rattle.std.specs.Prelude.{Ok}
use mathlib.Core.Path.{ap, ◌∙◌}
use Rattle.dock_words.specs.CallWords.{is_admitted}
use Rattle.dock_words.specs.CallWordsLaws.{same_words, done_words}
use Rattle.dock_shown.proofs.shown.show_begun.Goals as goal

pub returns-in-None-clause-words : goal.returns-in-None-clause-words
returns-in-None-clause-words c = (same_words _ _, same_words _ _)

pub returns-in-Err-clause-words : goal.returns-in-Err-clause-words
returns-in-Err-clause-words c = (same_words _ _, same_words _ _)

pub returns-in-Some-clause-words : goal.returns-in-Some-clause-words
returns-in-Some-clause-words c = let t = ap is_admitted (c.in-Ok.is ∙ ap Ok c.in-Some.is) in (done_words _ _ _ t, done_words _ _ _ t)
