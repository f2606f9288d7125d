-- `dock_words::begun_words::admit` meets its contract: each plan by its case of the definition. Assumes nothing.
use Rattle.std.specs.Prelude.{Ok}
use mathlib.Core.Path.{ap, ◌∙◌}
use Rattle.dock_words.proofs.Begun.{sound_slot}
use Rattle.dock_words.specs.CallWordsLaws.{same_words}
use Rattle.dock_words.proofs.begun_words.admit.Goals as goal

pub admit_started-requires : goal.admit_started-requires
admit_started-requires c = let a = c.args in let w = rw (c.in_ok-x.was ∙ ap Ok c.in-Some.is) at c.requires in (sound_slot a.place.slot _ a.place.settings a.place.buffers _ w, w)

pub returns-in_default-clause-words : goal.returns-in_default-clause-words
returns-in_default-clause-words c = (same_words _ _, same_words _ _, same_words _ _)

pub returns-in_err-x-clause-words : goal.returns-in_err-x-clause-words
returns-in_err-x-clause-words c = (same_words _ _, same_words _ _, same_words _ _)
