-- `dock_words::told_words::take_step` meets its contract: each step by its case of the definition. Assumes nothing.
use Rattle.dock_words.specs.CallWordsLaws.{same_words}
use Rattle.dock_words.proofs.told_words.take_step.Goals as goal

pub returns-in-Stays-clause-words : goal.returns-in-Stays-clause-words
returns-in-Stays-clause-words c = (same_words _ _, c.stays.ensures.words)
