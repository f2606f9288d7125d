-- `dock_shown::shown::submit` meets its contract: what begin gives, shown. Assumes nothing.
use Rattle.dock_shown.specs.ShownLaws.{submitted, submit_words}
use Rattle.dock_words.specs.View.{dock_of}
use Rattle.dock_shown.proofs.shown.submit.Goals as goal

pub returns-clause-dock : goal.returns-clause-dock
returns-clause-dock c = let a = c.args in
    submitted (dock_of a.settings.now a.blockers.now a.states.now a.vectors.now) a.asked a.«data».now a.scratch.now _ c.begin-begun.ensures.dock _ _ c.show_begun.ensures.dock

pub returns-clause-words : goal.returns-clause-words
returns-clause-words c = let a = c.args in
    submit_words (dock_of a.settings.now a.blockers.now a.states.now a.vectors.now) a.asked a.«data».now a.scratch.now _ c.begin-begun.ensures.dock _ _ _ _ _ _ _ _ c.begin-begun.ensures.words c.show_begun.ensures.words
