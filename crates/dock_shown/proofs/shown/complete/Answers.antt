-- `dock_shown::shown::complete` meets its contract: what tell gives, shown where it is done. Assumes nothing.
use Rattle.dock_shown.specs.ShownLaws.{completed_refused, completed, complete_words, complete_done}
use Rattle.dock_words.specs.View.{dock_of}
use Rattle.dock_shown.proofs.shown.complete.Goals as goal

pub returns-in-Err-clause-dock : goal.returns-in-Err-clause-dock
returns-in-Err-clause-dock c = let a = c.args in
    completed_refused (dock_of a.settings.now a.blockers.now a.states.now a.vectors.now) a.slot a.code a.«data».now a.scratch.now _ c.tell-outcome.ensures.dock _ c.in-Err.is _ c.put_refusal.ensures

pub returns-in-Err-clause-words : goal.returns-in-Err-clause-words
returns-in-Err-clause-words c = let a = c.args in
    complete_words (dock_of a.settings.now a.blockers.now a.states.now a.vectors.now) a.slot a.code a.«data».now a.scratch.now _ c.tell-outcome.ensures.dock _ _ _ _ _ c.tell-outcome.ensures.words

pub returns-clause-dock : goal.returns-clause-dock
returns-clause-dock c = let a = c.args in
    completed (dock_of a.settings.now a.blockers.now a.states.now a.vectors.now) a.slot a.code a.«data».now a.scratch.now _ c.tell-outcome.ensures.dock c.in_default.is _ _ c.show.ensures.dock

pub returns-clause-words : goal.returns-clause-words
returns-clause-words c = let a = c.args in
    complete_done (dock_of a.settings.now a.blockers.now a.states.now a.vectors.now) a.slot a.code a.«data».now a.scratch.now _ c.tell-outcome.ensures.dock c.in_default.is _ _ _ _ _ _
