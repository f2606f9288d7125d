-- `dock_shown::shown::show` meets its contract: each arm is its case of what next says. Assumes nothing.
use Rattle.std.specs.Prelude.{Ok}
use mathlib.Core.Path.{refl, sym, ap, ◌∙◌}
use Rattle.dock_shown.specs.ShownLaws.{shown_kept, shown_asked, shown_taken}
use Rattle.dock_words.specs.View.{dock_of}
use Rattle.dock_shown.proofs.shown.show.Goals as goal

pub returns-in-Err : goal.returns-in-Err
returns-in-Err c = let a = c.args in
    let k = shown_kept (dock_of a.settings.now a.blockers.now a.states.now a.vectors.now) a.slot a.data_len a.scratch_len _ (sym c.next.ensures ∙ c.in-Err.is) refl _ c.put_refusal.ensures _ _ in
    record { dock = k.0; words = k.1 }

pub returns-in-Waiting : goal.returns-in-Waiting
returns-in-Waiting c = let a = c.args in
    let k = shown_kept (dock_of a.settings.now a.blockers.now a.states.now a.vectors.now) a.slot a.data_len a.scratch_len _ (sym c.next.ensures ∙ c.in-Ok.is ∙ ap Ok c.in-Waiting.is) refl _ c.put_short.ensures _ _ in
    record { dock = k.0; words = k.1 }

pub returns-in-Answer : goal.returns-in-Answer
returns-in-Answer c = let a = c.args in
    let k = shown_taken (dock_of a.settings.now a.blockers.now a.states.now a.vectors.now) a.slot a.data_len a.scratch_len _ (sym c.next.ensures ∙ c.in-Ok.is ∙ ap Ok c.in-Answer.is) _ c.put_short-in-Answer.ensures _ c.collect.ensures.dock.1 _ _ _ _ in
    record { dock = k.0; words = k.1 }

pub returns-in-Make : goal.returns-in-Make
returns-in-Make c = let a = c.args in
    let k = shown_asked (dock_of a.settings.now a.blockers.now a.states.now a.vectors.now) a.slot a.data_len a.scratch_len _ (sym c.next.ensures ∙ c.in-Ok.is ∙ ap Ok c.in-Make.is) _ c.piece-p.ensures _ c.put_request.ensures _ _ in
    record { dock = k.0; words = k.1 }
