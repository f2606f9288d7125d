-- `dock_words::told_words::tell_slot` meets its contract: 208, 209, then the step that the code leads to, whose job is sound there. Assumes nothing.
use mathlib.Core.Path.{sym, ◌∙◌}
use Rattle.std.proofs.lemmas.Result.{err_from_is_err_and}
use lib.ListN.{length}
use Rattle.dock.specs.SlotLaws.{leads_sound}
use Rattle.vectors.specs.Words.{vector_from}
use Rattle.dock_words.proofs.Told.{told_not_out, told_not_sound, told_no_answer, told_leads}
use Rattle.dock_words.specs.CallWordsLaws.{same_words}
use Rattle.dock_words.proofs.told_words.tell_slot.Goals as goal

pub returns-then-not-is_out : goal.returns-then-not-is_out
returns-then-not-is_out c = record { dock = (let a = c.args in told_not_out a.blockers.now a.states.now a.place.slot a.place.settings a.place.buffers a.x (vector_from a.vector.now) a.code a.«data».now a.scratch.now (sym c.is_out.ensures ∙ c.if-not-is_out.true)); words = (same_words _ _, same_words _ _) }

pub returns-then-not-is_sound_in : goal.returns-then-not-is_sound_in
returns-then-not-is_sound_in c = record { dock = (let a = c.args in told_not_sound a.blockers.now a.states.now a.place.slot a.place.settings a.place.buffers a.x (vector_from a.vector.now) a.code a.«data».now a.scratch.now (sym c.is_out.ensures ∙ c.if-not-is_out.false) (sym c.is_sound_in.ensures ∙ c.if-not-is_sound_in.true)); words = (same_words _ _, same_words _ _) }

pub take_step-requires : goal.take_step-requires
take_step-requires c = let a = c.args in (c.requires.0, leads_sound a.place.slot a.place.settings a.place.buffers a.x a.code (length a.«data».now) (length a.scratch.now) c.requires.0 c.requires.1 (sym c.is_sound_in.ensures ∙ c.if-not-is_sound_in.false) _ (sym c.interpret_code.ensures ∙ c.in_ok-step.was))

pub returns-in_err-step : goal.returns-in_err-step
returns-in_err-step c = record { dock = (let a = c.args in let p = err_from_is_err_and c.from_residual.result c.from_residual.ensures.1 in rw (p.1, p.2) (told_no_answer a.blockers.now a.states.now a.place.slot a.place.settings a.place.buffers a.x (vector_from a.vector.now) a.code a.«data».now a.scratch.now (sym c.is_out.ensures ∙ c.if-not-is_out.false) (sym c.is_sound_in.ensures ∙ c.if-not-is_sound_in.false) _ c.interpret_code.ensures _ c.in_err-step.was)); words = (same_words _ _, same_words _ _) }

pub returns : goal.returns
returns c = record { dock = (let a = c.args in told_leads a.blockers.now a.states.now a.place.slot a.place.settings a.place.buffers a.x (vector_from a.vector.now) a.code a.«data».now a.scratch.now (sym c.is_out.ensures ∙ c.if-not-is_out.false) (sym c.is_sound_in.ensures ∙ c.if-not-is_sound_in.false) _ c.interpret_code.ensures _ c.in_ok-step.was _ c.take_step.ensures.dock); words = c.take_step.ensures.words }
