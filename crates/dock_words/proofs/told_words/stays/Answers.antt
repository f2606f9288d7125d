-- `dock_words::told_words::stays` meets its contract: filled, then stored where that was done. Assumes nothing.
use mathlib.Core.Path.{refl, ◌∙◌}
use Rattle.std.proofs.lemmas.Result.{err_from_is_err_and}
use Prim.Native.Nat.{◌*◌}
use Rattle.dock.specs.SlotLaws.{filled_share_lem}
use Rattle.vectors.specs.Words.{vector_from}
use Rattle.std.proofs.Common.{rules}
use Rattle.dock_words.specs.Laws.{state_put}
use Rattle.dock_words.proofs.Told.{stays_refused, stays_done}
use Rattle.dock_words.specs.CallWordsLaws.{same_words, done_words}
use Rattle.dock_words.proofs.told_words.stays.Goals as goal

pub returns-in_err-fill : goal.returns-in_err-fill
returns-in_err-fill c = record { dock = (let a = c.args in let p = err_from_is_err_and c.from_residual.result c.from_residual.ensures.1 in rw (p.1, p.2, ← c.in_err-fill.was) (stays_refused a.blockers.now a.states.now a.place.slot (a.place.slot * a.place.settings.bounce) a.y (vector_from a.vector.now) a.«data».now a.scratch.now _ _ (c.fill.ensures ∙ filled_share_lem a.place.slot a.place.settings a.place.buffers a.y (vector_from a.vector.now) a.«data».now a.scratch.now c.requires.1) _ c.in_err-fill.was)); words = same_words _ _ }

pub returns : goal.returns
returns c = record { dock = (let a = c.args in stays_done a.blockers.now a.states.now a.place.slot (a.place.slot * a.place.settings.bounce) a.y (vector_from a.vector.now) a.«data».now a.scratch.now _ _ (c.fill.ensures ∙ filled_share_lem a.place.slot a.place.settings a.place.buffers a.y (vector_from a.vector.now) a.«data».now a.scratch.now c.requires.1) c.in_ok-fill.was _ (state_put a.states.now a.place.slot a.y _ c.put_state.ensures (search rules))); words = done_words _ _ _ refl }
