-- `dock_words::told_words::enters` meets its contract: 208 where the blocker cannot change; filled, and where that was done it changes and the state is stored. Assumes nothing.
use mathlib.Core.Path.{refl, sym, ◌∙◌}
use Rattle.std.proofs.lemmas.Result.{err_from_is_err_and}
use Prim.Native.Nat.{◌*◌}
use Rattle.dock.specs.SlotLaws.{filled_share_lem}
use Rattle.vectors.specs.Words.{vector_from}
use Rattle.std.proofs.Common.{rules}
use Rattle.dock_words.specs.Laws.{state_put}
use Rattle.dock_words.proofs.Told.{enters_not, enters_refused, enters_done}
use Rattle.dock_words.specs.CallWordsLaws.{same_words, done_words}
use Rattle.dock_words.proofs.told_words.enters.Goals as goal

pub returns-then-not-may_change : goal.returns-then-not-may_change
returns-then-not-may_change c = record { dock = (let a = c.args in enters_not a.blockers.now a.states.now a.place.slot (a.place.slot * a.place.settings.bounce) a.x a.y (vector_from a.vector.now) a.«data».now a.scratch.now (sym c.may_change.ensures ∙ c.if-not-may_change.true)); words = (same_words _ _, same_words _ _) }

pub returns-in_err-fill : goal.returns-in_err-fill
returns-in_err-fill c = record { dock = (let a = c.args in let p = err_from_is_err_and c.from_residual.result c.from_residual.ensures.1 in rw (p.1, p.2, ← c.in_err-fill.was) (enters_refused a.blockers.now a.states.now a.place.slot (a.place.slot * a.place.settings.bounce) a.x a.y (vector_from a.vector.now) a.«data».now a.scratch.now (sym c.may_change.ensures ∙ c.if-not-may_change.false) _ _ (c.fill.ensures ∙ filled_share_lem a.place.slot a.place.settings a.place.buffers a.y (vector_from a.vector.now) a.«data».now a.scratch.now c.requires.1) _ c.in_err-fill.was)); words = (same_words _ _, same_words _ _) }

pub returns : goal.returns
returns c = record { dock = (let a = c.args in enters_done a.blockers.now a.states.now a.place.slot (a.place.slot * a.place.settings.bounce) a.x a.y (vector_from a.vector.now) a.«data».now a.scratch.now (sym c.may_change.ensures ∙ c.if-not-may_change.false) _ _ (c.fill.ensures ∙ filled_share_lem a.place.slot a.place.settings a.place.buffers a.y (vector_from a.vector.now) a.«data».now a.scratch.now c.requires.1) c.in_ok-fill.was _ _ c.change_blocker.ensures (state_put a.states.now a.place.slot a.y _ c.put_state.ensures (search rules))); words = (done_words _ _ _ refl, done_words _ _ _ refl) }
