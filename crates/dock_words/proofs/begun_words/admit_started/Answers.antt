-- `dock_words::begun_words::admit_started` meets its contract: 208 where the blocker cannot enter; filled, and where that was done it enters and the job is stored. Assumes nothing.
use mathlib.Core.Path.{refl, sym, ◌∙◌}
use Rattle.std.proofs.lemmas.Result.{err_from_is_err_and}
use Prim.Native.Nat.{◌*◌}
use Rattle.dock.specs.SlotLaws.{filled_share_lem}
use Rattle.std.proofs.Common.{rules}
use Rattle.arithmetic.specs.Loops.{array_long}
use Rattle.dock_words.specs.Laws.{state_put, vector_put}
use Rattle.dock_words.proofs.Begun.{admit_not, admit_refused, admit_done}
use Rattle.dock_words.specs.CallWordsLaws.{same_words, done_words}
use Rattle.dock_words.proofs.begun_words.admit_started.Goals as goal

pub returns-then-not-may_enter : goal.returns-then-not-may_enter
returns-then-not-may_enter c = record { dock = (let a = c.args in admit_not a.blockers.now a.states.now a.vectors.now a.place.slot (a.place.slot * a.place.settings.bounce) a.x a.v a.«data».now a.scratch.now (sym c.may_enter.ensures ∙ c.if-not-may_enter.true)); words = (same_words _ _, same_words _ _, same_words _ _) }

pub returns-in_err-fill_share : goal.returns-in_err-fill_share
returns-in_err-fill_share c = record { dock = (let a = c.args in let p = err_from_is_err_and c.from_residual.result c.from_residual.ensures.1 in rw (p.1, p.2) (admit_refused a.blockers.now a.states.now a.vectors.now a.place.slot (a.place.slot * a.place.settings.bounce) a.x a.v a.«data».now a.scratch.now (sym c.may_enter.ensures ∙ c.if-not-may_enter.false) _ _ (c.fill_share.ensures ∙ filled_share_lem a.place.slot a.place.settings a.place.buffers a.x a.v a.«data».now a.scratch.now c.requires.1) _ c.in_err-fill_share.was)); words = (same_words _ _, same_words _ _, same_words _ _) }

pub returns : goal.returns
returns c = record { dock = (let a = c.args in admit_done a.blockers.now a.states.now a.vectors.now a.place.slot (a.place.slot * a.place.settings.bounce) a.x a.v a.«data».now a.scratch.now (sym c.may_enter.ensures ∙ c.if-not-may_enter.false) _ _ (c.fill_share.ensures ∙ filled_share_lem a.place.slot a.place.settings a.place.buffers a.x a.v a.«data».now a.scratch.now c.requires.1) c.in_ok-fill_share.was _ _ _ c.enter_blocker.ensures.1 (state_put a.states.now a.place.slot a.x _ c.put_state.ensures (search rules)) (vector_put a.vectors.now a.place.slot a.v _ c.put_vector.ensures (search (rules, array_long)))); words = (done_words _ _ _ refl, done_words _ _ _ refl, done_words _ _ _ refl) }
