-- `dock_words::told_words::ends` meets its contract: 208 where the blocker cannot leave; copied out, and where that was done it leaves and the state is stored. Assumes nothing.
use mathlib.Core.Path.{sym, ap, ◌∙◌}
use Rattle.std.proofs.lemmas.Result.{err_from_is_err_and}
use Prim.Native.Nat.{◌*◌}
use Rattle.dock.specs.SlotLaws.{handed_share_lem}
use Rattle.vectors.specs.Words.{vector_from}
use Rattle.std.proofs.Common.{rules}
use Rattle.dock_words.specs.Laws.{state_put}
use Rattle.dock_words.proofs.Told.{ends_not, ends_refused, ends_done}
use Rattle.dock_words.specs.CallWordsLaws.{same_words, done_words}
use Rattle.arithmetic.specs.Refusals.{is_done}
use Rattle.dock_words.proofs.told_words.ends.Goals as goal

pub returns-then-not-may_leave : goal.returns-then-not-may_leave
returns-then-not-may_leave c = record { dock = (let a = c.args in ends_not a.blockers.now a.states.now a.place.slot (a.place.slot * a.place.settings.bounce) a.x a.code a.y (vector_from a.vector.now) a.«data».now a.scratch.now (sym c.may_leave.ensures ∙ c.if-not-may_leave.true)); words = (same_words _ _, same_words _ _) }

pub returns-in_err-hand_out : goal.returns-in_err-hand_out
returns-in_err-hand_out c = record { dock = (let a = c.args in let p = err_from_is_err_and c.from_residual.result c.from_residual.ensures.1 in rw (p.1, p.2, ← c.in_err-hand_out.was) (ends_refused a.blockers.now a.states.now a.place.slot (a.place.slot * a.place.settings.bounce) a.x a.code a.y (vector_from a.vector.now) a.«data».now a.scratch.now (sym c.may_leave.ensures ∙ c.if-not-may_leave.false) _ _ (c.hand_out.ensures ∙ handed_share_lem a.place.slot a.place.settings a.place.buffers a.x a.code (vector_from a.vector.now) a.«data».now a.scratch.now c.requires.1) _ c.in_err-hand_out.was)); words = (same_words _ _, same_words _ _) }

pub returns : goal.returns
returns c = record { dock = (let a = c.args in ends_done a.blockers.now a.states.now a.place.slot (a.place.slot * a.place.settings.bounce) a.x a.code a.y (vector_from a.vector.now) a.«data».now a.scratch.now (sym c.may_leave.ensures ∙ c.if-not-may_leave.false) _ _ (c.hand_out.ensures ∙ handed_share_lem a.place.slot a.place.settings a.place.buffers a.x a.code (vector_from a.vector.now) a.«data».now a.scratch.now c.requires.1) c.in_ok-hand_out.was _ c.leave_blocker-left.ensures.0 _ _ c.leave_blocker-left.ensures.1 (state_put a.states.now a.place.slot a.y _ c.put_state.ensures (search rules))); words = let e = ap is_done c.leave_blocker-left.ensures.0 ∙ sym c.may_leave.ensures ∙ c.if-not-may_leave.false in (done_words _ _ _ e, done_words _ _ _ e) }
