-- `dock_words::arrays::tell` meets its contract: 205, 208, then what the code does to the slot. Assumes nothing.
use mathlib.Core.Path.{sym, ◌∙◌}
use Rattle.dock_words.proofs.Told.{tell_not_lent, tell_no_slot, tell_there}
use Rattle.dock_words.specs.CallWordsLaws.{same_words}
use Rattle.std.proofs.Common.{arith}
use Rattle.dock_words.specs.Laws.{state_row, vector_row}
use Rattle.dock_words.proofs.arrays.tell.Goals as goal

pub returns-then-not-lent_fits : goal.returns-then-not-lent_fits
returns-then-not-lent_fits c = record { dock = (let a = c.args in tell_not_lent a.settings.now a.blockers.now a.states.now a.vectors.now a.slot a.code a.«data».now a.scratch.now (rw (← c.buffers_of-b.ensures) (sym c.lent_fits.ensures ∙ c.if-not-lent_fits.true))); words = (same_words _ _, same_words _ _) }

pub returns-then-slot-ge-SLOTS : goal.returns-then-slot-ge-SLOTS
returns-then-slot-ge-SLOTS c = record { dock = (let a = c.args in tell_no_slot a.settings.now a.blockers.now a.states.now a.vectors.now a.slot a.code a.«data».now a.scratch.now (rw (← c.buffers_of-b.ensures) (sym c.lent_fits.ensures ∙ c.if-not-lent_fits.false)) c.if-slot-ge-SLOTS.true); words = (same_words _ _, same_words _ _) }

pub tell_slot-requires : goal.tell_slot-requires
tell_slot-requires c = (c.if-slot-ge-SLOTS.false, (sym c.lent_fits.ensures ∙ c.if-not-lent_fits.false))

pub returns : goal.returns
returns c = record { dock = (let a = c.args in tell_there a.settings.now a.blockers.now a.states.now a.vectors.now a.slot a.code a.«data».now a.scratch.now (rw (← c.buffers_of-b.ensures) (sym c.lent_fits.ensures ∙ c.if-not-lent_fits.false)) c.if-slot-ge-SLOTS.false _ (c.get_state-x.ensures ∙ state_row a.states.now a.slot (omega (arith, c.if-slot-ge-SLOTS.false, c.told-states))) _ c.settings_of.ensures _ c.buffers_of-b.ensures _ _ _ _ _ (rw (vector_row a.vectors.now a.slot (omega (arith, c.if-slot-ge-SLOTS.false, c.told-vectors))) at c.tell_slot.ensures.dock)); words = c.tell_slot.ensures.words }
