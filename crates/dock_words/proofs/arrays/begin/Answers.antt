-- `dock_words::arrays::begin` meets its contract: each step by its definition, then what is admitted is begun. Assumes nothing.
use Rattle.dock.specs.SlotLaws.{decided_sound}
use Rattle.dock_words.proofs.Begun.{begin_there}
use Rattle.dock_words.proofs.arrays.begin.Goals as goal

pub admit-requires : goal.admit-requires
admit-requires c = let a = c.args in decided_sound a.asked.job _ _ a.asked.offset a.asked.length a.asked.vector _ _ _ c.check_lent-lent.ensures _ _ c.plan_asked-first.ensures _ _ _ c.decide-plan.ensures

pub returns : goal.returns
returns c = record { dock = (let a = c.args in begin_there a.settings.now a.blockers.now a.states.now a.vectors.now a.asked a.«data».now a.scratch.now _ c.settings_of-s.ensures _ c.buffers_of-b.ensures _ c.select_vector-v.ensures _ c.overlaps-met.ensures _ c.check_lent-lent.ensures _ c.first_free-free.ensures _ c.plan_asked-first.ensures _ c.is_valid.ensures _ c.decide-plan.ensures _ _ _ _ _ c.admit.ensures.dock); words = c.admit.ensures.words }
