-- `dock::dock::Dock::tell_slot` meets its contract: what the code leads to has its bytes in the slot's share. Assumes nothing.
use mathlib.Core.Path.{sym, ◌∙◌}
use native.Mathlib.Omega.{arith}
use lib.ListN.{length}
use Rattle.dock.specs.Dock.{state_at}
use Rattle.dock.specs.SlotLaws.{sound_share}
use Rattle.dock.proofs.SlotsOf.{share_sound}
use Rattle.dock.proofs.Steps.{sound_room, leads_in_share}
use Rattle.dock.proofs.Merging.{in_share}
use Rattle.dock.proofs.dock.Dock.tell_slot.Goals as goal

pub overflow_mul-place : goal.overflow_mul-place
overflow_mul-place c = let a = c.args in let d = a.self.now in
    omega (arith, share_sound a.slot (state_at d a.slot) d.settings d.buffers (length a.«data».now) (length a.scratch.now) c.requires.place c.requires.lent (sym c.is_sound_in.ensures ∙ c.if-not-is_sound_in.false), c.well_formed)

pub take_step-requires : goal.take_step-requires
take_step-requires c = let a = c.args in let d = a.self.now in let x = state_at d a.slot in let n = length a.scratch.now in
    let k = (sym c.is_sound_in.ensures ∙ c.if-not-is_sound_in.false) in
    let r = sound_room x d.settings d.buffers (length a.«data».now) n c.requires.lent k in
    let w = sound_share x d.settings d.buffers k in
    (in_share a.slot d.settings.bounce x n c.requires.place w r, leads_in_share a.slot d.settings x a.code n c.requires.place w r _ (sym c.interpret_code.ensures ∙ c.in-Ok.is))
