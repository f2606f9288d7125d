-- `dock::next::piece_in` meets its contract: 208 past slot 7 and where the job is not sound, else the piece; a sound job's share lies in the scratch. Assumes nothing.
use mathlib.Core.Path.{sym, ◌∙◌}
use native.Mathlib.Omega.{arith}
use Rattle.dock.proofs.SlotsOf.{share_room_sound}
use Rattle.dock.specs.SlotLaws.{sound_share}
use Rattle.dock.proofs.next.piece_in.Goals as goal

pub overflow_mul-share : goal.overflow_mul-share
overflow_mul-share c = let a = c.args in omega (arith, share_room_sound a.slot a.x a.settings a.buffers c.if-slot-ge-SLOTS.false (sym c.is_sound_in.ensures ∙ c.if-not-is_sound_in.false), c.well_formed)

pub piece_of-requires : goal.piece_of-requires
piece_of-requires c = let a = c.args in (sound_share a.x a.settings a.buffers (sym c.is_sound_in.ensures ∙ c.if-not-is_sound_in.false), omega (arith, share_room_sound a.slot a.x a.settings a.buffers c.if-slot-ge-SLOTS.false (sym c.is_sound_in.ensures ∙ c.if-not-is_sound_in.false), c.well_formed))
