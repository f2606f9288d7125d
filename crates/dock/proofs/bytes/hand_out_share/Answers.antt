-- `dock::bytes::hand_out_share` meets its contract: the bytes of a job that is sound in its slot lie in its share. Assumes nothing.
use Rattle.dock.proofs.Shares.{found_in_share}
use Rattle.dock.proofs.bytes.hand_out_share.Goals as goal

pub hand_out-requires : goal.hand_out-requires
hand_out-requires c = let a = c.args in found_in_share a.slot a.x a.settings a.buffers _ _ c.in-Some.ensures
