-- `dock::bytes::fill_share` meets its contract: the bytes of a job that is sound in its slot lie in its share. Assumes nothing.
use Rattle.dock.proofs.Shares.{found_in_share}
use Rattle.dock.proofs.bytes.fill_share.Goals as goal

pub fill-requires : goal.fill-requires
fill-requires c = let a = c.args in found_in_share a.slot a.x a.settings a.buffers _ _ c.in-Some.ensures
