-- `dock::bytes::share_of` meets its contract: a sound job's share lies in the scratch. Assumes nothing.
use mathlib.Core.Path.{sym, ◌∙◌}
use native.Mathlib.Omega.{arith}
use Rattle.dock.proofs.Shares.{room}
use Rattle.dock.proofs.bytes.share_of.Goals as goal

pub overflow_mul-result : goal.overflow_mul-result
overflow_mul-result c = let a = c.args in omega (arith, room a.slot a.x a.settings a.buffers _ (sym c.is_sound_at.ensures ∙ c.if-not-is_sound_at.false), c.well_formed)
