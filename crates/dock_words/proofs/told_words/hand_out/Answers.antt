-- `dock_words::told_words::hand_out` meets its contract: nothing is moved, or by the slot's vector. Assumes nothing.
use mathlib.Core.Path.{sym, ◌∙◌}
use Rattle.dock.specs.Slots.{handed_share}
use Rattle.dock_words.proofs.told_words.hand_out.Goals as goal

pub returns-then-not-is_bounced_read : goal.returns-then-not-is_bounced_read
unfolding handed_share
returns-then-not-is_bounced_read c = simp (sym c.is_bounced_read.ensures ∙ c.if-not-is_bounced_read.true)
