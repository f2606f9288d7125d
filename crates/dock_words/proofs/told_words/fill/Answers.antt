-- `dock_words::told_words::fill` meets its contract: nothing is moved, or by the slot's vector. Assumes nothing.
use mathlib.Core.Path.{sym, ◌∙◌}
use Rattle.dock.specs.Slots.{filled_share}
use Rattle.dock_words.proofs.told_words.fill.Goals as goal

pub returns-then-not-is_bounced_write : goal.returns-then-not-is_bounced_write
unfolding filled_share
returns-then-not-is_bounced_write c = simp (sym c.is_bounced_write.ensures ∙ c.if-not-is_bounced_write.true)
