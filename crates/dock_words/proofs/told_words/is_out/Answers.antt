-- `dock_words::told_words::is_out` meets its contract: neither free nor ended, and not waiting. Assumes nothing.
use Rattle.std.specs.Prelude.{not}
use Rattle.std.proofs.Common.{sym, ap, ◌∙◌}
use Rattle.dock.specs.Dock.{is_out_by}
use Rattle.dock_words.proofs.told_words.is_out.Goals.{then-is_free-via-then-is_free, then-is_free-via-else-is_free+then-has_ended}
use Rattle.dock_words.proofs.told_words.is_out.Goals as goal

pub returns-then-is_free : goal.returns-then-is_free
unfolding is_out_by
returns-then-is_free c = elim c.then-is_free.branch [
  | then-is_free-via-then-is_free v ↦ simp (sym c.is_free.ensures ∙ v.if-is_free.true)
  | then-is_free-via-else-is_free+then-has_ended v ↦ simp ((sym c.is_free.ensures ∙ v.if-is_free.false), (sym v.has_ended.ensures ∙ v.if-has_ended.true))
]

pub returns : goal.returns
unfolding is_out_by
returns c = simp ((sym c.is_free.ensures ∙ c.if-is_free.false), (sym c.has_ended.ensures ∙ c.if-has_ended.false)) (ap not c.waits.ensures)
