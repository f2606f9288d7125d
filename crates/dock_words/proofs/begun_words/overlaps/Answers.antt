-- `dock_words::begun_words::overlaps` meets its contract: where it does not meet itself, one of the slots decides. Assumes nothing.
use Rattle.std.proofs.Common.{sym, ◌∙◌}
use Rattle.dock.specs.Dock.{overlaps_of}
use Rattle.dock_words.proofs.Sought.{meets_rows}
use Rattle.dock_words.proofs.begun_words.overlaps.Goals as goal

pub returns-then-meets_itself : goal.returns-then-meets_itself
unfolding overlaps_of
returns-then-meets_itself c = simp (sym c.meets_itself.ensures ∙ c.if-meets_itself.true) c.if-meets_itself.true

pub returns-else-meets_itself : goal.returns-else-meets_itself
unfolding overlaps_of
returns-else-meets_itself c = let a = c.args in
    simp (sym c.meets_itself.ensures ∙ c.if-meets_itself.false) (c.meets_any.ensures ∙ meets_rows a.states.now a.vectors.now a.job a.v c.told-states c.told-vectors)
