-- `dock_words::blocker_words::waits` meets its contract: none past slot 7, else by the notes in its row. Assumes nothing.
use Rattle.std.proofs.Common.{rules, sym, ◌∙◌}
use Rattle.std.proofs.lemmas.List.{length-map}
use Rattle.blockers.specs.Laws.{past_free}
use Rattle.dock_words.specs.View.{blocker_of, blockers_of}
use Rattle.dock_words.proofs.Sought.{held}
use Rattle.dock_words.proofs.blocker_words.waits.Goals as goal

pub returns-then-slot-ge-SLOTS : goal.returns-then-slot-ge-SLOTS
returns-then-slot-ge-SLOTS c = let w = c.args.all.now in
    sym (past_free (blockers_of w) c.args.slot (length-map w blocker_of ∙ c.told-all) c.if-slot-ge-SLOTS.true)

pub returns : goal.returns
returns c = held c.args.all.now c.args.slot _ c.if-slot-ge-SLOTS.false c.told-all (search rules) c.is_held.ensures
