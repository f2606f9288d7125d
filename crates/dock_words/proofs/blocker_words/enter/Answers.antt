-- `dock_words::blocker_words::enter` meets its contract: each way out is one of the laws on which calls are carried out. Assumes nothing.
use Rattle.std.specs.Prelude.{refl}
use Rattle.std.proofs.Common.{sym, ◌∙◌, arith}
use Rattle.blockers.specs.Laws.{enter_done, enter_past, enter_taken}
use Rattle.dock_words.specs.View.{blockers_of}
use Rattle.dock_words.specs.Laws.{entered_word, blocker_part}
use Rattle.dock_words.specs.CallWordsLaws.{same_words, done_words}
use Rattle.dock_words.proofs.blocker_words.enter.Goals.{then-slot-ge-SLOTS-via-then-slot-ge-SLOTS, then-slot-ge-SLOTS-via-else-slot-ge-SLOTS+then-is_entered}
use Rattle.dock_words.proofs.blocker_words.enter.Goals as goal

pub returns-then-slot-ge-SLOTS : goal.returns-then-slot-ge-SLOTS
returns-then-slot-ge-SLOTS c = let a = c.args in
    let w = a.all.now in
    elim c.then-slot-ge-SLOTS.branch [
      | then-slot-ge-SLOTS-via-then-slot-ge-SLOTS v ↦ rw (enter_past a.kind a.slot a.range (blockers_of w) v.if-slot-ge-SLOTS.true) (refl, refl, same_words _ _)
      | then-slot-ge-SLOTS-via-else-slot-ge-SLOTS+then-is_entered v ↦
          rw (enter_taken a.kind a.slot a.range (blockers_of w) (sym (entered_word w a.slot (omega (arith, v.if-slot-ge-SLOTS.false, c.told-all))) ∙ sym v.is_entered.ensures ∙ v.if-is_entered.true)) (refl, refl, same_words _ _)
    ]

pub returns : goal.returns
returns c = let a = c.args in
    let w = a.all.now in
    let h = c.if-slot-ge-SLOTS.false in
    let e = sym (entered_word w a.slot (omega (arith, h, c.told-all))) ∙ sym c.is_entered.ensures ∙ c.if-is_entered.false in
    rw (enter_done a.kind a.slot a.range (blockers_of w) h e, c.put_blocker.ensures, ← c.notes-noted.ensures) (refl, blocker_part w a.slot _ _ refl, done_words _ _ _ refl)
