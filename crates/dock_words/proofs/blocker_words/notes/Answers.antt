-- `dock_words::blocker_words::notes` meets its contract: after i turns the first i notes are there. Assumes nothing.
use Rattle.std.specs.Prelude.{refl, false}
use Rattle.std.proofs.Common.{rules, sym, ◌∙◌, arith}
use Rattle.arithmetic.specs.Loops.{like_more, like_all}
use Rattle.dock_words.specs.Laws.{notes_length, note_at}
use Rattle.dock_words.proofs.blocker_words.notes.Goals as goal

pub loop-i-init : goal.loop-i-init
loop-i-init c = let a = c.args in (sym (notes_length a.kind a.range a.all.now ∙ c.told-all), refl)

pub loop-i-preserved : goal.loop-i-preserved
loop-i-preserved c = let a = c.args in
    let i = c.loop-i.i in
    like_more _ _ i _ _ false refl (rw (notes_length a.kind a.range a.all.now) (search rules)) c.loop-i.invariant (c.is_noted.ensures ∙ note_at a.kind a.range a.all.now i (search rules))

pub returns : goal.returns
returns c = let a = c.args in like_all _ _ c.loop-i.i (omega (arith, notes_length a.kind a.range a.all.now, c.told-all, c.loop-i-test.false)) c.loop-i.invariant
