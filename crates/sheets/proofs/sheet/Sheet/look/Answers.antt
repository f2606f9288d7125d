-- `sheets::sheet::Sheet::look` meets its contract: in every turn the stretch has one owner, by the writes before. Assumes nothing.
use mathlib.Core.Path.{◌∙◌}
use Prim.Native.Nat.{◌<◌}
use native.Mathlib.Omega.{arith}
use lib.ListN.{length}
use Rattle.sheets.specs.Sheets.{writes_of}
use Rattle.sheets.proofs.Words.{writes_long, write_at}
use Rattle.sheets.proofs.Testing.{sound_of}
use Rattle.sheets.proofs.Looking.{looked_all, looked_same, looked_before, looked_in, looked_past}
use borrow.Author.Rules.{rules}
use Rattle.sheets.proofs.sheet.Sheet.look.Goals as goal
use Rattle.sheets.proofs.sheet.Sheet.look.Goals.{then-at-from, else-at-from+then-at-to, else-at-from+else-at-to}

pub overflow_add-to : goal.overflow_add-to
overflow_add-to c =
    let s = c.args.self.now in
    let i = c.loop-row.row-index in
    let h : i < length (writes_of s.writes.now) = omega (arith, writes_long s.writes.now, c.loop-row-test.true) in
    search (rules, sound_of _ _ i _ (c.from-w.ensures ∙ write_at s.writes.now i) s.fits h)

pub loop-row-preserved : goal.loop-row-preserved
loop-row-preserved c =
    let s = c.args.self.now in
    let i = c.loop-row.row-index in
    let h : i < length (writes_of s.writes.now) = omega (arith, writes_long s.writes.now, c.loop-row-test.true) in
    let e = c.from-w.ensures ∙ write_at s.writes.now i in
    let k = c.loop-row.invariant in
    elim c.if-at-from.branch [
      | then-at-from w ↦ looked_same (looked_before k h _ e w.if-at-from.true) _ _ w.owner-is (w.end-is ∙ w.min-end.ensures)
      | else-at-from+then-at-to w ↦
          looked_same (looked_in k h _ e w.if-at-from.false w.if-at-to.true) _ _ w.owner-is (w.end-is ∙ w.min-end-then-at-to.ensures)
      | else-at-from+else-at-to w ↦ looked_same (looked_past k h _ e w.if-at-to.false) _ _ w.owner-is w.end-is
    ]

pub returns : goal.returns
returns c = looked_all c.loop-row.invariant (omega (arith, writes_long c.args.self.now.writes.now, c.loop-row-test.false))
