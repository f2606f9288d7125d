-- `sheets::sheet::Sheet::holds_all` meets its contract: in every turn what is left is the room for the writes behind. Assumes nothing.
use mathlib.Core.Path.{sym, ◌∙◌}
use native.Mathlib.Omega.{arith}
use Prim.Native.Nat.{◌<◌}
use lib.ListN.{length}
use Rattle.sheets.specs.Sheets.{writes_of}
use Rattle.sheets.proofs.Words.{writes_long, write_at}
use Rattle.sheets.proofs.Answering.{left_all, left_over, left_more}
use Rattle.sheets.proofs.sheet.Sheet.holds_all.Goals as goal

pub returns-in_default : goal.returns-in_default
returns-in_default c =
    let s = c.args.self.now in
    let i = c.loop-row.row-index in
    let h : i < length (writes_of s.writes.now) = omega (arith, writes_long s.writes.now, c.loop-row-test.true) in
    let e = c.from.ensures ∙ write_at s.writes.now i in
    sym (left_over c.loop-row.invariant h _ e (omega (arith, c.in_default.ensures)))

pub loop-row-preserved : goal.loop-row-preserved
loop-row-preserved c =
    let s = c.args.self.now in
    let i = c.loop-row.row-index in
    let h : i < length (writes_of s.writes.now) = omega (arith, writes_long s.writes.now, c.loop-row-test.true) in
    let e = c.from.ensures ∙ write_at s.writes.now i in
    rw c.in-Some.ensures.1 (left_more c.loop-row.invariant h _ e c.in-Some.ensures.0)

pub returns : goal.returns
returns c = sym (left_all c.loop-row.invariant (omega (arith, writes_long c.args.self.now.writes.now, c.loop-row-test.false)))
