-- `sheets::sheet::Sheet::measure` meets its contract: in every turn the total is that of the ranges before `at`. Assumes nothing.
use mathlib.Core.Path.{sym, ap, ◌∙◌}
use lib.ListN.{length}
use Rattle.sheets.specs.Sheets.{writes_of, total_of}
use Rattle.sheets.proofs.Sweep.{some_owner, no_owner, none_total, all_now, past, total_over, over_most}
use borrow.Author.Rules.{rules}
use Rattle.sheets.proofs.sheet.Sheet.measure.Goals as goal

pub loop-at-init : goal.loop-at-init
loop-at-init c = let s = c.args.self.now in (search rules, none_total (length s.«data».now) (writes_of s.writes.now) s.fits)

pub overflow_add-total : goal.overflow_add-total
overflow_add-total c =
    let s = c.args.self.now in
    let w = some_owner c.look-s.result.owner c.if-is_some.ensures in
    search (rules, over_most (length s.«data».now) (writes_of s.writes.now) s.fits c.loop-at.at _ c.look-s.ensures w.0 w.1 c.loop-at.total c.loop-at.invariant.1)

pub loop-at-preserved-then-is_some : goal.loop-at-preserved-then-is_some
loop-at-preserved-then-is_some c =
    let s = c.args.self.now in
    let w = some_owner c.look-s.result.owner c.if-is_some.ensures in
    (c.look-s.ensures.most, total_over (length s.«data».now) (writes_of s.writes.now) s.fits c.loop-at.at _ c.look-s.ensures w.0 w.1 _ c.loop-at.invariant.1)

pub loop-at-preserved : goal.loop-at-preserved
loop-at-preserved c =
    let s = c.args.self.now in
    let n = no_owner c.look-s.result.owner c.if-is_some.ensures in
    (c.look-s.ensures.most, c.loop-at.invariant.1 ∙ ap total_of (sym (past (length s.«data».now) (writes_of s.writes.now) s.fits c.loop-at.at _ c.look-s.ensures n)))

pub returns : goal.returns
returns c =
    let s = c.args.self.now in
    c.loop-at.invariant.1 ∙ ap total_of (all_now (length s.«data».now) (writes_of s.writes.now) s.fits c.loop-at.at (search rules))
