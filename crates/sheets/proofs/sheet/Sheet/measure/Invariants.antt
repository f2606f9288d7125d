-- `sheets::sheet::Sheet::measure` meets its contract: in every turn the total is that of the ranges before `at`. Assumes nothing.
use mathlib.Core.Path.{◌≡◌}
use Prim.Native.Nat.{◌-◌, ◌≤◌}
use Rattle.sheets.specs.Sheets.{writes_of, total_of}
use Rattle.sheets.specs.SheetLaws.{top}
use Rattle.sheets.proofs.Sweep.{So_far}
use Rattle.sheets.proofs.sheet.Sheet.measure.Given as goal

abbrev pub invariant-loop-at : goal.invariant-loop-at
invariant-loop-at l = (l.at ≤ top) × (l.total ≡ total_of (So_far (writes_of l.self.writes.now) l.at))

abbrev pub decreases-loop-at : goal.decreases-loop-at
decreases-loop-at l = top - l.at
