-- `sheets::sheet::Sheet::pack` meets its contract: in every turn the ranges before `at` are packed. Assumes nothing.
use Prim.Native.Nat.{◌-◌}
use Rattle.std.specs.Option.{is_some}
use Rattle.sheets.specs.Sheets.{writes_of}
use Rattle.sheets.specs.SheetLaws.{top}
use Rattle.sheets.proofs.Sweep.{first_of, place_of, Packing}
use Rattle.sheets.proofs.sheet.Sheet.pack.Given as goal

abbrev pub invariant-loop-at : goal.invariant-loop-at
invariant-loop-at l =
    Packing (writes_of l.self.writes.now) l.self.«data».now l.initial.output l.initial.joined l.count l.filled (first_of l.open) (place_of l.open)
    l.at (is_some l.open) l.output l.joined

abbrev pub decreases-loop-at : goal.decreases-loop-at
decreases-loop-at l = top - l.at
