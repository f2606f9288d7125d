-- `sheets::sheet::Sheet::holds_all` meets its contract: in every turn what is left is the room for the writes behind. Assumes nothing.
use Rattle.sheets.specs.Sheets.{writes_of}
use Rattle.sheets.proofs.Answering.{Left}
use Rattle.sheets.proofs.sheet.Sheet.holds_all.Given as goal

abbrev pub invariant-loop-row : goal.invariant-loop-row
invariant-loop-row l = Left (writes_of l.self.writes.now) l.room l.left l.row-index
