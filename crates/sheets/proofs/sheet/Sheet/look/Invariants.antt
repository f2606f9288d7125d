-- `sheets::sheet::Sheet::look` meets its contract: in every turn the stretch has one owner, by the writes before. Assumes nothing.
use Rattle.sheets.specs.Sheets.{writes_of}
use Rattle.sheets.proofs.Looking.{Looked}
use Rattle.sheets.proofs.sheet.Sheet.look.Given as goal

abbrev pub invariant-loop-row : goal.invariant-loop-row
invariant-loop-row l = Looked (writes_of l.self.writes.now) l.at l.owner l.end l.row-index
