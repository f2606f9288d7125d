-- `sheets::joining::join` meets its contract, test by test. Assumes nothing.
use Rattle.std.proofs.lemmas.Result.{err_from_is_err_and}
use Rattle.sheets.specs.Sheets.{writes_in}
use Rattle.sheets.proofs.Answering.{joins_unfit, joins_no_room, joins_all}
use Rattle.sheets.proofs.joining.join.Goals as goal

pub returns-in_err-sheet : goal.returns-in_err-sheet
returns-in_err-sheet c =
    let a = c.args in
    let p = err_from_is_err_and c.from_residual.result c.from_residual.ensures.1 in
    let e = c.in_err-sheet.ensures in
    rw (p.1, p.2, e.0) (joins_unfit (writes_in a.writes.now) a.«data».now a.output.now a.joined.now e.1)

pub returns-then-not-has_room : goal.returns-then-not-has_room
returns-then-not-has_room c =
    let a = c.args in
    let e = c.in_ok-sheet.ensures in
    joins_no_room (writes_in a.writes.now) a.«data».now a.output.now a.joined.now _ _ e.0 e.1 c.in_ok-sheet.sheet.fits c.if-not-has_room.ensures

pub returns : goal.returns
returns c =
    let a = c.args in
    let e = c.in_ok-sheet.ensures in
    joins_all (writes_in a.writes.now) a.«data».now a.output.now a.joined.now _ _ e.0 e.1 c.in_ok-sheet.sheet.fits c.if-not-has_room.ensures
    _ _ _ c.pack.ensures
