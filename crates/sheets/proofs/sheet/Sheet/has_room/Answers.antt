-- `sheets::sheet::Sheet::has_room` meets its contract: by the lengths of the writes, or else by the joined ranges. Assumes nothing.
use mathlib.Core.Path.{sym, ◌∙◌}
use Rattle.sheets.proofs.Answering.{room_for_all}
use Rattle.sheets.proofs.sheet.Sheet.has_room.Goals as goal

pub returns-then-holds_all : goal.returns-then-holds_all
returns-then-holds_all c = c.if-holds_all.true ∙ sym (room_for_all _ _ _ c.args.self.now.fits (sym c.if-holds_all.ensures))
