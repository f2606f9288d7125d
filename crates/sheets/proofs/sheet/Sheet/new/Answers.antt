-- `sheets::sheet::Sheet::new` meets its contract: the rows of three words are the writes of the words. Assumes nothing.
use mathlib.Core.Path.{refl, sym, ap, ◌∙◌}
use lib.ListN.{length}
use mathlib.Core.List.{List}
use Rattle.sheets.specs.Sheets.{sheet_fits}
use Rattle.sheets.specs.declared.sheet.SheetWrite.{SheetWrite}
use Rattle.sheets.proofs.Words.{writes_read}
use Rattle.sheets.proofs.sheet.Sheet.new.Goals as goal

pub returns-then-not-sheet_fits : goal.returns-then-not-sheet_fits
returns-then-not-sheet_fits c = (
  refl,
  ap (λ (ws : List SheetWrite). sheet_fits (length c.args.«data».now) ws) (sym (writes_read c.args.words.now _ c.as_chunks.ensures.front))
      ∙ sym c.sheet_fits.ensures ∙ c.if-not-sheet_fits.true,
)

pub returns : goal.returns
returns c = (writes_read c.args.words.now _ c.as_chunks.ensures.front, refl)
