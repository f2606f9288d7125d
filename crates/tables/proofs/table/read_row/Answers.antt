-- `tables::table::read_row` meets its contract. Assumes nothing.
use Rattle.tables.specs.Tables.{row_of}
use Rattle.tables.proofs.table.read_row.Goals as goal

pub returns : goal.returns
unfolding row_of
returns c = rw (c.number_at.ensures, c.number_at-2.ensures, c.number_at-3.ensures, c.number_at-4.ensures)
