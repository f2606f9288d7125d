-- `tables::table::load` meets its contract: in every turn the table is what is read and what the rest of the bytes adds. Assumes nothing.
use lib.ListN.{length}
use Rattle.tables.proofs.Loading.{Reading}
use Rattle.tables.proofs.table.load.Given as goal

abbrev pub invariant-loop-record : goal.invariant-loop-record
invariant-loop-record l = Reading l.bytes l.rows l.count l.rest

abbrev pub decreases-loop-record : goal.decreases-loop-record
decreases-loop-record l = length l.rest
