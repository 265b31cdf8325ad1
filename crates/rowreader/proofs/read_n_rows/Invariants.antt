-- `read_n_rows`: what is left to read, behind the rows read so far, is the whole, and the table is that of the rows read so
-- far. Assumes nothing.
use Rattle.tables.specs.Layout.{types_of}
use Rattle.rowreader.proofs.RowLaws.{RowsSoFar}
use Rattle.rowreader.proofs.read_n_rows.Given as goal

abbrev pub invariant-loop-i : goal.invariant-loop-i
invariant-loop-i l = RowsSoFar l.bytes l.at l.n (types_of l.table) l.rows l.next l.i
