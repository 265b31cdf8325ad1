-- `read_columns`: the columns before j are read, and stand in the cells. Assumes nothing.
use Rattle.tables.specs.Layout.{types_of}
use Rattle.columnreader.proofs.ColumnLaws.{ColumnsSoFar}
use Rattle.columnreader.proofs.read_columns.Given as goal

abbrev pub invariant-loop-j : goal.invariant-loop-j
invariant-loop-j l = ColumnsSoFar l.bytes l.at (types_of l.table) l.n l.next l.j l.cells
