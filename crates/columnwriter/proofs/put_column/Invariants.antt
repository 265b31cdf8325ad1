-- `put_column`: the numbers of the rows before r are put. Assumes nothing.
use Rattle.columnwriter.proofs.ColumnLaws.{ColumnSoFar}
use Rattle.columnwriter.proofs.put_column.Given as goal

abbrev pub invariant-loop-r : goal.invariant-loop-r
invariant-loop-r l = ColumnSoFar l.types l.rows l.j l.initial.out l.r l.out
