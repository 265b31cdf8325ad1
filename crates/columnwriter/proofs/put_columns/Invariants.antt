-- `put_columns`: the columns before j are put. Assumes nothing.
use Rattle.columnwriter.proofs.ColumnLaws.{ColumnsSoFar}
use Rattle.columnwriter.proofs.put_columns.Given as goal

abbrev pub invariant-loop-j : goal.invariant-loop-j
invariant-loop-j l = ColumnsSoFar l.types l.rows l.initial.out l.j l.out
