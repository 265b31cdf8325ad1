-- `put_rows`: the rows before i are put behind N. Assumes nothing.
use Rattle.tables.specs.Layout.{types_of}
use Rattle.restoredrows.proofs.RowLaws.{RowsSoFar}
use Rattle.restoredrows.proofs.put_rows.Given as goal

abbrev pub invariant-loop-i : goal.invariant-loop-i
invariant-loop-i l = RowsSoFar (types_of l.types) l.cells l.n l.initial.writer l.i l.writer
