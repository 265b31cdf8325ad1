-- `put_row`: the numbers of the row before j are put. Assumes nothing.
use Rattle.restoredrows.proofs.RowLaws.{RowSoFar}
use Rattle.restoredrows.proofs.put_row.Given as goal

abbrev pub invariant-loop-j : goal.invariant-loop-j
invariant-loop-j l = RowSoFar l.types l.cells l.i l.initial.out l.j l.out
