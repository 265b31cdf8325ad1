-- `put_rows`: the rows before r are put, where they aren't skipped. Assumes nothing.
use Rattle.rowwriter.proofs.Midway.{Midway}
use Rattle.rowwriter.proofs.put_rows.Given as goal

abbrev pub invariant-loop-r : goal.invariant-loop-r
invariant-loop-r l = Midway l.types l.rows l.names l.skipped l.initial.out l.r l.out
