-- `put_rows`: N is small. Assumes nothing.
use native.Mathlib.Omega.{arith}
use Rattle.columnwriter.proofs.PutLaws.{rows_few}
use Rattle.columnwriter.proofs.put_rows.Goals as goal

pub overflow_cast-t : goal.overflow_cast-t
overflow_cast-t c = record { fits = omega (arith, rows_few c.requires.is) }
