-- `put_lines`: L is small. Assumes nothing.
use native.Mathlib.Omega.{arith}
use Rattle.mergewriter.proofs.Held.{some-literals}
use Rattle.columnwriter.proofs.PutLaws.{lines-few}
use Rattle.columnwriter.proofs.put_lines.Goals as goal

pub overflow_cast-t : goal.overflow_cast-t
overflow_cast-t c = record { fits = omega (arith, lines-few c.requires.is) }

pub put_literals-requires-clause-some_literals : goal.put_literals-requires-clause-some_literals
put_literals-requires-clause-some_literals c = some-literals c.requires.is
