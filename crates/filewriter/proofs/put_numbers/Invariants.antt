-- `put_numbers`: the bytes of the numbers before i are put. Assumes nothing.
use Rattle.filewriter.proofs.TokenLaws.{NumbersPut}
use Rattle.filewriter.proofs.put_numbers.Given as goal

abbrev pub invariant-loop-i : goal.invariant-loop-i
invariant-loop-i l = NumbersPut l.list l.marks l.initial.writer l.i l.writer
