-- `put_bytes`: the bytes before i are put. Assumes nothing.
use Rattle.restoredrows.proofs.ByteLaws.{BytesSoFar}
use Rattle.restoredrows.proofs.put_bytes.Given as goal

abbrev pub invariant-loop-i : goal.invariant-loop-i
invariant-loop-i l = BytesSoFar l.bytes l.initial.out l.i l.out
