-- `read_parts`: what is left to read, behind the parts read so far, is the whole, and the array holds the parts read so far.
-- Assumes nothing.
use lib.ListN.{take}
use Rattle.rowparts.proofs.PartLaws.{PartsSoFar}
use Rattle.rowparts.proofs.read_parts.Given as goal

abbrev pub invariant-loop-j : goal.invariant-loop-j
invariant-loop-j l = PartsSoFar l.bytes l.at (take l.rows l.types) l.sorts l.w l.arity l.parts l.next l.j
