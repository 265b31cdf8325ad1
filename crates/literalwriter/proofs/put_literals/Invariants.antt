-- `put_literals`: the bytes of the literals before i are put. Assumes nothing.
use Rattle.literalwriter.proofs.LiteralLaws.{LiteralsSoFar}
use Rattle.literalwriter.proofs.put_literals.Given as goal

abbrev pub invariant-loop-i : goal.invariant-loop-i
invariant-loop-i l = LiteralsSoFar l.literals l.names l.initial.out l.i l.out
