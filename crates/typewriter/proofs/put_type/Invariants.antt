-- `put_type`: behind the number of variants the bytes of those before v. Assumes nothing.
use Rattle.typewriter.proofs.TypeLaws.{TypeSoFar}
use Rattle.typewriter.proofs.put_type.Given as goal

abbrev pub invariant-loop-v : goal.invariant-loop-v
invariant-loop-v l = TypeSoFar l.types l.t l.initial.out l.v l.out
