-- `put_types`: behind the number of types the bytes of those before t. Assumes nothing.
use Rattle.typewriter.proofs.TypeLaws.{TypesSoFar}
use Rattle.typewriter.proofs.put_types.Given as goal

abbrev pub invariant-loop-t : goal.invariant-loop-t
invariant-loop-t l = TypesSoFar l.types l.initial.out l.t l.out
