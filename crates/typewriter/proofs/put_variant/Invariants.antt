-- `put_variant`: behind the number of fields the types of those before j. Assumes nothing.
use Rattle.typewriter.proofs.TypeLaws.{VariantSoFar}
use Rattle.typewriter.proofs.put_variant.Given as goal

abbrev pub invariant-loop-j : goal.invariant-loop-j
invariant-loop-j l = VariantSoFar l.types l.variant l.initial.out l.j l.out
