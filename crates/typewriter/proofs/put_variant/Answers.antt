-- `put_variant`: the types of a variant's fields lie in the table. Assumes nothing.
use native.Mathlib.Omega.{arith}
use Rattle.typewriter.proofs.TypeLaws.{arity-small}
use Rattle.typewriter.proofs.put_variant.Goals as goal

pub bounds-types-variant-in-loop-j : goal.bounds-types-variant-in-loop-j
bounds-types-variant-in-loop-j c = let v = c.requires in omega (arith, v.inside, v.held.total, arity-small v.held _ v.inside)
