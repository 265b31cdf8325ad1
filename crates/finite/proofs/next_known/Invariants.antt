-- `next_known` meets its contract. Invariant: the flags so far. Assumes nothing.
use mathlib.Core.Path.{◌≡◌}
use Rattle.finite.specs.TypeColumns.{types_in}
use Rattle.finite.specs.Finite.{finite_type_from, flags}
use Rattle.finite.proofs.next_known.Given as goal

abbrev pub invariant-loop-t : goal.invariant-loop-t
invariant-loop-t l = l.next ≡ flags (finite_type_from l.known 2 (types_in l.many l.variants l.first l.arities l.sorts)) l.t
