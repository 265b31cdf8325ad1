-- `finite_types` meets its contract. Invariant: what is known is what so many times two rounds find. Assumes nothing.
use mathlib.Core.Path.{◌≡◌}
use Rattle.finite.specs.TypeColumns.{types_in}
use Rattle.finite.specs.Finite.{known_after}
use Rattle.finite.proofs.finite_types.Given as goal

abbrev pub invariant-loop-pass : goal.invariant-loop-pass
invariant-loop-pass l = l.known ≡ known_after l.pass (types_in l.many l.variants l.first l.arities l.sorts)
