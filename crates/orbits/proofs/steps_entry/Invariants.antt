-- `steps_entry` meets its contract. Invariant: no number type is met in fewer steps. Assumes nothing.
use Prim.Native.Nat.{◌≤◌}
use Rattle.laws.proofs.Positions.{least}
use Rattle.orbits.specs.Orbits.{number_after}
use Rattle.orbits.proofs.steps_entry.Given as goal

abbrev pub invariant-loop-k : goal.invariant-loop-k
invariant-loop-k l = l.k ≤ least (number_after l.variants l.next l.t) l.many
