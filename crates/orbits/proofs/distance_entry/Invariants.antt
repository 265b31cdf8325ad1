-- `distance_entry` meets its contract. Invariant: the root is not met in fewer steps. Assumes nothing.
use Prim.Native.Nat.{◌≤◌}
use Rattle.laws.proofs.Positions.{least}
use Rattle.orbits.specs.Orbits.{met_after}
use Rattle.orbits.proofs.distance_entry.Given as goal

abbrev pub invariant-loop-k : goal.invariant-loop-k
invariant-loop-k l = l.k ≤ least (met_after l.next l.t l.root) l.many
