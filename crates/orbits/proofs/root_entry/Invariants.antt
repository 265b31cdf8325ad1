-- `root_entry` meets its contract. Invariant: the lowest of the types after so many steps from the start. Assumes nothing.
use mathlib.Core.Path.{◌≡◌}
use Rattle.growth.proofs.Orbit.{lowest}
use Rattle.orbits.specs.Orbits.{on_to}
use Rattle.orbits.proofs.root_entry.Given as goal

abbrev pub invariant-loop-k : goal.invariant-loop-k
invariant-loop-k l = l.root ≡ lowest (on_to l.next) l.k l.start
