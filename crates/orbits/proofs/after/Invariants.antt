-- `after` meets its contract. Invariant: the type after the steps so far. Assumes nothing.
use mathlib.Core.Path.{◌≡◌}
use Rattle.growth.proofs.Orbit.{iterate}
use Rattle.orbits.specs.Orbits.{on_to}
use Rattle.orbits.proofs.after.Given as goal

abbrev pub invariant-loop : goal.invariant-loop
invariant-loop l = l.u ≡ iterate (on_to l.next) l.counter l.t
