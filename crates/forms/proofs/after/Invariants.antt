-- `after` meets its contract. Invariant: the type after the steps so far. Assumes nothing.
use mathlib.Core.Path.{◌≡◌}
use Prim.Native.Nat.{◌<◌}
use Rattle.growth.proofs.Orbit.{iterate}
use Rattle.orbits.specs.Orbits.{on_to}
use Rattle.forms.proofs.after.Given as goal

abbrev pub invariant-loop : goal.invariant-loop
invariant-loop l = record { small : l.u < 6; reached : l.u ≡ iterate (on_to l.growth.next) l.counter l.t }
