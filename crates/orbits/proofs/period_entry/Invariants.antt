-- `period_entry` meets its contract. Invariant: the period is not shorter. Assumes nothing.
use Prim.Native.Nat.{◌≤◌, max}
use Rattle.orbits.specs.Orbits.{period_entry}
use Rattle.orbits.proofs.period_entry.Given as goal

abbrev pub invariant-loop-k : goal.invariant-loop-k
invariant-loop-k l = record { within : l.k ≤ max l.many 1; not_below : l.k ≤ period_entry l.next l.many l.t }
