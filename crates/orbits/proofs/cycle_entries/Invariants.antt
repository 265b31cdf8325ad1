-- `cycle_entries` meets its contract. Invariant: the entries so far are those of the three columns. Assumes nothing.
use mathlib.Core.Path.{◌≡◌}
use Rattle.columns.specs.Entries.{filled}
use Rattle.orbits.specs.Orbits.{distance_entry, period_entry, root_entry}
use Rattle.orbits.proofs.cycle_entries.Given as goal

abbrev pub invariant-loop-t : goal.invariant-loop-t
invariant-loop-t l = record {
  root : l.root ≡ filled 6 (root_entry l.next l.many) l.t;
  distance : l.distance ≡ filled 6 (distance_entry l.next l.many) l.t;
  period : l.period ≡ filled 6 (period_entry l.next l.many) l.t;
}
