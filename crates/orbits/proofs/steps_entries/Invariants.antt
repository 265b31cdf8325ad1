-- `steps_entries` meets its contract. Invariant: the entries so far are those of the column. Assumes nothing.
use mathlib.Core.Path.{◌≡◌}
use Rattle.columns.specs.Entries.{filled}
use Rattle.orbits.specs.Orbits.{steps_entry}
use Rattle.orbits.proofs.steps_entries.Given as goal

abbrev pub invariant-loop-t : goal.invariant-loop-t
invariant-loop-t l = l.column ≡ filled 6 (steps_entry l.variants l.next l.many) l.t
