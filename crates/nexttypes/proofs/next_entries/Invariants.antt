-- `next_entries` meets its contract. Invariant: the entries so far are those of the column. Assumes nothing.
use mathlib.Core.Path.{◌≡◌}
use Rattle.columns.specs.Entries.{filled}
use Rattle.nexttypes.specs.NextTypes.{next_entry}
use Rattle.nexttypes.proofs.next_entries.Given as goal

abbrev pub invariant-loop-t : goal.invariant-loop-t
invariant-loop-t l = l.column ≡ filled 6 (next_entry l.variants l.first l.arities l.sorts l.chosen l.growing) l.t
