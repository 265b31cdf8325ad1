-- Invariant: the places so far are those of the column. Assumes nothing.
use mathlib.Core.Path.{◌≡◌}
use Rattle.columns.specs.Entries.{filled}
use Rattle.sortcolumn.specs.Sorts.{fieldless_entry}
use Rattle.sortcolumn.proofs.fieldless_entries.Given as goal

abbrev pub invariant-loop-y : goal.invariant-loop-y
invariant-loop-y l = l.column ≡ filled 8 (fieldless_entry l.counts l.first l.arities) l.y
