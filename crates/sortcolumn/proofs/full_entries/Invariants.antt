-- Invariant: the places so far are those of the column. Assumes nothing.
use mathlib.Core.Path.{◌≡◌}
use Rattle.columns.specs.Entries.{filled}
use Rattle.sortcolumn.specs.Sorts.{full_entry}
use Rattle.sortcolumn.proofs.full_entries.Given as goal

abbrev pub invariant-loop-y : goal.invariant-loop-y
invariant-loop-y l = l.column ≡ filled 8 (full_entry l.counts) l.y
