-- Invariant: the places so far are those of the column. Assumes nothing.
use mathlib.Core.Path.{◌≡◌}
use Rattle.columns.specs.Entries.{filled}
use Rattle.readcolumn.specs.Reads.{constant_entry}
use Rattle.readcolumn.proofs.constant_entries.Given as goal

abbrev pub invariant-loop-i : goal.invariant-loop-i
invariant-loop-i l = l.column ≡ filled 32 (constant_entry l.count l.kinds l.types l.counts) l.i
