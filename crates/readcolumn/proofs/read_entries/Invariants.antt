-- Invariant: the rows so far are those of the column. Assumes nothing.
use mathlib.Core.Path.{◌≡◌}
use Prim.Native.Nat.{◌*◌}
use Rattle.columns.specs.Entries.{filled}
use Rattle.readcolumn.specs.Reads.{read_entry}
use Rattle.readcolumn.proofs.read_entries.Given as goal

abbrev pub invariant-loop-i : goal.invariant-loop-i
invariant-loop-i l = l.column ≡ filled 96 (read_entry l.kinds l.types l.variants l.parts) (4 * l.i)
