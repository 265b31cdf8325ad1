-- Invariants: the slots so far are those of the column. Assumes nothing.
use mathlib.Core.Path.{◌≡◌}
use Prim.Native.Nat.{◌+◌, ◌*◌}
use Rattle.columns.specs.Entries.{filled}
use Rattle.shapecolumn.specs.Shapes.{shape_entry}
use Rattle.shapecolumn.proofs.shape_entries.Given as goal

abbrev pub invariant-loop-i : goal.invariant-loop-i
invariant-loop-i l = l.column ≡ filled 256 (shape_entry l.kinds l.types l.variants l.parts l.fields l.counts l.defaults l.first l.arities l.sorts) (8 * l.i)

abbrev pub invariant-loop-t : goal.invariant-loop-t
invariant-loop-t l = l.column ≡ filled 256 (shape_entry l.kinds l.types l.variants l.parts l.fields l.counts l.defaults l.first l.arities l.sorts) (192 + 8 * l.t)
