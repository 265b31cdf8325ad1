-- `field_entries` meets its contract. Invariant: the places so far are those of the column. Assumes nothing.
use Rattle.siblings.specs.Siblings.{field_entries}
use mathlib.Core.Path.{◌≡◌}
use Rattle.siblings.proofs.field_entries.Given as goal

abbrev pub invariant-loop-x : goal.invariant-loop-x
invariant-loop-x l = l.column ≡ field_entries l.kinds l.types l.variants l.parts l.first l.arities l.x
