-- `sort_entries` meets its contract. Invariant: the places so far are those of the column. Assumes nothing.
use Rattle.siblings.specs.Siblings.{sort_entries}
use mathlib.Core.Path.{◌≡◌}
use Rattle.siblings.proofs.sort_entries.Given as goal

abbrev pub invariant-loop-x : goal.invariant-loop-x
invariant-loop-x l = l.column ≡ sort_entries l.kinds l.types l.variants l.parts l.first l.arities l.sorts l.x
