-- Invariants: the places so far are those of the column. Assumes nothing.
use mathlib.Core.Path.{◌≡◌}
use Prim.Native.Nat.{◌+◌}
use Rattle.columns.specs.Entries.{filled}
use Rattle.sortcolumn.specs.Sorts.{sort_entry}
use Rattle.sortcolumn.proofs.sort_entries.Given as goal

abbrev pub invariant-loop-x : goal.invariant-loop-x
invariant-loop-x l = l.column ≡ filled 96 (sort_entry l.many l.count l.types l.siblings) l.x

abbrev pub invariant-loop-t : goal.invariant-loop-t
invariant-loop-t l = l.column ≡ filled 96 (sort_entry l.many l.count l.types l.siblings) (72 + l.t)
