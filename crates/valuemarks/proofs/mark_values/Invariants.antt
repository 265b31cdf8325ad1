-- `mark_values`: from the last row to the first. Assumes nothing.
use mathlib.Core.Path.{◌≡◌}
use mathlib.Core.List.{List}
use Prim.Native.Nat.{ℕ}
use lib.ListN.{length}
use Rattle.guard.specs.Guard.{Guard}
use Rattle.tables.specs.declared.RowTable.{RowTable}
use Rattle.tables.specs.declared.TypeTable.{TypeTable}
use Rattle.valuemarks.specs.Marks.{Listed, until_lines}
use Rattle.valuemarks.proofs.Midway.{Midway}
use Rattle.valuemarks.proofs.mark_values.Given as goal

-- for every guard that the tables may be of
abbrev pub AllMidway : TypeTable → RowTable → ℕ → ℕ → ℕ → List ℕ → Type 0
AllMidway types rows end at r marks = (g : Guard) → Listed types rows g → end ≡ length (until_lines g) → Midway g at r marks

abbrev pub invariant-loop-r : goal.invariant-loop-r
invariant-loop-r l = AllMidway l.types l.rows l.end l.at l.r l.marks
