-- `read_column`: the numbers of the rows before i are read, and stand in the cells. Assumes nothing.
use Rattle.std.proofs.Common.{◌≡◌, List, ℕ, ◌≤◌, length}
use Rattle.tables.specs.Layout.{types_of}
use Rattle.columnreader.specs.Cells.{Holds}
use Rattle.columnreader.proofs.ColumnLaws.{ColumnSoFar}
use Rattle.columnreader.proofs.read_column.Given as goal

-- for all columns that the cells may hold
abbrev pub invariant-loop-i : goal.invariant-loop-i
invariant-loop-i l = record {
  within : l.next ≤ length l.bytes;
  so_far : (cs : List (List ℕ)) → Holds l.initial.cells cs → length cs ≡ l.j → ColumnSoFar l.bytes l.at (types_of l.table) l.n l.next l.i l.cells cs;
}
