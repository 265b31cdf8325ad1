-- The numbers of a column before some row, and the columns before some one, put one behind the other. Assumes nothing.
use mathlib.Core.Path.{◌≡◌, ap, sym, ◌∙◌}
use mathlib.Core.List.{List, append-nil}
use Prim.Native.Nat.{ℕ, ◌+◌, ◌≤◌, ◌<◌}
use native.Mathlib.Omega.{arith}
use lib.ListN.{get_or}
use Rattle.std.specs.Prelude.{Option, Some, None}
use Rattle.laws.specs.Lists.{from}
use Rattle.laws.proofs.Lists.{from_at}
use Rattle.guard.specs.Guard.{Row, no_row}
use Rattle.guard.specs.Number.{width64}
use Rattle.guard.specs.Types.{Types}
use Rattle.tables.specs.declared.RowTable.{RowTable}
use Rattle.tables.specs.declared.TypeTable.{TypeTable}
use Rattle.encoding.specs.Encoding.{encoded_of, encoded_value}
use Rattle.heldparts.specs.Held.{HoldsRows, HoldsTypes}
use Rattle.bytebuffer.specs.declared.Writer.{Writer}
use Rattle.bytebuffer.specs.Appends.{Appends}
use Rattle.bytebuffer.proofs.EachLaws.{each_all, each_full, each_next, first_bytes}
use Rattle.bytebuffer.proofs.PutLaws.{nothing, same-bytes}
use Rattle.rowterms.specs.Rows.{SomeRows}
use Rattle.rowterms.proofs.RowLaws.{row_count}
use Rattle.columnfile.specs.Columns.{bytes_for, column_bytes, entry}
use Rattle.columnwriter.specs.Entries.{HasRow, IsEntry, PutsColumn, PutsColumns, PutsEntry}

-- ---- an entry

module _ {types : TypeTable} {rows : RowTable} {r j : ℕ} where
  pub entry_put : {n : ℕ} → IsEntry types rows r j (Some n) → {w w' : Writer} {result : Option (Unit {0})} → Appends (encoded_of width64 n) w result w' → PutsEntry types rows r j w result w'
  unfolding encoded_value
  entry_put {n} e p = record { puts = λ ts rs t h. same-bytes (sym (append-nil (encoded_of width64 n)) ∙ ap bytes_for (e.is ts rs t h)) p }

  pub entry_none : IsEntry types rows r j None → {w : Writer} → PutsEntry types rows r j w (Some tt) w
  entry_none e {w} = record { puts = λ ts rs t h. same-bytes (ap bytes_for (e.is ts rs t h)) (nothing w) }

pub ruleset entry_laws = (entry_put, entry_none)

-- ---- a column, for all rows that the tables may hold

abbrev its_bytes : ℕ → Row → List ℕ
its_bytes j x = bytes_for (entry j x)

pub record ColumnSoFar (types : TypeTable) (rows : RowTable) (j : ℕ) (w : Writer) (r : ℕ) (w' : Writer) : Type 0 where
  pub so_far : (ts : Types) (rs : List Row) → HoldsTypes types ts → HoldsRows rows ts rs → Appends (first_bytes (its_bytes j) rs r) w (Some tt) w'

module _ {types : TypeTable} {rows : RowTable} where
  pub has_row : SomeRows types rows → {r : ℕ} → r < rows.many → HasRow types rows r
  has_row s h = record { some = s; inside = h }

  module _ {j : ℕ} where
    pub column_begin : {w : Writer} → ColumnSoFar types rows j w 0 w
    column_begin {w} = record { so_far = λ ts rs t h. nothing w }

    module _ {w w' : Writer} {r : ℕ} (s : ColumnSoFar types rows j w r w') where
      module _ (l : r < rows.many) where
        pub column_next : {w'' : Writer} → PutsEntry types rows r j w' (Some tt) w'' → ColumnSoFar types rows j w (r + 1) w''
        column_next q = record { so_far = λ ts rs t h. each_next (its_bytes j) rs (s.so_far ts rs t h) (omega (arith, row_count h)) no_row (q.puts ts rs t h) }

        pub column_full : {w'' : Writer} → PutsEntry types rows r j w' None w'' → PutsColumn types rows j w None w''
        column_full q = record { puts = λ ts rs t h. each_full (its_bytes j) rs (s.so_far ts rs t h) (omega (arith, row_count h)) no_row (q.puts ts rs t h) }

      pub column_all : rows.many ≤ r → PutsColumn types rows j w (Some tt) w'
      column_all l = record { puts = λ ts rs t h. each_all (its_bytes j) rs (s.so_far ts rs t h) (omega (arith, row_count h)) }

pub ruleset column_laws = (has_row, column_begin, column_next, column_full, column_all)

-- ---- the columns

-- column j is the one of number j among them
its_column : (j : ℕ) (rs : List Row) → j < 6 → column_bytes j rs ≡ column_bytes (get_or (from 6 0) j 0) rs
its_column j rs h = let e : j ≡ get_or (from 6 0) j 0 = omega (arith, from_at 6 0 j 0 h) in ap (λ (k : ℕ). column_bytes k rs) e

abbrev of_column : List Row → ℕ → List ℕ
of_column rs k = column_bytes k rs

pub record ColumnsSoFar (types : TypeTable) (rows : RowTable) (w : Writer) (j : ℕ) (w' : Writer) : Type 0 where
  pub so_far : (ts : Types) (rs : List Row) → HoldsTypes types ts → HoldsRows rows ts rs → Appends (first_bytes (of_column rs) (from 6 0) j) w (Some tt) w'

module _ {types : TypeTable} {rows : RowTable} where
  pub columns_begin : {w : Writer} → ColumnsSoFar types rows w 0 w
  columns_begin {w} = record { so_far = λ ts rs t h. nothing w }

  module _ {w w' : Writer} {j : ℕ} (s : ColumnsSoFar types rows w j w') where
    module _ (l : j < 6) where
      pub columns_next : {w'' : Writer} → PutsColumn types rows j w' (Some tt) w'' → ColumnsSoFar types rows w (j + 1) w''
      columns_next q = record { so_far = λ ts rs t h. each_next (of_column rs) (from 6 0) (s.so_far ts rs t h) l 0 (same-bytes (its_column j rs l) (q.puts ts rs t h)) }

      pub columns_full : {w'' : Writer} → PutsColumn types rows j w' None w'' → PutsColumns types rows w None w''
      columns_full q = record { puts = λ ts rs t h. each_full (of_column rs) (from 6 0) (s.so_far ts rs t h) l 0 (same-bytes (its_column j rs l) (q.puts ts rs t h)) }

    pub columns_all : 6 ≤ j → PutsColumns types rows w (Some tt) w'
    columns_all l = record { puts = λ ts rs t h. each_all (of_column rs) (from 6 0) (s.so_far ts rs t h) l }

pub ruleset columns_laws = (columns_begin, columns_next, columns_full, columns_all)
