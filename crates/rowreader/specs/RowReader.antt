-- The rows at a cursor, in terms of the parsers of the guard file. Assumes nothing: definitions.
use Rattle.std.specs.Prelude.{List, [], ℕ, ◌+◌, ◌*◌, get_or, set}
use Rattle.guard.specs.File.{count, rows}
use Rattle.guard.specs.Guard as guard
use Rattle.guard.specs.Number.{Parser, ◌>>=◌, return}
use Rattle.guard.specs.Types.{Types}
use Rattle.tables.specs.declared.RowTable.{RowTable}
use Rattle.tables.specs.Layout.{row_table}
use Rattle.rowparts.specs.declared.Row.{Row}

-- a table with one row more
unfoldable pub stored : RowTable → ℕ → Row → RowTable
stored rows k r =
    record {
      many = rows.many + 1;
      kinds = set rows.kinds rows.many k;
      types = set rows.types rows.many r.sort;
      variants = set rows.variants rows.many r.variant;
      parts =
          set (set (set rows.parts (3 * rows.many) (get_or r.parts 0 0)) (3 * rows.many + 1) (get_or r.parts 1 0))
          (3 * rows.many + 2) (get_or r.parts 2 0);
      values = set rows.values rows.many r.value;
    }

-- "N (0 to 24), then N term rows"
abbrev pub counted_rows : ℕ → Types → Parser (List guard.Row)
counted_rows limit ts = count limit >>= λ n. rows n ts []

-- the table of the rows that a parser accepts
abbrev pub table_with : Types → Parser (List guard.Row) → Parser RowTable
table_with ts p = p >>= λ rs. return (row_table ts rs)
