-- What reading the types and the term rows of a file gives, in terms of the parsers of the guard file. Assumes nothing: definitions.
use Rattle.std.specs.Prelude.{List, ℕ}
use Rattle.guard.specs.Guard.{Row}
use Rattle.guard.specs.Number.{Parser, ◌>>=◌, ◌>>◌, ask, return}
use Rattle.guard.specs.Types.{Types, all_defaults, defaults, infinite_fields}
use Rattle.tables.specs.Layout.{default_column, row_table, type_table}
use Rattle.typereader.specs.TypeReader.{types_part}
use Rattle.rowreader.specs.RowReader.{counted_rows}
use Rattle.headreader.specs.declared.HeadTables.{HeadTables}

-- the types and the rows of a file
pub record Head : Type 0 where
  pub types : Types
  pub rows : List Row

abbrev pub rows_behind : ℕ → Types → Parser Head
rows_behind terms ts = counted_rows terms ts >>= λ rs. return (record { types = ts; rows = rs })

-- T and the types, "After the last type and before N" the questions 8 and 9, N and the rows
abbrev pub head_part : ℕ → ℕ → Parser Head
head_part types terms = types_part types >>= λ ts. ask 8 (all_defaults ts) >> (ask 9 (infinite_fields ts) >> rows_behind terms ts)

-- ---- its tables

unfoldable pub head_tables : Head → HeadTables
head_tables h = record { types = type_table h.types; defaults = default_column (defaults h.types); rows = row_table h.types h.rows }

abbrev pub in_tables : Parser Head → Parser HeadTables
in_tables p = p >>= λ h. return (head_tables h)
