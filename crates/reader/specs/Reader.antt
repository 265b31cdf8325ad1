-- What the reader gives for a file: the tables of its guard. Assumes nothing: definitions.
use Rattle.std.specs.Prelude.{ℕ, min}
use Rattle.guard.specs.Guard.{Guard}
use Rattle.guard.specs.Limits.{Limits, base}
use Rattle.guard.specs.Number.{Parser, ◌>>=◌, return}
use Rattle.guard.specs.Types.{defaults}
use Rattle.tables.specs.Layout.{default_column, literal_table, row_table, type_table}
use Rattle.siblings.specs.Siblings.{siblings_in}
use Rattle.reader.specs.declared.Tables.{Tables}

-- the limits that the reader keeps: those asked for, as far as its tables have room
abbrev pub limits_of : ℕ → ℕ → ℕ → Limits
limits_of types terms lines = record { types = min types 6; terms = min terms 24; lines = min lines 64; rows = base.rows }

-- the tables of a guard
unfoldable pub guard_tables : Guard → Tables
guard_tables g =
    record {
      types = type_table g.types;
      defaults = default_column (defaults g.types);
      rows = row_table g.types g.rows;
      literals = literal_table g.literals;
      siblings = siblings_in g.types g.rows;
    }

-- the guard in its tables
abbrev pub in_tables : Parser Guard → Parser Tables
in_tables p = p >>= λ g. return (guard_tables g)
