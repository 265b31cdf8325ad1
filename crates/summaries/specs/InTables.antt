-- Tables that hold a guard within limits: what the code that makes a summary asks of them. Assumes nothing: definitions.
use Rattle.std.specs.Prelude.{◌≡◌, ℕ, ◌≤◌, length}
use Rattle.guard.specs.Guard.{Guard}
use Rattle.guard.specs.Limits.{Limits, base, total_variant_limit}
use Rattle.guard.specs.WellFormed.{WellFormed}
use Rattle.guard.proofs.Accepted.{variants_in, with_lines}
use Rattle.tables.specs.Layout.{literal_table, row_table, type_table}
use Rattle.tables.specs.declared.LiteralTable.{LiteralTable}
use Rattle.tables.specs.declared.RowTable.{RowTable}
use Rattle.tables.specs.declared.TypeTable.{TypeTable}

-- "The extra line doesn't count against 32": the base's limits for a guard with an added line, and for one with the line of a variant behind it
abbrev pub longer : Limits
longer = with_lines base 33

abbrev pub wide : Limits
wide = with_lines base 64

pub record InTables (limits : Limits) (types : TypeTable) (rows : RowTable) (lines : LiteralTable) (g : Guard) : Type 0 where
  pub types_of : types ≡ type_table g.types
  pub rows_of : rows ≡ row_table g.types g.rows
  pub lines_of : lines ≡ literal_table g.literals
  pub formed : WellFormed limits g
  pub total : length (variants_in g.types) ≤ total_variant_limit

-- they hold some guard
pub record SomeGuard (limits : Limits) (types : TypeTable) (rows : RowTable) (lines : LiteralTable) : Type 0 where
  pub guard : Guard
  pub held : InTables limits types rows lines guard
