-- Tables that hold the parts of a well-formed guard. Assumes nothing: definitions.
use Rattle.std.specs.Prelude.{◌≡◌, List, ℕ, ◌≤◌, ◌<◌, length}
use Rattle.laws.specs.All.{All}
use Rattle.guard.specs.Guard.{Literal, Row, row_at}
use Rattle.guard.specs.Limits.{field_limit, total_variant_limit, variant_limit}
use Rattle.guard.specs.Types.{Types, Variant, variants_of}
use Rattle.guard.specs.WellFormed.{LiteralFits, RowFits}
use Rattle.tables.specs.Layout.{flat, literal_table, row_table, type_table}
use Rattle.tables.specs.declared.LiteralTable.{LiteralTable}
use Rattle.tables.specs.declared.RowTable.{RowTable}
use Rattle.tables.specs.declared.TypeTable.{TypeTable}

abbrev pub VariantFits : Types → Variant → Type 0
VariantFits ts fs = (length fs ≤ field_limit) × All (λ f. f < length ts) fs

pub record HoldsTypes (table : TypeTable) (ts : Types) : Type 0 where
  pub are : table ≡ type_table ts
  pub many : length ts ≤ 6
  pub variants : (t : ℕ) → length (variants_of ts t) ≤ variant_limit
  pub total : length (flat ts) ≤ total_variant_limit
  pub fields : All (VariantFits ts) (flat ts)

pub record HoldsRows (table : RowTable) (ts : Types) (rs : List Row) : Type 0 where
  pub are : table ≡ row_table ts rs
  pub many : length rs ≤ 24
  pub fit : (i : ℕ) → i < length rs → RowFits ts rs i (row_at rs i)

pub record HoldsLiterals (table : LiteralTable) (ts : Types) (rs : List Row) (ls : List Literal) : Type 0 where
  pub are : table ≡ literal_table ls
  pub many : length ls ≤ 64
  pub fit : All (LiteralFits ts rs) ls
