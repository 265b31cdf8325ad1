-- A row at a cursor, and the parts of a built row, in terms of the parsers of the guard file. Assumes nothing: definitions.
use Rattle.std.specs.Prelude.{◌≡◌, List, map, ℕ, ◌+◌, ◌*◌, ◌≤◌, ◌<◌, length, get_or}
use Rattle.laws.specs.Lists.{from}
use Rattle.guard.specs.Guard as guard
use Rattle.guard.specs.Guard.{type_of}
use Rattle.guard.specs.Number.{Parser, ◌>>=◌, return}
use Rattle.guard.specs.Types.{Types, Variant}
use Rattle.tables.specs.declared.TypeTable.{TypeTable}
use Rattle.tables.specs.Layout.{pad, row_parts, row_value, row_variant}
use Rattle.rowparts.specs.declared.Row.{Row}
use Rattle.rowparts.specs.ByTypes.{parts_by}

-- what is known of the rows before: how many there are, and their types, at the front of a column
pub record Before (table : TypeTable) (rows : ℕ) (types : List ℕ) : Type 0 where
  pub few : rows ≤ 24
  pub long : length types ≡ 24
  pub small : (p : ℕ) → p < rows → get_or types p 0 < table.many

-- the number of a type's variant among the variants of all types
abbrev pub variant_number : TypeTable → ℕ → ℕ → ℕ
variant_number table t v = get_or table.first t 0 + v

-- ---- the parts of a built row

-- the types of the fields of variant w from field j on, `left` of them
abbrev pub fields_from : List ℕ → ℕ → ℕ → ℕ → Variant
fields_from sorts w left j = map (λ i. get_or sorts (3 * w + i) 0) (from left j)

-- the parts in three places
abbrev pub padded_parts : List ℕ → Variant → Parser (List ℕ)
padded_parts us fs = parts_by us fs >>= λ ps. return (pad 3 ps)

-- ---- a row

-- a row's entries in a table
abbrev pub as_row : Types → guard.Row → Row
as_row ts r = record { sort = type_of ts r; variant = row_variant r; parts = pad 3 (row_parts r); value = row_value r }

-- the entries of the row that a parser accepts
abbrev pub row_with : Types → Parser guard.Row → Parser Row
row_with ts p = p >>= λ r. return (as_row ts r)
