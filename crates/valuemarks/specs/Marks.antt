-- Which numbers of a guard's list are values of constants. Assumes nothing: definitions.
use Rattle.std.specs.Prelude.{◌≡◌, List, [], ◌∷◌, ◌++◌, map, ℕ, ◌≤◌, length, replicate}
use Rattle.laws.specs.Lists.{concat_map}
use Rattle.guard.specs.Guard.{Guard, row_at}
use Rattle.guard.specs.Limits.{base, total_variant_limit}
use Rattle.guard.specs.WellFormed.{WellFormed}
use Rattle.tables.specs.declared.RowTable.{RowTable}
use Rattle.tables.specs.declared.TypeTable.{TypeTable}
use Rattle.tables.specs.Layout.{flat, pad, row_table, type_table}
use Rattle.serialize.specs.Tokens.{Token, Token.plain, Token.value, guard_tokens, row_tokens, type_tokens}

-- 1 for a value
abbrev pub mark_of : Token → ℕ
mark_of (plain n) = 0
mark_of (value z) = 1

-- room for the numbers of any file: each has a byte at least, and no file is longer than 585
abbrev pub room : ℕ
room = 640

unfoldable pub marks_of : Guard → List ℕ
marks_of g = pad room (map mark_of (guard_tokens g))

-- tables of a guard, whatever they say of the values
pub record Listed (types : TypeTable) (rows : RowTable) (g : Guard) : Type 0 where
  pub well_formed : WellFormed base g
  pub total : length (flat g.types) ≤ total_variant_limit
  pub short : length (guard_tokens g) ≤ room
  pub types_are : types ≡ type_table g.types
  pub many : rows.many ≡ length g.rows
  pub kinds : rows.kinds ≡ (row_table g.types g.rows).kinds
  pub sorts : rows.types ≡ (row_table g.types g.rows).types
  pub variants : rows.variants ≡ (row_table g.types g.rows).variants

pub record GuardsRows (types : TypeTable) (rows : RowTable) : Type 0 where
  pub guard : Guard
  pub listed : Listed types rows guard

-- n numbers make row r
pub record RowNumbers (types : TypeTable) (rows : RowTable) (r n : ℕ) : Type 0 where
  pub is : (g : Guard) → Listed types rows g → n ≡ length (row_tokens (row_at g.rows r))

-- the tokens before the rows, and those up to their end
abbrev pub until_rows : Guard → List Token
until_rows g = plain (length g.types) ∷ concat_map type_tokens g.types ++ (plain (length g.rows) ∷ [])

abbrev pub until_lines : Guard → List Token
until_lines g = until_rows g ++ concat_map row_tokens g.rows

-- nothing is marked, and the rows of a guard with these tables end at `end`
pub record Unmarked (types : TypeTable) (rows : RowTable) (end : ℕ) (marks : List ℕ) : Type 0 where
  pub guard : Guard
  pub listed : Listed types rows guard
  pub ends : end ≡ length (until_lines guard)
  pub blank : marks ≡ replicate room 0

-- the values are marked, and nothing else is
pub record MarksValues (types : TypeTable) (rows : RowTable) (end : ℕ) (marks : List ℕ) : Type 0 where
  pub are : (g : Guard) → Listed types rows g → end ≡ length (until_lines g) → marks ≡ marks_of g
