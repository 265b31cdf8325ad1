-- What reading the types part gives, in terms of the parsers of the guard file. Assumes nothing: definitions.
use Rattle.std.specs.Prelude.{List, ℕ, suc, ◌-◌, min, length}
use Rattle.guard.specs.Limits.{variant_limit, total_variant_limit}
use Rattle.guard.specs.Types.{Types, Variant}
use Rattle.guard.specs.Number.{Parser, ◌>>=◌, return, times}
use Rattle.guard.specs.File.{count, variant, types}
use Rattle.numbers.specs.Reader.{below}
use Rattle.tables.specs.Layout.{type_table}
use Rattle.tables.specs.declared.TypeTable.{TypeTable}

-- ---- a type

-- "V (0 to 16)"; "All types together have at most 48 variants": one limit, after so many variants
abbrev pub one_type : ℕ → ℕ → Parser (List Variant)
one_type many total = below (suc (min variant_limit (total_variant_limit - total))) 4 >>= λ v. times v (variant many)

-- how many variants it has
abbrev pub type_by : ℕ → ℕ → Parser ℕ
type_by many total = one_type many total >>= λ vs. return (length vs)

-- ---- the types part

-- T, then the types
abbrev pub types_part : ℕ → Parser Types
types_part limit = count limit >>= λ many. types many many 0

-- as a table
abbrev pub table_by : ℕ → Parser TypeTable
table_by limit = types_part limit >>= λ ts. return (type_table ts)
