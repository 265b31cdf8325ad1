-- How many parts a message has: by its type, and from the table of types. Assumes nothing: definitions.
use Rattle.std.specs.Prelude.{◌≡◌, Bool, true, false, ℕ, ◌+◌, ◌<◌, ◌≤◌, ltb, length, get_or}
use Rattle.guard.specs.Types.{Types, fields_of}
use Rattle.tables.specs.declared.TypeTable.{TypeTable}

-- how many fields a variant has
abbrev pub field_count : Types → ℕ → ℕ → ℕ
field_count ts t v = length (fields_of ts t v)

-- none where there is no such type or variant
abbrev pub arity_by : Bool → TypeTable → ℕ → ℕ → ℕ
arity_by true types t v = get_or types.arities (get_or types.first t 0 + v) 0
arity_by false types t v = 0

unfoldable pub arity_in : TypeTable → ℕ → ℕ → ℕ
arity_in types t v = arity_by (ltb v (get_or types.variants t 0)) types t v

-- there are at most six types, all variants lie in the table, and no message has more than three parts
pub record AritiesFit (types : TypeTable) : Type 0 where
  pub six : (t : ℕ) → 6 ≤ t → get_or types.variants t 0 ≡ 0
  pub inside : (t v : ℕ) → v < get_or types.variants t 0 → get_or types.first t 0 + v < 48
  pub few : (t v : ℕ) → arity_in types t v ≤ 3
