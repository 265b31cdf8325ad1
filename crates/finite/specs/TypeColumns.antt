-- The table of types, column by column, and columns with a number for each type. Assumes nothing.
use Rattle.std.specs.Prelude.{List, map, ℕ, ◌+◌, ◌*◌, ◌≤◌, ◌<◌, get_or}
use Rattle.laws.specs.Lists.{from}
use Rattle.guard.specs.Limits.{field_limit}
use Rattle.guard.specs.Types.{Types, Variant}
use Rattle.tables.specs.Layout.{TypesInRange, pad, types_of}
use Rattle.tables.specs.declared.TypeTable.{TypeTable}

abbrev pub columns : ℕ → List ℕ → List ℕ → List ℕ → List ℕ → TypeTable
columns many variants first arities sorts = record { many = many; variants = variants; first = first; arities = arities; sorts = sorts }

abbrev pub InRange : ℕ → List ℕ → List ℕ → List ℕ → List ℕ → Type 0
InRange many variants first arities sorts = TypesInRange (columns many variants first arities sorts)

abbrev pub types_in : ℕ → List ℕ → List ℕ → List ℕ → List ℕ → Types
types_in many variants first arities sorts = types_of (columns many variants first arities sorts)

-- the field types of a variant, by its number among all variants
unfoldable pub fields_at : List ℕ → List ℕ → ℕ → Variant
fields_at arities sorts w = map (λ j. get_or sorts (3 * w + j) 0) (from (get_or arities w 0) 0)

-- what a look at a single variant needs of the columns of variants
pub record FieldsInRange (arities sorts : List ℕ) : Type 0 where
  pub few : (w : ℕ) → get_or arities w 0 ≤ field_limit
  pub typed : (w j : ℕ) → j < get_or arities w 0 → get_or sorts (3 * w + j) 0 < 6

-- a number for each type, filled up with zeros
unfoldable pub column : (ℕ → ℕ) → ℕ → List ℕ
column f n = pad 6 (map f (from n 0))
