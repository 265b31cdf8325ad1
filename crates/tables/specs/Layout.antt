-- The tables of a guard: what each entry is. Assumes nothing.
use Rattle.std.specs.Prelude.{List, [], ◌∷◌, ◌++◌, map, ℕ, ◌+◌, ◌*◌, ◌-◌, ◌≤◌, ◌<◌, ℤ, pos, length, get_or, replicate}
use Rattle.std.proofs.Math.Option.{Option, none, some}
use Rattle.laws.specs.Lists.{concat_map, from}
use Rattle.guard.specs.Limits.{variant_limit, field_limit, total_variant_limit}
use Rattle.guard.specs.Message.{Message, Message.number, Message.made}
use Rattle.guard.specs.Types.{Types, Variant, Defaults}
use Rattle.guard.specs.Guard.{Row, Row.variable, Row.constant, Row.built, Row.field, Literal, Literal.equal, Literal.unequal, Literal.is, Literal.isnt, type_of}
use Rattle.tables.specs.declared.TypeTable.{TypeTable}
use Rattle.tables.specs.declared.RowTable.{RowTable}
use Rattle.tables.specs.declared.LiteralTable.{LiteralTable}

-- ---- columns

module _ {A : Type 0} where
  -- a list filled up to so many elements
  abbrev pub pad_to : A → ℕ → List A → List A
  pad_to z n xs = xs ++ replicate (n - length xs) z

abbrev pub pad : ℕ → List ℕ → List ℕ
pad n xs = pad_to 0 n xs

-- ---- types

-- all variants, type by type
abbrev pub flat : Types → List Variant
flat ts = concat_map (λ vs. vs) ts

-- for each type, the variants before it, counted from k
abbrev pub offsets : ℕ → Types → List ℕ
offsets k [] = []
offsets k (vs ∷ ts) = k ∷ offsets (k + length vs) ts

unfoldable pub type_table : Types → TypeTable
type_table ts =
    record {
      many = length ts;
      variants = pad 6 (map length ts);
      first = pad 6 (offsets 0 ts);
      arities = pad 48 (map length (flat ts));
      sorts = pad 144 (concat_map (pad 3) (flat ts));
    }

-- the variant of each type's default; 0 for a number type
abbrev pub variant_of : Option Message → ℕ
variant_of none = 0
variant_of (some (number t z)) = 0
variant_of (some (made t v ms)) = v

unfoldable pub default_column : Defaults → List ℕ
default_column ds = pad 6 (map variant_of ds)

-- ---- rows

abbrev pub row_kind : Row → ℕ
row_kind (variable t) = 0
row_kind (constant t z) = 1
row_kind (built t v ps) = 2
row_kind (field t a v p) = 3

abbrev pub row_variant : Row → ℕ
row_variant (variable t) = 0
row_variant (constant t z) = 0
row_variant (built t v ps) = v
row_variant (field t a v p) = v

abbrev pub row_parts : Row → List ℕ
row_parts (variable t) = []
row_parts (constant t z) = []
row_parts (built t v ps) = ps
row_parts (field t a v p) = a ∷ p ∷ []

abbrev pub row_value : Row → ℤ
row_value (variable t) = pos 0
row_value (constant t z) = z
row_value (built t v ps) = pos 0
row_value (field t a v p) = pos 0

unfoldable pub row_table : Types → List Row → RowTable
row_table ts rs =
    record {
      many = length rs;
      kinds = pad 24 (map row_kind rs);
      types = pad 24 (map (type_of ts) rs);
      variants = pad 24 (map row_variant rs);
      parts = pad 72 (concat_map (λ r. pad 3 (row_parts r)) rs);
      values = pad_to (pos 0) 24 (map row_value rs);
    }

-- ---- literals

abbrev pub literal_kind : Literal → ℕ
literal_kind (equal i j) = 0
literal_kind (unequal i j) = 1
literal_kind (is i v) = 2
literal_kind (isnt i v) = 3

abbrev pub literal_term : Literal → ℕ
literal_term (equal i j) = i
literal_term (unequal i j) = i
literal_term (is i v) = i
literal_term (isnt i v) = i

abbrev pub literal_other : Literal → ℕ
literal_other (equal i j) = j
literal_other (unequal i j) = j
literal_other (is i v) = v
literal_other (isnt i v) = v

unfoldable pub literal_table : List Literal → LiteralTable
literal_table ls =
    record { many = length ls; kinds = pad 64 (map literal_kind ls); terms = pad 64 (map literal_term ls); others = pad 64 (map literal_other ls) }

-- ---- the way back

-- the types that a table holds
unfoldable pub types_of : TypeTable → Types
types_of table =
    map (λ t. map (λ v. map (λ j. get_or table.sorts (3 * (get_or table.first t 0 + v) + j) 0)
    (from (get_or table.arities (get_or table.first t 0 + v) 0) 0)) (from (get_or table.variants t 0) 0)) (from table.many 0)

-- the numbers of a table of types are in range
pub record TypesInRange (table : TypeTable) : Type 0 where
  pub many : table.many ≤ 6
  pub variants : (t : ℕ) → get_or table.variants t 0 ≤ variant_limit
  pub first : (t : ℕ) → get_or table.first t 0 + get_or table.variants t 0 ≤ total_variant_limit
  pub arities : (w : ℕ) → get_or table.arities w 0 ≤ field_limit
  -- a type number where there is a field
  pub sorts : (w j : ℕ) → j < get_or table.arities w 0 → get_or table.sorts (3 * w + j) 0 < table.many
