-- Guards: types, term rows and literals. Assumes nothing.
use Rattle.std.specs.Prelude.{List, ℕ, ℤ, pos, get_or}
use Rattle.guard.specs.Types.{Types, field_type}

-- "Kind 0: variable, type. Kind 1: constant, a number type, a signed value. Kind 2: built, a variant type, a variant,
-- then one term for each field. Kind 3: field read, a term a of variant type, a variant of a's type, a position in that variant."
pub data Row : Type 0 where
  variable : ℕ → Row
  constant : ℕ → ℤ → Row
  -- a constructor applied: type, variant, parts
  built : ℕ → ℕ → List ℕ → Row
  -- a selector applied: the type of the term read, the term, the variant, the position
  field : ℕ → ℕ → ℕ → ℕ → Row

-- What document 01 calls a line. "Kind 0: equal, two terms. Kind 1: unequal, two terms. Kind 2: is, a term, a variant.
-- Kind 3: isn't, a term, a variant."
pub data Literal : Type 0 where
  equal : ℕ → ℕ → Literal
  unequal : ℕ → ℕ → Literal
  is : ℕ → ℕ → Literal
  isnt : ℕ → ℕ → Literal

pub record Guard : Type 0 where
  pub types : Types
  pub rows : List Row
  pub literals : List Literal

-- what a list of rows gives past its end
abbrev pub no_row : Row
no_row = constant 0 (pos 0)

abbrev pub row_at : List Row → ℕ → Row
row_at rs i = get_or rs i no_row

abbrev pub type_of : Types → Row → ℕ
type_of ts (variable t) = t
type_of ts (constant t z) = t
type_of ts (built t v ps) = t
type_of ts (field t a v p) = field_type ts t v p

abbrev pub type_at : Types → List Row → ℕ → ℕ
type_at ts rs i = type_of ts (row_at rs i)
