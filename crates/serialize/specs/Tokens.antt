-- The numbers of a guard file, in file order. Assumes nothing.
use Rattle.std.specs.Prelude.{List, [], ◌∷◌, ◌++◌, map, ℕ, ◌≤◌, ℤ, pos, length}
use Rattle.laws.specs.Lists.{concat_map}
use Rattle.guard.specs.Types.{Variant}
use Rattle.guard.specs.Guard.{Guard, Literal, Literal.equal, Literal.is, Literal.isnt, Literal.unequal, Row, Row.built, Row.constant, Row.field, Row.variable}
use Rattle.guard.specs.Number.{fold_signed, value_width, width32}
use Rattle.encoding.specs.Encoding.{encoded, encoded_value}

-- a number of the file: a count, a name or a kind; or a constant's value
pub data Token : Type 0 where
  plain : ℕ → Token
  value : ℤ → Token

-- "each as F (0 to 3) and F type numbers"
abbrev pub variant_tokens : Variant → List Token
variant_tokens fs = plain (length fs) ∷ map plain fs

-- "V variants follow"
abbrev pub type_tokens : List Variant → List Token
type_tokens vs = plain (length vs) ∷ concat_map variant_tokens vs

-- "Kind 0: variable, type. Kind 1: constant, a number type, a signed value. Kind 2: built, a variant type, a variant,
-- then one term for each field. Kind 3: field read, a term a of variant type, a variant of a's type, a position in that variant."
abbrev pub row_tokens : Row → List Token
row_tokens (variable t) = plain 0 ∷ plain t ∷ []
row_tokens (constant t z) = plain 1 ∷ plain t ∷ value z ∷ []
row_tokens (built t v ps) = plain 2 ∷ plain t ∷ plain v ∷ map plain ps
row_tokens (field t a v p) = plain 3 ∷ plain a ∷ plain v ∷ plain p ∷ []

-- "Kind 0: equal, two terms. Kind 1: unequal, two terms. Kind 2: is, a term, a variant. Kind 3: isn't, a term, a variant."
abbrev pub literal_tokens : Literal → List Token
literal_tokens (equal i j) = plain 0 ∷ plain i ∷ plain j ∷ []
literal_tokens (unequal i j) = plain 1 ∷ plain i ∷ plain j ∷ []
literal_tokens (is i v) = plain 2 ∷ plain i ∷ plain v ∷ []
literal_tokens (isnt i v) = plain 3 ∷ plain i ∷ plain v ∷ []

-- "The file holds, in order: T .., then for each type V ..; N .., then N term rows; L .., then L lines."
unfoldable pub guard_tokens : Guard → List Token
guard_tokens g =
    plain (length g.types) ∷ concat_map type_tokens g.types
    ++ (plain (length g.rows) ∷ concat_map row_tokens g.rows
    ++ (plain (length g.literals) ∷ concat_map literal_tokens g.literals))

-- ---- as signed numbers: "the file's in file order and constants as their values"

abbrev pub listed : Token → ℤ
listed (plain n) = pos n
listed (value z) = z

unfoldable pub numbers_of : Guard → List ℤ
numbers_of g = map listed (guard_tokens g)

-- ---- as bytes

-- the number that is written
abbrev pub unsigned_of : Token → ℕ
unsigned_of (plain n) = n
unsigned_of (value z) = fold_signed z

abbrev pub token_bytes : Token → List ℕ
token_bytes (plain n) = encoded n
token_bytes (value z) = encoded_value (fold_signed z)

-- a number that a file can hold
abbrev pub Fits : Token → Type 0
Fits (plain n) = n ≤ width32.most
Fits (value z) = fold_signed z ≤ value_width.most

unfoldable pub bytes_of : Guard → List ℕ
bytes_of g = concat_map token_bytes (guard_tokens g)
