-- A guard as the closure and the search need it: for each slot a few numbers side by side, so that a rule finds all that
-- it looks at in one array. Assumes nothing: definitions.
use Rattle.std.specs.Prelude.{List, [], ◌∷◌, ◌++◌, map, ℕ, suc, ◌-◌, ◌^◌, length, get_or}
use Rattle.std.proofs.Math.Option.{Option, none, some}
use Rattle.laws.specs.Lists.{concat_map, from, sum}
use Rattle.guard.specs.Closure.{every_variant}
use Rattle.guard.specs.Guard.{Guard, Row, Row.variable, Row.constant, Row.built, Row.field, type_of}
use Rattle.guard.specs.Message.{Message, Message.number, Message.made}
use Rattle.guard.specs.Terms.{absent_term, default_term, field_terms, fieldless, from_rows, sibling_term}
use Rattle.guard.specs.Types.{Types, Variant, defaults, fields_of, variants_of}
use Rattle.tables.specs.Layout.{pad}
use Rattle.siblings.specs.Siblings.{siblings_in}
pub use Rattle.rowshapes.specs.RowShapes.{kind_number}
pub use Rattle.readcolumn.specs.Reads.{field_key}

-- ---- shapes: terms built by a variant, or so built as soon as their label is that variant alone

-- eight places: the term, its kind, the variants that must have gone, how many parts, the parts
abbrev pub shape : ℕ → ℕ → ℕ → ℕ → List ℕ → List ℕ
shape owner t v others parts = owner ∷ kind_number t v ∷ others ∷ length parts ∷ pad 4 parts

abbrev pub no_shape : List ℕ
no_shape = pad 8 []

-- a built row is one at once; a read term when its label is the read variant alone, from the read and its siblings
abbrev pub row_shape : Types → ℕ → Row → List ℕ
row_shape ts i (variable t) = no_shape
row_shape ts i (constant t z) = no_shape
row_shape ts i (built t v ps) = shape i t v 0 ps
row_shape ts i (field t a v p) = shape a t v (every_variant - 2 ^ v) (field_terms i p 0 (sibling_term i) (fields_of ts t v))

abbrev pub default_shape : Types → ℕ → Option Message → List ℕ
default_shape ts t none = no_shape
default_shape ts t (some (number u z)) = no_shape
default_shape ts t (some (made u v ms)) = shape (default_term t) t v 0 (map default_term (fields_of ts t v))

-- slot i is row i's, slot 24 + t that of the default of type t
unfoldable pub shapes_of : Guard → List ℕ
shapes_of g =
    let ts = g.types in
    pad 256 (pad 192 (from_rows (row_shape ts) 0 g.rows) ++ concat_map (λ t. default_shape ts t (get_or (defaults ts) t none)) (from (length ts) 0))

-- ---- field reads

-- four places: the term read, the field, the variant's bit, and the term that the read equals without the variant
abbrev pub row_read : Types → ℕ → Row → List ℕ
row_read ts i (variable t) = pad 4 []
row_read ts i (constant t z) = pad 4 []
row_read ts i (built t v ps) = pad 4 []
row_read ts i (field t a v p) = a ∷ field_key t v p ∷ 2 ^ v ∷ absent_term ts t v p ∷ []

unfoldable pub reads_of : Guard → List ℕ
reads_of g = pad 96 (from_rows (row_read g.types) 0 g.rows)

-- ---- terms

-- the type of each term, plus one; 0 where there is no such term
unfoldable pub sorts_of : Guard → List ℕ
sorts_of g =
    pad 24 (map (λ r. suc (type_of g.types r)) g.rows) ++ (siblings_in g.types g.rows).sorts ++ pad 24 (map suc (from (length g.types) 0))

-- a set of variants as a mask
abbrev pub mask_of : List ℕ → ℕ
mask_of vs = sum (map (λ v. 2 ^ v) vs)

-- by type plus one: the mask of all variants, and of the fieldless ones
unfoldable pub full_of : Guard → List ℕ
full_of g = pad 8 (0 ∷ map (λ vs. 2 ^ length vs - 1) g.types)

unfoldable pub fieldless_of : Guard → List ℕ
fieldless_of g = pad 8 (0 ∷ map (λ vs. mask_of (fieldless 0 vs)) g.types)

-- ---- constants: slot i is row i's, slot 24 + t that of a number type's default

abbrev pub row_constant : ℕ → Row → List ℕ
row_constant i (variable t) = 0 ∷ []
row_constant i (constant t z) = suc t ∷ []
row_constant i (built t v ps) = 0 ∷ []
row_constant i (field t a v p) = 0 ∷ []

abbrev pub default_constant : ℕ → List Variant → ℕ
default_constant t [] = suc t
default_constant t (v ∷ vs) = 0

-- the type of each constant, plus one; 0 where there is none
unfoldable pub constants_of : Guard → List ℕ
constants_of g = pad 32 (pad 24 (from_rows row_constant 0 g.rows) ++ map (λ t. default_constant t (variants_of g.types t)) (from (length g.types) 0))
