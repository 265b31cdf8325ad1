-- The terms that the closure is about: rows, sibling fields and defaults. Assumes nothing.
use Rattle.std.specs.Prelude.{Bool, true, false, not, List, [], ◌∷◌, ◌++◌, map, ℕ, suc, ◌+◌, ◌*◌, eqb, ℤ, pos, length, get_or}
use Rattle.std.proofs.Math.Option.{Option, none, some}
use Rattle.laws.specs.Lists.{filter, concat_map, from}
use Rattle.guard.specs.Message.{Message, Message.number, Message.made}
use Rattle.guard.specs.Types.{Types, Variant, fields_of, field_type, defaults}
use Rattle.guard.specs.Guard.{Row, Row.variable, Row.constant, Row.built, Row.field, Guard, type_of}

-- ---- term numbers

-- A sibling field is what document 01 calls a sister field: "for field row r, the other fields of its variant, in order
-- of position, are terms 24 + 2 × r and 25 + 2 × r."
abbrev pub sibling_term : ℕ → ℕ
sibling_term r = 24 + 2 * r

-- "The default of type t is term 72 + t."
abbrev pub default_term : ℕ → ℕ
default_term t = 72 + t

-- every term's number is below this one
abbrev pub term_count : ℕ
term_count = 78

-- the term that a field read equals where the variant is absent: "the read equals the default"
abbrev pub absent_term : Types → ℕ → ℕ → ℕ → ℕ
absent_term ts t v p = default_term (field_type ts t v p)

-- ---- what the closure needs to know of a guard

pub record Term : Type 0 where
  pub term : ℕ
  pub type : ℕ

-- a term built by a variant of a type over parts
pub record Build : Type 0 where
  pub term : ℕ
  pub type : ℕ
  pub variant : ℕ
  pub parts : List ℕ

-- a field read
pub record Read : Type 0 where
  pub row : ℕ
  -- the term read, its type, the variant and the position
  pub term : ℕ
  pub type : ℕ
  pub variant : ℕ
  pub position : ℕ
  pub absent : ℕ
  -- the terms of the variant's fields in order of position: the row itself and its siblings
  pub fields : List ℕ

pub record Const : Type 0 where
  pub term : ℕ
  pub type : ℕ
  pub value : ℤ

pub record Table : Type 0 where
  pub types : Types
  -- in order of term number
  pub terms : List Term
  pub builds : List Build
  pub reads : List Read
  pub consts : List Const

-- ---- the table of a guard

-- the terms of a read's fields, from position q on; the next sibling is s
abbrev pub field_terms : ℕ → ℕ → ℕ → ℕ → Variant → List ℕ
field_terms r p q s [] = []
field_terms r p q s (f ∷ fs) = elim (eqb p q) [ true ↦ r ∷ field_terms r p (suc q) s fs | false ↦ s ∷ field_terms r p (suc q) (suc s) fs ]

-- the read of field row i
abbrev pub read_at : Types → ℕ → ℕ → ℕ → ℕ → ℕ → Read
read_at ts i t a v p =
    record {
      row = i;
      term = a;
      type = t;
      variant = v;
      position = p;
      absent = absent_term ts t v p;
      fields = field_terms i p 0 (sibling_term i) (fields_of ts t v);
    }

abbrev pub read_of : Types → ℕ → Row → List Read
read_of ts i (variable t) = []
read_of ts i (constant t z) = []
read_of ts i (built t v ps) = []
read_of ts i (field t a v p) = read_at ts i t a v p ∷ []

abbrev pub build_of : ℕ → Row → List Build
build_of i (variable t) = []
build_of i (constant t z) = []
build_of i (built t v ps) = record { term = i; type = t; variant = v; parts = ps } ∷ []
build_of i (field t a v p) = []

abbrev pub const_of : ℕ → Row → List Const
const_of i (variable t) = []
const_of i (constant t z) = record { term = i; type = t; value = z } ∷ []
const_of i (built t v ps) = []
const_of i (field t a v p) = []

module _ {A : Type 0} where
  -- what each row gives, the rows being counted from i
  abbrev pub from_rows : (ℕ → Row → List A) → ℕ → List Row → List A
  from_rows f i [] = []
  from_rows f i (r ∷ rs) = f i r ++ from_rows f (suc i) rs

abbrev pub row_term : Types → ℕ → Row → List Term
row_term ts i r = record { term = i; type = type_of ts r } ∷ []

abbrev pub pair_terms : List ℕ → List ℕ → List Term
pair_terms [] ts = []
pair_terms (i ∷ is) [] = []
pair_terms (i ∷ is) (t ∷ ts) = record { term = i; type = t } ∷ pair_terms is ts

abbrev pub siblings_of : Types → Read → List Term
siblings_of ts r = filter (λ x. not (eqb x.term r.row)) (pair_terms r.fields (fields_of ts r.type r.variant))

-- "a number type's default is a constant 0, any other default a row built from its fields' defaults"
abbrev pub default_build : Types → ℕ → Option Message → List Build
default_build ts t none = []
default_build ts t (some (number u z)) = []
default_build ts t (some (made u v ms)) = record { term = default_term t; type = t; variant = v; parts = map default_term (fields_of ts t v) } ∷ []

abbrev pub default_const : Types → ℕ → Option Message → List Const
default_const ts t none = []
default_const ts t (some (number u z)) = record { term = default_term t; type = t; value = pos 0 } ∷ []
default_const ts t (some (made u v ms)) = []

unfoldable pub table_of : Guard → Table
table_of g =
    let ts = g.types in
    let ds = defaults ts in
    let type_numbers = from (length ts) 0 in
    let reads = from_rows (read_of ts) 0 g.rows in
    record {
      types = ts;
      terms = from_rows (row_term ts) 0 g.rows ++ concat_map (siblings_of ts) reads ++ map (λ t. record { term = default_term t; type = t }) type_numbers;
      builds = from_rows build_of 0 g.rows ++ concat_map (λ t. default_build ts t (get_or ds t none)) type_numbers;
      reads = reads;
      consts = from_rows const_of 0 g.rows ++ concat_map (λ t. default_const ts t (get_or ds t none)) type_numbers;
    }

-- "a read .. counts as a built row without a number": the term read, built from the read and its siblings
abbrev pub as_build : Read → Build
as_build r = record { term = r.term; type = r.type; variant = r.variant; parts = r.fields }

-- the fieldless variants of a type, counted from v
abbrev pub fieldless : ℕ → List Variant → List ℕ
fieldless v [] = []
fieldless v ([] ∷ vs) = v ∷ fieldless (suc v) vs
fieldless v ((f ∷ fs) ∷ vs) = fieldless (suc v) vs
