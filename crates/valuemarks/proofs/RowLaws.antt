-- The numbers of a row, by what the tables say of it. Assumes nothing.
use mathlib.Core.Path.{◌≡◌, refl, ap, ◌∙◌}
use mathlib.Core.List.{List}
use Prim.Native.Nat.{ℕ, ◌+◌, ◌≤◌, ◌<◌}
use native.Mathlib.Omega.{arith}
use lib.ListN.{length, get_or, length-map}
use Rattle.guard.specs.Guard.{Guard, Row, Row.built, Row.constant, Row.field, Row.variable, row_at, type_at, type_of}
use Rattle.guard.specs.Types.{Types, fields_of, variants_of}
use Rattle.guard.specs.WellFormed.{RowFits}
use Rattle.tables.specs.declared.RowTable.{RowTable}
use Rattle.tables.specs.declared.TypeTable.{TypeTable}
use Rattle.tables.specs.Layout.{row_kind, row_variant, type_table}
use Rattle.tables.proofs.Lookups.{arity-at, first-at, offset_inside, offset_of, row-kind-at, row-type-at, row-variant-at}
use Rattle.serialize.specs.Tokens.{Token.plain, row_tokens}
use Rattle.valuemarks.specs.Marks.{Listed}

-- ---- by kind

pub variable-numbers : (r : Row) → row_kind r ≡ 0 → length (row_tokens r) ≡ 2
variable-numbers (variable t) e = refl
variable-numbers (constant t z) e = absurd (omega (arith, e))
variable-numbers (built t v ps) e = absurd (omega (arith, e))
variable-numbers (field t a v p) e = absurd (omega (arith, e))

pub constant-numbers : (r : Row) → row_kind r ≡ 1 → length (row_tokens r) ≡ 3
constant-numbers (constant t z) e = refl
constant-numbers (variable t) e = absurd (omega (arith, e))
constant-numbers (built t v ps) e = absurd (omega (arith, e))
constant-numbers (field t a v p) e = absurd (omega (arith, e))

pub field-numbers : (r : Row) → row_kind r ≡ 3 → length (row_tokens r) ≡ 4
field-numbers (field t a v p) e = refl
field-numbers (variable t) e = absurd (omega (arith, e))
field-numbers (constant t z) e = absurd (omega (arith, e))
field-numbers (built t v ps) e = absurd (omega (arith, e))

-- any other row is built: by a variant of a type, from a part for each of its fields
pub record IsBuilt (ts : Types) (r : Row) : Type 0 where
  pub type : type_of ts r < length ts
  pub variant : row_variant r < length (variants_of ts (type_of ts r))
  pub numbers : length (row_tokens r) ≡ 3 + length (fields_of ts (type_of ts r) (row_variant r))

pub built_otherwise : (ts : Types) (rs : List Row) (i : ℕ) (r : Row) → RowFits ts rs i r → ¬ (row_kind r ≡ 0) → ¬ (row_kind r ≡ 1) → ¬ (row_kind r ≡ 3) → IsBuilt ts r
built_otherwise ts rs i (variable t) fit a b c = absurd (a refl)
built_otherwise ts rs i (constant t z) fit a b c = absurd (b refl)
built_otherwise ts rs i (field t x v p) fit a b c = absurd (c refl)
built_otherwise ts rs i (built t v ps) fit a b c =
    record {
      type = fit.0;
      variant = fit.1;
      numbers = omega (arith, length-map ps plain, length-map ps (type_at ts rs), ap length fit.3);
    }

-- ---- as the tables have it

module _ {types : TypeTable} {rows : RowTable} {g : Guard} (l : Listed types rows g) (r : ℕ) (inside : r < rows.many) where
  abbrev row : Row
  row = row_at g.rows r

  in_rows : r < length g.rows
  in_rows = omega (arith, inside, l.many)

  pub kind-is : get_or rows.kinds r 0 ≡ row_kind (row_at g.rows r)
  kind-is = ap (λ (c : List ℕ). get_or c r 0) l.kinds ∙ row-kind-at g.types g.rows r in_rows

  pub sort-is : get_or rows.types r 0 ≡ type_at g.types g.rows r
  sort-is = ap (λ (c : List ℕ). get_or c r 0) l.sorts ∙ row-type-at g.types g.rows r in_rows

  pub variant_is : get_or rows.variants r 0 ≡ row_variant (row_at g.rows r)
  variant_is = ap (λ (c : List ℕ). get_or c r 0) l.variants ∙ row-variant-at g.types g.rows r in_rows

  module _ (a : ¬ (get_or rows.kinds r 0 ≡ 0)) (b : ¬ (get_or rows.kinds r 0 ≡ 1)) (c : ¬ (get_or rows.kinds r 0 ≡ 3)) where
    is-built : IsBuilt g.types (row_at g.rows r)
    is-built = built_otherwise g.types g.rows r row (l.well_formed.rows r in_rows) (λ e. a (kind-is ∙ e)) (λ e. b (kind-is ∙ e)) (λ e. c (kind-is ∙ e))

    pub sort-small : get_or rows.types r 0 < 6
    sort-small = omega (arith, sort-is, is-built.type, l.well_formed.type_count)

    abbrev place : ℕ
    place = get_or types.first (get_or rows.types r 0) 0 + get_or rows.variants r 0

    place_is : place ≡ offset_of g.types (type_at g.types g.rows r) + row_variant (row_at g.rows r)
    place_is =
        let first : get_or types.first (get_or rows.types r 0) 0 ≡ offset_of g.types (type_at g.types g.rows r) =
        ap (λ (t : TypeTable). get_or t.first (get_or rows.types r 0) 0) l.types_are ∙ ap (λ (t : ℕ). get_or (type_table g.types).first t 0) sort-is
        ∙ first-at g.types (type_at g.types g.rows r) is-built.type in
        omega (arith, first, variant_is)

    pub place-small : place < 48
    place-small = omega (arith, place_is, is-built.variant, offset_inside g.types (type_at g.types g.rows r), l.total)

    arity-is : get_or types.arities place 0 ≡ length (fields_of g.types (type_at g.types g.rows r) (row_variant (row_at g.rows r)))
    arity-is =
        ap (λ (t : TypeTable). get_or t.arities place 0) l.types_are ∙ ap (λ (k : ℕ). get_or (type_table g.types).arities k 0) place_is
        ∙ arity-at g.types (type_at g.types g.rows r) (row_variant (row_at g.rows r)) is-built.variant

    pub arity-small : get_or types.arities place 0 ≤ 3
    arity-small = omega (arith, arity-is, l.well_formed.field_counts (type_at g.types g.rows r) (row_variant (row_at g.rows r)))

    pub built-numbers : 3 + get_or types.arities place 0 ≡ length (row_tokens (row_at g.rows r))
    built-numbers = omega (arith, arity-is, is-built.numbers)
