-- The bytes of a variable, a constant and a field read, by what the tables say of them. Assumes nothing.
use mathlib.Core.Path.{◌≡◌, refl, ap, ap₂, sym, subst, ◌∙◌}
use mathlib.Core.List.{List, [], ◌∷◌, ◌++◌, append-nil}
use Prim.Native.Nat.{ℕ, ◌+◌, ◌*◌, ◌<◌}
use native.Mathlib.Omega.{arith}
use lib.IntN.{ℤ, pos}
use lib.ListN.{length, get_or}
use Rattle.guard.specs.Guard.{Row, Row.built, Row.constant, Row.field, Row.variable, row_at, type_of}
use Rattle.guard.specs.Number.{fold_signed, width64}
use Rattle.guard.specs.Types.{Types}
use Rattle.guard.specs.WellFormed.{RowFits}
use Rattle.tables.specs.declared.RowTable.{RowTable}
use Rattle.tables.specs.declared.TypeTable.{TypeTable}
use Rattle.tables.specs.Layout.{row_kind, row_parts, row_value, row_variant}
use Rattle.encoding.specs.Encoding.{encoded, encoded_of, encoded_value}
use Rattle.heldparts.specs.Held.{HoldsTypes}
use Rattle.std.specs.Prelude.{Option, Some, None}
use Rattle.bytebuffer.specs.declared.Writer.{Writer}
use Rattle.bytebuffer.specs.Appends.{Appends}
use Rattle.bytebuffer.proofs.PutLaws.{and_then, same-bytes, still_full}
use Rattle.rowterms.specs.Rows.{row_bytes}
use Rattle.rowterms.proofs.ByteLaws.{two_bytes}
use Rattle.rowterms.proofs.RowLaws.{Entry, few-fields}

-- ---- a constant, part by part

module _ (t : ℕ) (x : ℤ) (small : t < 128) where
  value-last : (1 ∷ t ∷ []) ++ encoded_of width64 (fold_signed x) ≡ row_bytes [] (constant t x)
  unfolding encoded_value
  value-last = two_bytes 1 t (omega arith) small (encoded_of width64 (fold_signed x)) ∙ ap (λ (l : List ℕ). encoded 1 ++ (encoded t ++ l)) (sym (append-nil (encoded_of width64 (fold_signed x))))

  module _ {w w' : Writer} where
    pub constant_full : Appends (1 ∷ t ∷ []) w None w' → Appends (row_bytes [] (constant t x)) w None w'
    constant_full p = same-bytes value-last (still_full (encoded_of width64 (fold_signed x)) p)

    pub constant_put : Appends (1 ∷ t ∷ []) w (Some tt) w' → (n : ℕ) → n ≡ fold_signed x → {r : Option (Unit {0})} {w'' : Writer} → Appends (encoded_of width64 n) w' r w'' → Appends (row_bytes [] (constant t x)) w r w''
    constant_put p n e q = same-bytes (ap (λ (k : ℕ). (1 ∷ t ∷ []) ++ encoded_of width64 k) e ∙ value-last) (and_then p q)

-- ---- by kind

as_variable : (ts : Types) (r : Row) → row_kind r ≡ 0 → r ≡ variable (type_of ts r)
as_variable ts (variable t) e = refl
as_variable ts (constant t z) e = absurd (omega (arith, e))
as_variable ts (built t v ps) e = absurd (omega (arith, e))
as_variable ts (field t a v p) e = absurd (omega (arith, e))

as_constant : (ts : Types) (r : Row) → row_kind r ≡ 1 → r ≡ constant (type_of ts r) (row_value r)
as_constant ts (constant t z) e = refl
as_constant ts (variable t) e = absurd (omega (arith, e))
as_constant ts (built t v ps) e = absurd (omega (arith, e))
as_constant ts (field t a v p) e = absurd (omega (arith, e))

as_field : (r : Row) → ¬ (row_kind r ≡ 0) → ¬ (row_kind r ≡ 1) → ¬ (row_kind r ≡ 2) → (t : ℕ) × (r ≡ field t (get_or (row_parts r) 0 0) (row_variant r) (get_or (row_parts r) 1 0))
as_field (field t a v p) h i j = (t, refl)
as_field (variable t) h i j = absurd (h refl)
as_field (constant t z) h i j = absurd (i refl)
as_field (built t v ps) h i j = absurd (j refl)

-- ---- as the tables have it

module _ {types : TypeTable} {rows : RowTable} {ts : Types} {rs : List Row} (t : HoldsTypes types ts) {r : ℕ} (x : Entry rows ts rs r) where
  abbrev row : Row
  row = row_at rs r

  module _ (e : get_or rows.kinds r 0 ≡ 0) where
    variable-fits : type_of ts (row_at rs r) < length ts
    variable-fits = subst (RowFits ts rs r) (as_variable ts row (sym x.kind ∙ e)) x.fits

    pub variable-bytes : (names : List ℕ) → 0 ∷ get_or rows.types r 0 ∷ [] ≡ row_bytes names (row_at rs r)
    variable-bytes names =
        two_bytes 0 (get_or rows.types r 0) (omega arith) (omega (arith, x.type, variable-fits, t.many)) []
        ∙ ap (λ (s : ℕ). row_bytes names (variable s)) x.type ∙ ap (row_bytes names) (sym (as_variable ts row (sym x.kind ∙ e)))

  module _ (e : get_or rows.kinds r 0 ≡ 1) where
    constant-is : row_at rs r ≡ constant (type_of ts (row_at rs r)) (row_value (row_at rs r))
    constant-is = as_constant ts row (sym x.kind ∙ e)

    constant-fits : RowFits ts rs r (constant (type_of ts (row_at rs r)) (row_value (row_at rs r)))
    constant-fits = subst (RowFits ts rs r) constant-is x.fits

    pub type-small : get_or rows.types r 0 < 128
    type-small = omega (arith, x.type, constant-fits.0, t.many)

    pub constant-bytes : (names : List ℕ) → row_bytes [] (constant (get_or rows.types r 0) (get_or rows.values r (pos 0))) ≡ row_bytes names (row_at rs r)
    constant-bytes names = ap₂ (λ (s : ℕ) (z : ℤ). row_bytes names (constant s z)) x.type x.value ∙ ap (row_bytes names) (sym constant-is)

  module _ (a : ¬ (get_or rows.kinds r 0 ≡ 0)) (b : ¬ (get_or rows.kinds r 0 ≡ 1)) (c : ¬ (get_or rows.kinds r 0 ≡ 2)) where
    field_is : (s : ℕ) × (row_at rs r ≡ field s (get_or (row_parts (row_at rs r)) 0 0) (row_variant (row_at rs r)) (get_or (row_parts (row_at rs r)) 1 0))
    field_is = as_field row (λ e. a (x.kind ∙ e)) (λ e. b (x.kind ∙ e)) (λ e. c (x.kind ∙ e))

    field_fits : RowFits ts rs r (field field_is.0 (get_or (row_parts (row_at rs r)) 0 0) (row_variant (row_at rs r)) (get_or (row_parts (row_at rs r)) 1 0))
    field_fits = subst (RowFits ts rs r) field_is.1 x.fits

    term_is : get_or rows.parts (3 * r) 0 ≡ get_or (row_parts (row_at rs r)) 0 0
    term_is = let e : 3 * r ≡ 3 * r + 0 = omega arith in ap (λ (k : ℕ). get_or rows.parts k 0) e ∙ x.part 0 (omega arith)

    pub field-small : (get_or rows.parts (3 * r) 0 < 24) × (get_or rows.variants r 0 < 128) × (get_or rows.parts (3 * r + 1) 0 < 128)
    field-small =
        let (term, same, variant, position) = field_fits in (
          omega (arith, term_is, term, x.small),
          omega (arith, x.variant, variant, t.variants field_is.0),
          omega (arith, x.part 1 (omega arith), position, few-fields t field_is.0 (row_variant row) variant),
        )

    field-bytes : (names : List ℕ) → row_bytes names (field 0 (get_or rows.parts (3 * r) 0) (get_or rows.variants r 0) (get_or rows.parts (3 * r + 1) 0)) ≡ row_bytes names (row_at rs r)
    field-bytes names =
        ap₂ (λ (a v : ℕ). row_bytes names (field 0 a v (get_or rows.parts (3 * r + 1) 0))) term_is x.variant
        ∙ ap (λ (p : ℕ). row_bytes names (field 0 (get_or (row_parts row) 0 0) (row_variant row) p)) (x.part 1 (omega arith)) ∙ ap (row_bytes names) (sym field_is.1)

    pub field_puts : (names : List ℕ) {w w' : Writer} {result : Option (Unit {0})}
        → Appends (row_bytes names (field 0 (get_or rows.parts (3 * r) 0) (get_or rows.variants r 0) (get_or rows.parts (3 * r + 1) 0))) w result w' → Appends (row_bytes names (row_at rs r)) w result w'
    field_puts names p = same-bytes (field-bytes names) p
