-- What the forms hold, entry by entry; and the forms of an accepted guard. Assumes nothing.
use mathlib.Core.Path.{◌≡◌, refl, ap, sym, ◌∙◌, subst}
use mathlib.Core.Bool.{true, false, false≢true}
use mathlib.Core.List.{List, map}
use mathlib.Core.Option.{none, some}
use Prim.Native.Nat.{ℕ, zero, suc, ◌+◌, ◌*◌, ◌≤◌, ◌<◌}
use native.Mathlib.Omega.{arith}
use lib.IntN.{pos}
use lib.ListN.{length, get_or, get_or-map}
use borrow.Author.Tests.{eqb-true}
use Rattle.guard.specs.Guard.{Guard}
use Rattle.guard.specs.Limits.{Limits, Supported, field_limit, total_variant_limit}
use Rattle.guard.specs.Meaning.{Belongs}
use Rattle.guard.specs.Message.{Message, Message.made, Message.number, to_parts}
use Rattle.guard.specs.Types.{Types, default_of, defaults, field_type, fields_of, is_number, variants_of}
use Rattle.guard.specs.WellFormed.{WellFormed}
use Rattle.guard.proofs.DefaultLaws.{DefaultForm, default-belongs, default_form, default-is}
use Rattle.tables.specs.Layout.{default_column, flat, type_table, variant_of}
use Rattle.tables.proofs.Columns.{pad_get}
use Rattle.tables.proofs.Held.{fields-few, fields-small, held-arity, held-many, held-sort, held-variants, place-small, place_of}
use Rattle.tables.proofs.Lookups.{flat-all}
use Rattle.tables.proofs.TypesBack.{types-back}
use Rattle.growth.proofs.Growth.{TypesAccepted, chosen_field, growing_variant, next-less, next_type, period_of, types-accepted}
use Rattle.growth.proofs.Orbit.{iterate}
use Rattle.orbits.specs.Orbits.{on_to}
use Rattle.growthtables.specs.Growth.{GrowthInRange, chosen_at, growth_by}
use Rattle.growthtables.specs.declared.Growth.{Growth}
use Rattle.growthtables.proofs.FitLaws.{accepted-range}
use Rattle.growthtables.proofs.RangeLaws.{growth_in_range}
use Rattle.growthtables.proofs.TableLaws.{chosen-held}
use Rattle.columns.proofs.Filled.{filled_at}
use Rattle.forms.specs.declared.Forms.{Forms}
use Rattle.forms.specs.Forms.{FormsFit, types_in}

module _ (forms : Forms) (fit : FormsFit forms) where
  abbrev ts : Types
  ts = types_in forms

  inside : (t : ℕ) → t < length ts → t < forms.table.many
  inside t h = omega (arith, held-many forms.table)

  pub type-small : (t : ℕ) → t < length ts → t < 6
  type-small t h = omega (arith, inside t h, fit.range.many)

  pub number_read : (t : ℕ) → t < length ts → get_or forms.table.variants t 0 ≡ length (variants_of ts t)
  number_read t h = sym (held-variants forms.table t (inside t h))

  pub fields-three : (t v : ℕ) → length (fields_of ts t v) ≤ 3
  fields-three = fields-few forms.table fit.range

  pub sort-inside : (t v p : ℕ) → p < length (fields_of ts t v) → field_type ts t v p < length ts
  sort-inside = fields-small forms.table fit.range

  module _ (t v : ℕ) (h : t < length ts) (l : v < length (variants_of ts t)) where
    has : v < get_or forms.table.variants t 0
    has = omega (arith, number_read t h)

    pub variant-small : v < 16
    variant-small = omega (arith, has, fit.range.variants t)

    pub place-below : get_or forms.table.first t 0 + v < 48
    place-below = place-small forms.table fit.range t v (inside t h) l

    pub arity-read : get_or forms.table.arities (get_or forms.table.first t 0 + v) 0 ≡ length (fields_of ts t v)
    arity-read = sym (held-arity forms.table t (inside t h) v has)

    pub sort-read : (p : ℕ) → p < length (fields_of ts t v) → get_or forms.table.sorts (3 * (get_or forms.table.first t 0 + v) + p) 0 ≡ field_type ts t v p
    sort-read p q = sym (held-sort forms.table t (inside t h) v has p (omega (arith, arity-read)))

    pub chosen-read : get_or forms.growth.chosen (get_or forms.table.first t 0 + v) 0 ≡ chosen_field ts t v
    unfolding growth_by
    chosen-read =
        ap (λ (g : Growth). get_or g.chosen (place_of forms.table t v) 0) fit.growth
        ∙ filled_at 48 (chosen_at forms.table) 48 (place_of forms.table t v) place-below ∙ chosen-held forms.table t (inside t h) v has

  pub growing-read : (t : ℕ) → t < length ts → get_or forms.growth.growing t 0 ≡ growing_variant ts t
  unfolding growth_by
  growing-read t h = ap (λ (g : Growth). get_or g.growing t 0) fit.growth ∙ filled_at 6 (growing_variant ts) (length ts) t h

  next-read : (t : ℕ) → t < length ts → get_or forms.growth.next t 0 ≡ next_type ts t
  unfolding growth_by
  next-read t h = ap (λ (g : Growth). get_or g.next t 0) fit.growth ∙ filled_at 6 (next_type ts) (length ts) t h

  pub period-read : (t : ℕ) → t < length ts → get_or forms.growth.period t 0 ≡ period_of ts t
  unfolding growth_by
  period-read t h = ap (λ (g : Growth). get_or g.period t 0) fit.growth ∙ filled_at 6 (period_of ts) (length ts) t h

  pub next_small : (t : ℕ) → get_or forms.growth.next t 0 < 6
  next_small = (subst GrowthInRange (sym fit.growth) (growth_in_range forms.table fit.range)).next

  -- steps by the column of next types are steps of growth
  pub after_read : (k t : ℕ) → t < length ts → iterate (on_to forms.growth.next) k t ≡ iterate (next_type ts) k t
  unfolding on_to
  after_read zero t h = refl
  after_read (suc k) t h = ap (iterate (on_to forms.growth.next) k) (next-read t h) ∙ after_read k (next_type ts t) (next-less ts fit.accepted t h)

  -- ---- defaults

  default-read : (t : ℕ) → get_or forms.defaults t 0 ≡ variant_of (get_or (defaults ts) t none)
  unfolding default_column
  default-read t = ap (λ (l : List ℕ). get_or l t 0) fit.defaults ∙ pad_get 0 6 t (map variant_of (defaults ts)) ∙ get_or-map variant_of (defaults ts) t none

  module _ (t : ℕ) (h : t < length ts) where
    -- the variant of the default
    abbrev pub by : ℕ
    by = get_or forms.defaults t 0

    abbrev MadeBy : Type 0
    MadeBy = (by < length (variants_of ts t)) × (default_of ts t ≡ made t by (to_parts (map (default_of ts) (fields_of ts t by))))

    pub default-number : is_number ts t ≡ true → default_of ts t ≡ number t (pos 0)
    default-number n = let (m, e) = fit.accepted.ready t h in go m e (default_form ts t m e) (default-belongs ts t m e)
      where
        go : (m : Message) → get_or (defaults ts) t none ≡ some m → DefaultForm ts t m → Belongs ts m t → default_of ts t ≡ number t (pos 0)
        go (number u z) e f b = default-is ts t (number u z) e ∙ f
        go (made u v ms) e f b = absurd (omega (arith, b.1, eqb-true (length (variants_of ts t)) 0 n))

    pub default-made : is_number ts t ≡ false → MadeBy
    default-made n = let (m, e) = fit.accepted.ready t h in go m e (default_form ts t m e) (default-belongs ts t m e)
      where
        go : (m : Message) → get_or (defaults ts) t none ≡ some m → DefaultForm ts t m → Belongs ts m t → MadeBy
        go (number u z) e f b = absurd (false≢true (sym n ∙ b.1))
        go (made u v ms) e f b =
            let q : by ≡ v = default-read t ∙ ap variant_of e in
            (subst (λ (w : ℕ). w < length (variants_of ts t)) (sym q) b.1, default-is ts t (made u v ms) e ∙ f ∙ ap (λ (w : ℕ). made t w (to_parts (map (default_of ts) (fields_of ts t w)))) (sym q))

-- ---- an accepted guard; its types have no more variants in all than question 4 allows

-- the forms of types
abbrev pub forms_of : Types → Forms
forms_of ts = record { table = type_table ts; defaults = default_column (defaults ts); growth = growth_by (type_table ts) }

module _ (limits : Limits) (supported : Supported limits) (g : Guard) (ok : WellFormed limits g) (total : length (flat g.types) ≤ total_variant_limit) where
  pub guard-types : types_in (forms_of g.types) ≡ g.types
  guard-types = types-back g.types (flat-all (λ fs. length fs ≤ field_limit) g.types ok.field_counts)

  pub guard_forms : FormsFit (forms_of g.types)
  guard_forms = record {
    range = accepted-range limits supported g ok total;
    accepted = subst TypesAccepted (sym guard-types) (types-accepted limits g ok);
    defaults = ap (λ (ts : Types). default_column (defaults ts)) (sym guard-types);
    growth = refl;
  }
