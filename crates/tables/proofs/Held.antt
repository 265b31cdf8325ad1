-- The types that a table holds, entry by entry, and what of them is in range if the table is. Assumes nothing.
use mathlib.Core.Path.{◌≡◌, ap, sym, ◌∙◌, subst}
use mathlib.Core.List.{List, [], map}
use Prim.Native.Nat.{ℕ, ◌+◌, ◌*◌, ◌≤◌, ◌<◌}
use native.Mathlib.Nat.{zero-add}
use native.Mathlib.Omega.{arith}
use lib.Dec.{ltb}
use lib.ListN.{length, get_or, get_or-eq_default}
use borrow.Author.Tests.{ltb-true, ltb-false}
use Rattle.laws.specs.Lists.{from}
use Rattle.laws.proofs.Bools.{by_test}
use Rattle.laws.proofs.Lists.{map-from-at, map-from-length}
use Rattle.guard.specs.Types.{Variant, field_type, fields_of, variants_of}
use Rattle.tables.specs.declared.TypeTable.{TypeTable}
use Rattle.tables.specs.Layout.{TypesInRange, types_of}

module _ (table : TypeTable) where
  -- the place of a variant among all variants
  abbrev pub place_of : ℕ → ℕ → ℕ
  place_of t v = get_or table.first t 0 + v

  -- the field types of the variant at a place
  abbrev pub fields_at : ℕ → Variant
  fields_at w = map (λ j. get_or table.sorts (3 * w + j) 0) (from (get_or table.arities w 0) 0)

  -- the variants of a type lie in a row
  abbrev pub variants_at : ℕ → List Variant
  variants_at t = map (λ v. fields_at (place_of t v)) (from (get_or table.variants t 0) 0)

  pub held-many : length (types_of table) ≡ table.many
  unfolding types_of
  held-many = map-from-length _ table.many 0

  module _ (t : ℕ) (in_types : t < table.many) where
    pub held-type : variants_of (types_of table) t ≡ variants_at t
    unfolding types_of
    held-type = map-from-at variants_at table.many 0 t [] in_types ∙ ap variants_at (zero-add t)

    pub held-variants : length (variants_of (types_of table) t) ≡ get_or table.variants t 0
    held-variants = ap length held-type ∙ map-from-length _ (get_or table.variants t 0) 0

    module _ (v : ℕ) (in_variants : v < get_or table.variants t 0) where
      pub held-fields : fields_of (types_of table) t v ≡ fields_at (place_of t v)
      held-fields =
          ap (λ (vs : List Variant). get_or vs v []) held-type ∙ map-from-at (λ w. fields_at (place_of t w)) (get_or table.variants t 0) 0 v [] in_variants
          ∙ ap (λ (w : ℕ). fields_at (place_of t w)) (zero-add v)

      pub held-arity : length (fields_of (types_of table) t v) ≡ get_or table.arities (place_of t v) 0
      held-arity = ap length held-fields ∙ map-from-length _ (get_or table.arities (place_of t v) 0) 0

      pub held-sort : (j : ℕ) → j < get_or table.arities (place_of t v) 0 → field_type (types_of table) t v j ≡ get_or table.sorts (3 * place_of t v + j) 0
      held-sort j h =
          ap (λ (fs : Variant). get_or fs j 0) held-fields
          ∙ map-from-at (λ i. get_or table.sorts (3 * place_of t v + i) 0) (get_or table.arities (place_of t v) 0) 0 j 0 h
          ∙ ap (λ (i : ℕ). get_or table.sorts (3 * place_of t v + i) 0) (zero-add j)

  -- ---- in range

  module _ (range : TypesInRange table) where
    pub place-small : (t v : ℕ) → t < table.many → v < length (variants_of (types_of table) t) → place_of t v < 48
    place-small t v h l = omega (arith, held-variants t h, range.first t)

    -- what holds of the fields of every variant that there is, and of none, holds of all fields
    everywhere : (P : Variant → Type 0) → P [] → ((t v : ℕ) → t < table.many → v < get_or table.variants t 0 → P (fields_of (types_of table) t v))
        → (t v : ℕ) → P (fields_of (types_of table) t v)
    everywhere P empty there t v =
        by_test (ltb t table.many)
        (λ et. let h : t < table.many = ltb-true _ _ et in
        by_test (ltb v (length (variants_of (types_of table) t)))
        (λ ev. there t v h (omega (arith, held-variants t h, ltb-true v (length (variants_of (types_of table) t)) ev)))
        (λ ev. subst P (sym (get_or-eq_default (variants_of (types_of table) t) [] (ltb-false v (length (variants_of (types_of table) t)) ev))) empty))
        (λ et. subst P (sym (past (ltb-false t table.many et))) empty)
      where
        past : table.many ≤ t → fields_of (types_of table) t v ≡ []
        past h = ap (λ (vs : List Variant). get_or vs v []) (get_or-eq_default (types_of table) [] {n = t} (omega (arith, held-many)))

    pub fields-few : (t v : ℕ) → length (fields_of (types_of table) t v) ≤ 3
    fields-few = everywhere (λ fs. length fs ≤ 3) (omega arith) (λ t v h l. omega (arith, held-arity t h v l, range.arities (place_of t v)))

    pub fields-small : (t v p : ℕ) → p < length (fields_of (types_of table) t v) → field_type (types_of table) t v p < length (types_of table)
    fields-small =
        everywhere (λ fs. (p : ℕ) → p < length fs → get_or fs p 0 < length (types_of table)) (λ p h. absurd (omega arith))
        (λ t v h l p i. let a : p < get_or table.arities (place_of t v) 0 = omega (arith, held-arity t h v l) in
        omega (arith, held-sort t h v l p a, held-many, range.sorts (place_of t v) p a))
