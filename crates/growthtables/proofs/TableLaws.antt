-- The entries by columns are what crate `growth` says of the types that the table holds. A variant's place decides its
-- chosen field; growth from a type of the table stays among them; past the last type the column of next types and the
-- definition both have 0, so they are one function. Assumes nothing.
use mathlib.Core.Path.{◌≡◌, ap, sym, ◌∙◌, fun_ext}
use mathlib.Core.Bool.{Bool, cond, not}
use mathlib.Core.List.{List, []}
use Prim.Native.Nat.{ℕ, ◌+◌, ◌*◌, ◌≤◌, ◌<◌}
use native.Mathlib.Omega.{arith}
use lib.Dec.{eqb, ltb}
use lib.ListN.{length, get_or, get_or-eq_default}
use borrow.Author.Tests.{ltb-false, ltb-true}
use Rattle.laws.proofs.Bools.{by_test}
use Rattle.laws.proofs.Positions.{least}
use Rattle.guard.specs.Types.{Types, Variant, field_type, fields_of, is_number, variants_of}
use Rattle.guard.proofs.FiniteTypes.{infinite}
use Rattle.tables.specs.Layout.{TypesInRange, types_of}
use Rattle.tables.specs.declared.TypeTable.{TypeTable}
use Rattle.tables.proofs.Held.{fields-small, held-arity, held-many, held-sort, held-variants, place_of}
use Rattle.finite.specs.Finite.{finite_column, flagged}
use Rattle.finite.proofs.FiniteLaws.{finite-flagged}
use Rattle.growth.proofs.Growth.{chosen_field, growing_variant, next_type, steps_to_number}
use Rattle.growth.proofs.Orbit.{distance, iterate, iterate_less, period, root}
use Rattle.nexttypes.specs.NextTypes.{chosen_entry, fielded_at, growing_entry, infinite_at, next_entry, sort_at}
use Rattle.orbits.specs.Orbits.{distance_entry, number_after, on_to, period_entry, root_entry, steps_entry}
use Rattle.columns.specs.Entries.{filled}
use Rattle.growthtables.specs.Growth.{chosen_at, growth_by, per_type}
use Rattle.growthtables.specs.declared.Growth.{Growth}
use Rattle.columns.proofs.Filled.{filled_at, filled-past, filled-same}
use Rattle.columns.proofs.Searches.{least_same_lem}

module _ (table : TypeTable) where
  abbrev ts : Types
  ts = types_of table

  pub chosen_by : chosen_entry table.arities table.sorts (finite_column ts) ≡ chosen_at table
  unfolding chosen_entry infinite_at chosen_at flagged infinite
  chosen_by =
      let by : (ℕ → Bool) → ℕ → ℕ = λ q w. least (λ p. not (q (get_or table.sorts (3 * w + p) 0))) (get_or table.arities w 0) in
      ap by (finite-flagged ts)

  module _ (t : ℕ) (in_types : t < table.many) where
    pub chosen-held : (v : ℕ) → v < get_or table.variants t 0 → chosen_at table (place_of table t v) ≡ chosen_field ts t v
    unfolding chosen_at
    chosen-held v h =
        least_same_lem (λ p. infinite ts (get_or table.sorts (3 * place_of table t v + p) 0)) (λ p. infinite ts (field_type ts t v p)) (get_or table.arities (place_of table t v) 0)
        (λ p l. ap (infinite ts) (sym (held-sort table t in_types v h p l)))
        ∙ ap (least (λ p. infinite ts (field_type ts t v p))) (sym (held-arity table t in_types v h))

    pub growing-held : growing_entry table.variants table.first table.arities t ≡ growing_variant ts t
    unfolding growing_entry fielded_at
    growing-held =
        least_same_lem (λ v. ltb 0 (get_or table.arities (place_of table t v) 0)) (λ v. ltb 0 (length (fields_of ts t v))) (get_or table.variants t 0)
        (λ v l. ap (ltb 0) (sym (held-arity table t in_types v l)))
        ∙ ap (least (λ v. ltb 0 (length (fields_of ts t v)))) (sym (held-variants table t in_types))

    sort-held : (v c : ℕ) → v < get_or table.variants t 0 → sort_at table.arities table.sorts (place_of table t v) c ≡ field_type ts t v c
    unfolding sort_at
    sort-held v c h =
        by_test (ltb c (get_or table.arities (place_of table t v) 0))
        (λ e. ap (λ (b : Bool). cond b (get_or table.sorts (3 * place_of table t v + c) 0) 0) e ∙ sym (held-sort table t in_types v h c (ltb-true _ _ e)))
        (λ e. ap (λ (b : Bool). cond b (get_or table.sorts (3 * place_of table t v + c) 0) 0) e
        ∙ sym (get_or-eq_default (fields_of ts t v) 0 (omega (arith, held-arity table t in_types v h, ltb-false c (get_or table.arities (place_of table t v) 0) e))))

  -- no variant, no field
  no_variant_lem : (t v p : ℕ) → length (variants_of ts t) ≤ v → field_type ts t v p ≡ 0
  no_variant_lem t v p h = ap (λ (fs : Variant). get_or fs p 0) (get_or-eq_default (variants_of ts t) [] h)

  -- growth of type t by variant v
  abbrev goes_to : ℕ → ℕ → ℕ
  goes_to t v =
      cond (ltb v (get_or table.variants t 0)) (sort_at table.arities table.sorts (place_of table t v) (get_or (filled 48 (chosen_at table) 48) (place_of table t v) 0)) 0

  module _ (range : TypesInRange table) where
    goes_on : (t v : ℕ) → t < table.many → goes_to t v ≡ field_type ts t v (chosen_field ts t v)
    goes_on t v h =
        by_test (ltb v (get_or table.variants t 0))
        (λ e. let l : v < get_or table.variants t 0 = ltb-true _ _ e in
        pick e ∙ sort-held t h v (get_or (filled 48 (chosen_at table) 48) (place_of table t v) 0) l
        ∙ ap (field_type ts t v) (filled_at 48 (chosen_at table) 48 (place_of table t v) (omega (arith, range.first t)) ∙ chosen-held t h v l))
        (λ e. pick e ∙ sym (no_variant_lem t v (chosen_field ts t v) (omega (arith, held-variants table t h, ltb-false v (get_or table.variants t 0) e))))
      where
        pick : {b : Bool} → ltb v (get_or table.variants t 0) ≡ b
            → goes_to t v ≡ cond b (sort_at table.arities table.sorts (place_of table t v) (get_or (filled 48 (chosen_at table) 48) (place_of table t v) 0)) 0
        pick e = ap (λ (b : Bool). cond b (sort_at table.arities table.sorts (place_of table t v) (get_or (filled 48 (chosen_at table) 48) (place_of table t v) 0)) 0) e

    pub next-held : (t : ℕ) → t < table.many
        → next_entry table.variants table.first table.arities table.sorts (filled 48 (chosen_at table) 48) (filled 6 (growing_variant ts) (length ts)) t ≡ next_type ts t
    unfolding next_entry
    next-held t h = ap (goes_to t) (filled_at 6 (growing_variant ts) (length ts) t (omega (arith, held-many table))) ∙ goes_on t (growing_variant ts t) h

    -- growth from a type of the table stays in the table
    pub next-inside : (t : ℕ) → t < length ts → next_type ts t < length ts
    next-inside t h =
        let c : ℕ = chosen_field ts t (growing_variant ts t) in
        by_test (ltb c (length (fields_of ts t (growing_variant ts t))))
        (λ e. fields-small table range t (growing_variant ts t) c (ltb-true _ _ e))
        (λ e. let q : next_type ts t ≡ 0 = get_or-eq_default (fields_of ts t (growing_variant ts t)) 0 (ltb-false c (length (fields_of ts t (growing_variant ts t))) e) in omega arith)

  pub on_to_lem : on_to (filled 6 (next_type ts) (length ts)) ≡ next_type ts
  unfolding on_to
  on_to_lem = fun_ext (λ t. by_test (ltb t (length ts))
      (λ e. filled_at 6 (next_type ts) (length ts) t (ltb-true _ _ e))
      (λ e. filled-past 6 (next_type ts) (length ts) t (ltb-false t (length ts) e) ∙ sym (no_variant_lem t (growing_variant ts t) (chosen_field ts t (growing_variant ts t)) (past t (ltb-false t (length ts) e)))))
    where
      past : (t : ℕ) → length ts ≤ t → length (variants_of ts t) ≤ growing_variant ts t
      past t h = omega (arith, ap length (get_or-eq_default ts [] {n = t} h))

  module _ (range : TypesInRange table) where
    pub steps-held : (t : ℕ) → t < length ts → steps_entry table.variants (filled 6 (next_type ts) (length ts)) (length ts) t ≡ steps_to_number ts t
    unfolding steps_entry number_after
    steps-held t h =
        ap (λ (f : ℕ → ℕ). least (λ k. eqb (get_or table.variants (iterate f k t) 0) 0) (length ts)) on_to_lem
        ∙ least_same_lem (λ k. eqb (get_or table.variants (iterate (next_type ts) k t) 0) 0) (λ k. is_number ts (iterate (next_type ts) k t)) (length ts)
        (λ k l. ap (λ (n : ℕ). eqb n 0) (sym (held-variants table (iterate (next_type ts) k t) (omega (arith, held-many table, iterate_less (next_type ts) (length ts) (next-inside range) k t h)))))

    -- ---- the columns, one after the other

    pub chosen-column : (finite chosen : List ℕ) → finite ≡ finite_column ts → chosen ≡ filled 48 (chosen_entry table.arities table.sorts finite) 48 → chosen ≡ (growth_by table).chosen
    unfolding growth_by
    chosen-column finite chosen is_finite e =
        e ∙ ap (λ (c : List ℕ). filled 48 (chosen_entry table.arities table.sorts c) 48) is_finite ∙ ap (λ (f : ℕ → ℕ). filled 48 f 48) chosen_by

    -- for each type of the table
    per_type_lem : (f : ℕ → ℕ) (g : Types → ℕ → ℕ) (column : List ℕ) → column ≡ filled 6 f table.many → ((t : ℕ) → t < table.many → f t ≡ g ts t) → column ≡ per_type table g
    per_type_lem f g column e h = e ∙ filled-same 6 f (g ts) table.many h ∙ ap (filled 6 (g ts)) (sym (held-many table))

    pub growing-column : (growing : List ℕ) → growing ≡ filled 6 (growing_entry table.variants table.first table.arities) table.many → growing ≡ (growth_by table).growing
    unfolding growth_by
    growing-column growing e = per_type_lem (growing_entry table.variants table.first table.arities) growing_variant growing e growing-held

    pub next-column : (chosen growing next : List ℕ) → chosen ≡ (growth_by table).chosen → growing ≡ (growth_by table).growing
        → next ≡ filled 6 (next_entry table.variants table.first table.arities table.sorts chosen growing) table.many → next ≡ (growth_by table).next
    unfolding growth_by
    next-column chosen growing next isChosen isGrowing e =
        let by : List ℕ → List ℕ → ℕ → ℕ = next_entry table.variants table.first table.arities table.sorts in
        per_type_lem (by (filled 48 (chosen_at table) 48) (filled 6 (growing_variant ts) (length ts))) next_type next
        (e ∙ ap (λ (c : List ℕ). filled 6 (by c growing) table.many) isChosen ∙ ap (λ (g : List ℕ). filled 6 (by (filled 48 (chosen_at table) 48) g) table.many) isGrowing)
        (next-held range)

    module _ (next : List ℕ) (is_next : next ≡ (growth_by table).next) where
      pub steps-column : (steps : List ℕ) → steps ≡ filled 6 (steps_entry table.variants next table.many) table.many → steps ≡ (growth_by table).steps
      unfolding growth_by
      steps-column steps e =
          per_type_lem (steps_entry table.variants (filled 6 (next_type ts) (length ts)) (length ts)) steps_to_number steps
          (e ∙ ap (λ (c : List ℕ). filled 6 (steps_entry table.variants c table.many) table.many) is_next
          ∙ ap (λ (n : ℕ). filled 6 (steps_entry table.variants (filled 6 (next_type ts) (length ts)) n) table.many) (sym (held-many table)))
          (λ t h. steps-held t (omega (arith, held-many table)))

      -- what is asked of next types only
      by_next : (f : (ℕ → ℕ) → ℕ → ℕ → ℕ) (column : List ℕ) → column ≡ filled 6 (f (on_to next) table.many) table.many → column ≡ per_type table (λ us. f (next_type us) (length us))
      unfolding growth_by
      by_next f column e =
          e ∙ ap (λ (g : ℕ → ℕ). filled 6 (f g table.many) table.many) (ap on_to is_next ∙ on_to_lem) ∙ ap (λ (n : ℕ). filled 6 (f (next_type ts) n) n) (sym (held-many table))

      pub root-column : (column : List ℕ) → column ≡ filled 6 (root_entry next table.many) table.many → column ≡ (growth_by table).root
      unfolding growth_by root_entry
      root-column = by_next root

      pub distance-column : (column : List ℕ) → column ≡ filled 6 (distance_entry next table.many) table.many → column ≡ (growth_by table).distance
      unfolding growth_by distance_entry
      distance-column = by_next distance

      pub period-column : (column : List ℕ) → column ≡ filled 6 (period_entry next table.many) table.many → column ≡ (growth_by table).period
      unfolding growth_by period_entry
      period-column = by_next period

-- all columns together
pub all-columns : (g : Growth) (chosen growing next steps roots distances periods : List ℕ)
    → chosen ≡ g.chosen → growing ≡ g.growing → next ≡ g.next → steps ≡ g.steps → roots ≡ g.root → distances ≡ g.distance → periods ≡ g.period
    → record { chosen = chosen; growing = growing; next = next; steps = steps; root = roots; distance = distances; period = periods } ≡ g
all-columns g chosen growing next steps roots distances periods = same
  where
    same : {a b c d e f h : List ℕ} → chosen ≡ a → growing ≡ b → next ≡ c → steps ≡ d → roots ≡ e → distances ≡ f → periods ≡ h
        → ◌≡◌ {A = Growth} (record { chosen = chosen; growing = growing; next = next; steps = steps; root = roots; distance = distances; period = periods })
        (record { chosen = a; growing = b; next = c; steps = d; root = e; distance = f; period = h })
    same p₁ p₂ p₃ p₄ p₅ p₆ p₇ = cc
