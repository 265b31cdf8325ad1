-- How many parts a message has, from the table of types. Of a guard's table it is how many fields the variant has. Assumes
-- nothing.
use mathlib.Core.Path.{◌≡◌, ap, sym, ◌∙◌, subst}
use mathlib.Core.Bool.{Bool, true, false}
use mathlib.Core.List.{[]}
use Prim.Native.Nat.{ℕ, ◌+◌, ◌≤◌, ◌<◌}
use native.Mathlib.Omega.{arith}
use lib.Dec.{ltb}
use lib.ListN.{length, get_or, get_or-eq_default}
use borrow.Author.Tests.{le-ltb, lt-ltb, ltb-false, ltb-true}
use Rattle.laws.proofs.Bools.{by_test}
use Rattle.guard.specs.Types.{Types, fields_of, variants_of}
use Rattle.tables.specs.Layout.{flat, type_table}
use Rattle.tables.specs.declared.TypeTable.{TypeTable}
use Rattle.tables.proofs.Lookups.{arity-at, first-at, offset_inside, variants_at_lem}
use Rattle.rowtext.specs.Arity.{field_count}
use Rattle.rowtext.specs.Arity.{AritiesFit, arity_by, arity_in}

module _ (types : TypeTable) (t v : ℕ) where
  by_answer : (b : Bool) → ltb v (get_or types.variants t 0) ≡ b → arity_by b types t v ≡ arity_in types t v
  unfolding arity_in
  by_answer b e = ap (λ (a : Bool). arity_by a types t v) (sym e)

  pub no_variant_lem : get_or types.variants t 0 ≤ v → 0 ≡ arity_in types t v
  no_variant_lem h = by_answer false (le-ltb v (get_or types.variants t 0) h)

  pub a_variant : v < get_or types.variants t 0 → get_or types.arities (get_or types.first t 0 + v) 0 ≡ arity_in types t v
  a_variant h = by_answer true (lt-ltb v (get_or types.variants t 0) h)

-- ---- the table of a guard's types

module _ (ts : Types) (total : length (flat ts) ≤ 48) where
  inside-types : (t v : ℕ) → v < length (variants_of ts t) → t < length ts
  inside-types t v h = by_test (ltb t (length ts)) (ltb-true t (length ts)) (λ e. absurd (omega (arith, h, ap length (get_or-eq_default ts [] (ltb-false t (length ts) e)))))

  pub field-count : (t v : ℕ) → arity_in (type_table ts) t v ≡ field_count ts t v
  field-count t v = by_test (ltb v (length (variants_of ts t))) (λ e. there (ltb-true v _ e)) (λ e. missing (ltb-false v _ e))
    where
      there : v < length (variants_of ts t) → arity_in (type_table ts) t v ≡ field_count ts t v
      there h =
          sym (a_variant (type_table ts) t v (subst (λ (n : ℕ). v < n) (sym (variants_at_lem ts t)) h)) ∙ ap (λ (k : ℕ). get_or (type_table ts).arities (k + v) 0) (first-at ts t (inside-types t v h)) ∙ arity-at ts t v h

      missing : length (variants_of ts t) ≤ v → arity_in (type_table ts) t v ≡ field_count ts t v
      missing h =
          sym (no_variant_lem (type_table ts) t v (subst (λ (n : ℕ). n ≤ v) (sym (variants_at_lem ts t)) h)) ∙ sym (ap length (get_or-eq_default (variants_of ts t) [] h))

  pub table_fits : length ts ≤ 6 → ((t v : ℕ) → length (fields_of ts t v) ≤ 3) → AritiesFit (type_table ts)
  table_fits six three =
      record {
        six = λ t h. variants_at_lem ts t ∙ ap length (get_or-eq_default ts [] (omega (arith, six, h)));
        inside = λ t v h. let l : v < length (variants_of ts t) = subst (λ (n : ℕ). v < n) (variants_at_lem ts t) h in omega (arith, total, l, first-at ts t (inside-types t v l), offset_inside ts t);
        few = λ t v. omega (arith, field-count t v, three t v);
      }
