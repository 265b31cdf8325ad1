-- The labels that the arrays of a well-formed guard give are those that document 01 gives for it: a claim that holds of the ones holds
-- of the others. Assumes nothing.
use mathlib.Core.Path.{◌≡◌, refl, ap, ap₂, sym, ◌∙◌, subst}
use mathlib.Core.Bool.{not}
use mathlib.Core.List.{map}
use Prim.Native.Nat.{ℕ, suc, ◌-◌, ◌^◌, ◌≤◌, ◌<◌}
use native.Mathlib.Omega.{arith}
use lib.Dec.{eqb}
use lib.ListN.{get_or, length}
use borrow.Author.Tests.{eq-eqb, eqb-true}
use Rattle.laws.specs.All.{All}
use Rattle.laws.proofs.Bits.{below}
use Rattle.laws.proofs.Bools.{and_both, and_left, and_right}
use Rattle.laws.proofs.Lists.{all_map, all-map_inv}
use Rattle.guard.specs.Closure.{Fact, Fact.within, all_variants, every_variant, one_variant}
use Rattle.guard.specs.Guard.{Guard}
use Rattle.guard.specs.Limits.{Limits, Supported, total_variant_limit, variant_limit}
use Rattle.guard.specs.Terms.{Build, Table, Term, table_of}
use Rattle.guard.specs.WellFormed.{WellFormed}
use Rattle.guard.proofs.TableLaws.{table_in_range}
use Rattle.tables.specs.Layout.{flat}
use Rattle.arrays.specs.Arrays.{full_of, shapes_of, sorts_of}
use Rattle.arrays.proofs.SlotLaws.{full_at, sort_of, sort-term}
use Rattle.arrays.specs.Slots.{kind_at, others_at, owner_at, sort_at}
use Rattle.arrays.proofs.DueLaws.{is_nonzero, nonzero_is, slots_at}
use Rattle.arrays.proofs.GuardSlots.{shape_slots}
use Rattle.arrays.proofs.TableSlots.{ShapeSlot, ShapeSlots, Shaped, Shaped.of_build, Shaped.of_read}
use Rattle.facts.proofs.FactLists.{all_one, one-all, slots_all}
use Rattle.labelfacts.specs.Labels.{all_variants_at, all_variants_by, is_build, one_variant_at, one_variant_by, variant_at}

-- of 16 variants some are left beside one
others-left : (v : ℕ) → v < variant_limit → ¬ (every_variant - 2 ^ v ≡ 0)
others-left v h = nonzero_is (every_variant - 2 ^ v) (below (λ w. not (eqb (every_variant - 2 ^ w) 0)) variant_limit refl v h)

module _ (limits : Limits) (sup : Supported limits) (g : Guard) (ok : WellFormed limits g) (total : length (flat g.types) ≤ total_variant_limit) (P : Fact → Type 0) where
  abbrev t : Table
  t = table_of g

  -- the fact of a term's slot
  term-fact : (x : Term) → sort_at (sorts_of g) x.term ≡ suc x.type → within x.term (get_or (full_of g) (sort_at (sorts_of g) x.term) 0) ≡ all_variants g.types x
  term-fact x e = ap (within x.term) (ap (λ (n : ℕ). get_or (full_of g) n 0) e ∙ full_at limits sup g ok total x.type)

  pub terms_to : All P (map (all_variants g.types) t.terms) → All P (all_variants_by (sorts_of g) (full_of g))
  unfolding all_variants_by all_variants_at
  terms_to h =
      slots_all P 78 (all_variants_at (sorts_of g) (full_of g)) (λ x l. one-all P (not (eqb (sort_at (sorts_of g) x) 0)) (within x (get_or (full_of g) (sort_at (sorts_of g) x) 0)) (λ e.
      let n : ¬ (sort_at (sorts_of g) x ≡ 0) = nonzero_is _ e in
      let s : sort_at (sorts_of g) x ≡ suc (sort_at (sorts_of g) x - 1) = omega (arith, n) in
      let y : Term = record { term = x; type = sort_at (sorts_of g) x - 1 } in
      subst P (sym (term-fact y s)) (all-map_inv (all_variants g.types) t.terms h y (sort-term limits sup g ok total x (sort_at (sorts_of g) x - 1) l s))))

  pub terms-from : All P (all_variants_by (sorts_of g) (full_of g)) → All P (map (all_variants g.types) t.terms)
  unfolding all_variants_by all_variants_at
  terms-from h =
      all_map (all_variants g.types) t.terms (λ x m.
      let s : sort_at (sorts_of g) x.term ≡ suc x.type = sort_of limits sup g ok total x m in
      subst P (term-fact x s) (all_one P (not (eqb (sort_at (sorts_of g) x.term) 0)) (within x.term (get_or (full_of g) (sort_at (sorts_of g) x.term) 0))
      (slots_at 78 (all_variants_at (sorts_of g) (full_of g)) h x.term ((table_in_range limits sup g ok).terms x m).0) (is_nonzero (sort_at (sorts_of g) x.term) (λ z. omega (arith, z, s)))))

  slots : ShapeSlots t (shapes_of g)
  slots = shape_slots limits sup g ok total

  -- the fact of a build's slot
  build-fact : (k : ℕ) (b : Build) → ShapeSlot t (shapes_of g) k b → within (owner_at (shapes_of g) k) (2 ^ variant_at (shapes_of g) k) ≡ one_variant b
  build-fact k b x = let e : variant_at (shapes_of g) k ≡ b.variant = omega (arith, x.kind, x.variant_fits) in ap₂ (λ (i v : ℕ). within i (2 ^ v)) x.owner e

  pub builds_to : All P (map one_variant t.builds) → All P (one_variant_by (shapes_of g))
  unfolding one_variant_by one_variant_at
  builds_to h = slots_all P 30 (one_variant_at (shapes_of g)) (λ k l. one-all P (is_build (shapes_of g) k) (within (owner_at (shapes_of g) k) (2 ^ variant_at (shapes_of g) k)) (λ e.
      go k (eqb-true _ _ (and_right (not (eqb (kind_at (shapes_of g) k) 0)) _ e)) (slots.found k l (nonzero_is _ (and_left (not (eqb (kind_at (shapes_of g) k) 0)) _ e)))))
    where
      go : (k : ℕ) → others_at (shapes_of g) k ≡ 0 → Shaped t (shapes_of g) k → P (within (owner_at (shapes_of g) k) (2 ^ variant_at (shapes_of g) k))
      go k z (of_build b m x o) = subst P (sym (build-fact k b x)) (all-map_inv one_variant t.builds h b m)
      go k z (of_read r m x o) = absurd (omega (arith, z, o, others-left r.variant x.variant_fits))

  pub builds-from : All P (one_variant_by (shapes_of g)) → All P (map one_variant t.builds)
  unfolding one_variant_by one_variant_at
  builds-from h =
      all_map one_variant t.builds (λ b m. let (k, l, x, o) = slots.slot_build b m in
      subst P (build-fact k b x) (all_one P (is_build (shapes_of g) k) (within (owner_at (shapes_of g) k) (2 ^ variant_at (shapes_of g) k)) (slots_at 30 (one_variant_at (shapes_of g)) h k l)
      (and_both _ _ (is_nonzero (kind_at (shapes_of g) k) (λ z. omega (arith, z, x.kind))) (eq-eqb _ _ o))))
