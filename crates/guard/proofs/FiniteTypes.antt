-- Finite types are exactly what document 01's sentence says: `finite` obeys "a type is finite exactly if all its
-- variants are, and a variant exactly if all its field types are; number types are infinite", and is the least test that
-- does ("reached in finitely many rounds"). Two rounds of the definition are one step here, from the types known to be
-- finite to those whose fields are all known. A step adds a type or none is ever added again, and only the types of the
-- list are ever added; so after as many steps as types nothing changes. Assumes nothing.
use mathlib.Core.Path.{◌≡◌, refl, ap, sym, ◌∙◌, fun_ext}
use mathlib.Core.Bool.{Bool, true, false, not, false≢true, ◌&&◌, ◌||◌}
use mathlib.Core.Logic.{◌⊎◌, inl, inr, ◌↔◌}
use Prim.Native.Nat.{ℕ, zero, suc, ◌*◌, ◌≤◌, ◌<◌}
use native.Mathlib.Omega.{arith}
use lib.Dec.{eqb, ltb}
use lib.ListN.{length, get_or-eq_default, get_or}
use borrow.Author.Tests.{eqb-true, eqb-false, ltb-true, ltb-false, not-true, not-false, ne_eqb}
use mathlib.Core.List.{[], ◌∷◌, Memᴰ, List}
use Rattle.laws.specs.Lists.{all, filter, from}
use Rattle.laws.proofs.Bools.{and_both, and_left, and_right}
use Rattle.laws.proofs.Lists.{from-length, mem_from}
use Rattle.laws.proofs.Members.{filter_lt, filter-most, find_cases}
use Rattle.laws.proofs.Positions.{all_false_at, all_true_at, all_true_from, all_true_weaken, any_true_at}
use Rattle.guard.specs.Types.{Types, Variant, field_type, fields_of, finite, finite_type, infinite_field, infinite_fields, is_number, variants_of}

module _ (ts : Types) where
  -- the types whose fields are all known
  abbrev pub finite_step : (ℕ → Bool) → ℕ → Bool
  finite_step known t = not (is_number ts t) && all (all known) (variants_of ts t)

  step_weaken : (p q : ℕ → Bool) → ((t : ℕ) → p t ≡ true → q t ≡ true) → (t : ℕ) → finite_step p t ≡ true → finite_step q t ≡ true
  step_weaken p q h t e =
      and_both (not (is_number ts t)) (all (all q) (variants_of ts t)) (and_left (not (is_number ts t)) (all (all p) (variants_of ts t)) e)
      (all_true_weaken (all p) (all q) (variants_of ts t) (λ fs. all_true_weaken p q fs h) (and_right (not (is_number ts t)) (all (all p) (variants_of ts t)) e))

  abbrev finite_after : ℕ → ℕ → Bool
  finite_after zero t = false
  finite_after (suc j) t = finite_step (finite_after j) t

  -- two rounds are a step
  two_rounds : (j : ℕ) → finite_type (2 * j) ts ≡ finite_after j
  two_rounds zero = fun_ext (λ t. refl)
  two_rounds (suc j) =
      let q : 2 * suc j ≡ suc (suc (2 * j)) = omega arith in
      ap (λ k. finite_type k ts) q ∙ fun_ext (λ t. ap (λ p. finite_step p t) (two_rounds j))

  kept : (j t : ℕ) → finite_after j t ≡ true → finite_after (suc j) t ≡ true
  kept zero t e = absurd (false≢true e)
  kept (suc j) t e = step_weaken (finite_after j) (finite_after (suc j)) (kept j) t e

  -- only a type of the list is no number type
  pub variant-type-inside : (t : ℕ) → is_number ts t ≡ false → t < length ts
  variant-type-inside t e = go (ltb t (length ts)) refl
    where
      go : (b : Bool) → ltb t (length ts) ≡ b → t < length ts
      go true q = ltb-true t (length ts) q
      go false q = absurd (eqb-false (length (variants_of ts t)) 0 e (ap length (get_or-eq_default ts [] (ltb-false t (length ts) q))))

  inside : (j t : ℕ) → finite_after (suc j) t ≡ true → t < length ts
  inside j t e = variant-type-inside t (not-true _ (and_left (not (is_number ts t)) (all (all (finite_after j)) (variants_of ts t)) e))

  -- ---- after as many steps as types nothing is added

  abbrev Stable : ℕ → Type 0
  Stable j = (t : ℕ) → finite_after (suc j) t ≡ true → finite_after j t ≡ true

  -- how many types are known
  abbrev known : ℕ → ℕ
  known j = length (filter (finite_after j) (from (length ts) 0))

  stable_or_more : (j : ℕ) → Stable j ⊎ (known j < known (suc j))
  stable_or_more j = go (find_cases (λ t. finite_after (suc j) t && not (finite_after j t)) (from (length ts) 0))
    where
      go : ((t : ℕ) × Memᴰ t (from (length ts) 0) × ((finite_after (suc j) t && not (finite_after j t)) ≡ true))
          ⊎ ((t : ℕ) → Memᴰ t (from (length ts) 0) → (finite_after (suc j) t && not (finite_after j t)) ≡ false) → Stable j ⊎ (known j < known (suc j))
      go (inl (t, m, e)) =
          inr (filter_lt (finite_after j) (finite_after (suc j)) (from (length ts) 0) (λ x k q. kept j x q) t m
          (not-true _ (and_right (finite_after (suc j) t) (not (finite_after j t)) e)) (and_left (finite_after (suc j) t) (not (finite_after j t)) e))
      go (inr nothing) = inl (λ t e. old t e (nothing t (mem_from (length ts) 0 t (omega arith) (omega (arith, inside j t e)))))
        where
          old : (t : ℕ) → finite_after (suc j) t ≡ true → (finite_after (suc j) t && not (finite_after j t)) ≡ false → finite_after j t ≡ true
          old t e q = not-false _ (sym (ap (λ b. b && not (finite_after j t)) e) ∙ q)

  stable_or_many : (j : ℕ) → Stable j ⊎ (suc j ≤ known (suc j))
  stable_or_many zero = go (stable_or_more 0)
    where
      go : Stable 0 ⊎ (known 0 < known 1) → Stable 0 ⊎ (1 ≤ known 1)
      go (inl s) = inl s
      go (inr h) = inr (omega arith)
  stable_or_many (suc j) = go (stable_or_many j) (stable_or_more (suc j))
    where
      go : Stable j ⊎ (suc j ≤ known (suc j)) → Stable (suc j) ⊎ (known (suc j) < known (suc (suc j))) → Stable (suc j) ⊎ (suc (suc j) ≤ known (suc (suc j)))
      go (inl s) r = inl (step_weaken (finite_after (suc j)) (finite_after j) s)
      go (inr h) (inl s) = inl s
      go (inr h) (inr l) = inr (omega arith)

  settled : Stable (length ts)
  settled = go (stable_or_many (length ts))
    where
      go : Stable (length ts) ⊎ (suc (length ts) ≤ known (suc (length ts))) → Stable (length ts)
      go (inl s) = s
      go (inr h) = absurd (omega (arith, filter-most (finite_after (suc (length ts))) (from (length ts) 0), from-length (length ts) 0))

  -- ---- what `finite` says

  -- "A type is finite exactly if all its variants are, and a variant exactly if all its field types are"; "number types are infinite"
  pub finite_exactly : (t : ℕ) → finite ts t ≡ finite_step (finite ts) t
  finite_exactly t =
      ap (λ (p : ℕ → Bool). p t) (two_rounds (length ts))
      ∙ same (finite_after (length ts) t) (finite_after (suc (length ts)) t) (kept (length ts) t) (settled t)
      ∙ ap (λ (p : ℕ → Bool). finite_step p t) (sym (two_rounds (length ts)))
    where
      same : (a b : Bool) → (a ≡ true → b ≡ true) → (b ≡ true → a ≡ true) → a ≡ b
      same true b f g = sym (f refl)
      same false true f g = g refl
      same false false f g = refl

  -- "reached in finitely many rounds": of all tests that obey the sentence it is the least
  pub finite_least : (p : ℕ → Bool) → ((t : ℕ) → finite_step p t ≡ true → p t ≡ true) → (t : ℕ) → finite ts t ≡ true → p t ≡ true
  finite_least p h t e = below (length ts) t (sym (ap (λ (q : ℕ → Bool). q t) (two_rounds (length ts))) ∙ e)
    where
      below : (j t : ℕ) → finite_after j t ≡ true → p t ≡ true
      below zero t e = absurd (false≢true e)
      below (suc j) t e = h t (step_weaken (finite_after j) p (below j) t e)

  -- the same by positions
  pub finite_iff : (t : ℕ) → (finite ts t ≡ true) ↔ ((is_number ts t ≡ false) × ((v p : ℕ) → v < length (variants_of ts t) → p < length (fields_of ts t v) → finite ts (field_type ts t v p) ≡ true))
  finite_iff t = (forth, back)
    where
      forth : finite ts t ≡ true → (is_number ts t ≡ false) × ((v p : ℕ) → v < length (variants_of ts t) → p < length (fields_of ts t v) → finite ts (field_type ts t v p) ≡ true)
      forth e =
          let q : finite_step (finite ts) t ≡ true = sym (finite_exactly t) ∙ e in (
            not-true _ (and_left (not (is_number ts t)) (all (all (finite ts)) (variants_of ts t)) q),
            λ v p hv hp. all_true_at (finite ts) (fields_of ts t v) p 0 (all_true_at (all (finite ts)) (variants_of ts t) v [] (and_right (not (is_number ts t)) (all (all (finite ts)) (variants_of ts t)) q) hv) hp,
          )

      back : (is_number ts t ≡ false) × ((v p : ℕ) → v < length (variants_of ts t) → p < length (fields_of ts t v) → finite ts (field_type ts t v p) ≡ true) → finite ts t ≡ true
      back (e, f) =
          finite_exactly t
          ∙ and_both (not (is_number ts t)) (all (all (finite ts)) (variants_of ts t)) (ap not e)
          (all_true_from (all (finite ts)) (variants_of ts t) [] (λ v hv. all_true_from (finite ts) (fields_of ts t v) 0 (λ p hp. f v p hv hp)))

  -- ---- infinite types

  unfoldable pub infinite : ℕ → Bool
  infinite t = not (finite ts t)

  -- an infinite variant type has a variant with an infinite field
  pub infinite-variant : (t : ℕ) → is_number ts t ≡ false → infinite t ≡ true
      → (v : ℕ) × (v < length (variants_of ts t)) × ((p : ℕ) × (p < length (fields_of ts t v)) × (infinite (field_type ts t v p) ≡ true))
  unfolding infinite
  infinite-variant t e i =
      let (v, hv, a) = all_false_at (all (finite ts)) (variants_of ts t) [] (fails (is_number ts t) e (sym (finite_exactly t) ∙ not-true _ i)) in
      let (p, hp, b) = all_false_at (finite ts) (fields_of ts t v) 0 a in
      (v, hv, (p, hp, ap not b))
    where
      fails : (b : Bool) → b ≡ false → (not b && all (all (finite ts)) (variants_of ts t)) ≡ false → all (all (finite ts)) (variants_of ts t) ≡ false
      fails true q r = absurd (false≢true (sym q))
      fails false q r = r

  -- only a type with variants has fields
  pub variant-inside : (t v : ℕ) → 0 < length (fields_of ts t v) → v < length (variants_of ts t)
  variant-inside t v h = go (variants_of ts t) v h
    where
      go : (vs : List Variant) (v : ℕ) → 0 < length (get_or vs v []) → v < length vs
      go [] v h = absurd (omega arith)
      go (x ∷ xs) zero h = omega arith
      go (x ∷ xs) (suc v) h = omega (arith, go xs v h)

  pub no_number : (t v : ℕ) → 0 < length (fields_of ts t v) → is_number ts t ≡ false
  no_number t v h = ne_eqb (length (variants_of ts t)) 0 (λ e. omega (arith, variant-inside t v h))

  -- question 9: a variant with fields has an infinite one
  pub infinite-field : infinite_fields ts ≡ true → (t v : ℕ) → 0 < length (fields_of ts t v) → (p : ℕ) × (p < length (fields_of ts t v)) × (infinite (field_type ts t v p) ≡ true)
  unfolding infinite
  infinite-field q t v h = any_true_at (λ t. not (finite ts t)) (fields_of ts t v) 0 (has (eqb (length (fields_of ts t v)) 0) refl asked)
    where
      asked : (eqb (length (fields_of ts t v)) 0 || infinite_field ts (fields_of ts t v)) ≡ true
      asked =
          all_true_at (λ fs. eqb (length fs) 0 || infinite_field ts fs) (variants_of ts t) v []
          (all_true_at (all (λ fs. eqb (length fs) 0 || infinite_field ts fs)) ts t [] q (variant-type-inside t (no_number t v h))) (variant-inside t v h)

      has : (b : Bool) → eqb (length (fields_of ts t v)) 0 ≡ b → (b || infinite_field ts (fields_of ts t v)) ≡ true → infinite_field ts (fields_of ts t v) ≡ true
      has true e r = absurd (omega (arith, eqb-true (length (fields_of ts t v)) 0 e))
      has false e r = r
