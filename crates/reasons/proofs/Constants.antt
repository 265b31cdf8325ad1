-- The lowest class with two unlike constants, one constant after the other. Assumes nothing.
use mathlib.Core.Path.{◌≡◌, refl, ap, sym, ◌∙◌}
use mathlib.Core.Bool.{Bool, true, false, not, false≢true, ◌&&◌, ◌||◌}
use mathlib.Core.List.{List}
use Prim.Native.Nat.{ℕ, ◌+◌, ◌<◌, min}
use native.Mathlib.Nat.{zero-add}
use native.Mathlib.Numerals.{add-one}
use native.Mathlib.Omega.{arith}
use lib.Dec.{eqb, ltb}
use lib.IntN.{ℤ}
use lib.ListN.{get_or}
use borrow.Author.Tests.{eq-eqb, eqb-true, ltb-false, ltb-true, not-true}
use Rattle.laws.specs.Lists.{from}
use Rattle.laws.proofs.Bools.{and_both, and_left, and_right, by_test}
use Rattle.laws.proofs.Lists.{any_some, from_bounds}
use Rattle.guard.specs.Closure.{eq_z}
use Rattle.guard.proofs.ClosureBelow.{eq_z_true}
use Rattle.guard.proofs.LeastClosure.{eq_z_of}
use Rattle.loops.specs.Lowest.{lowest}
use Rattle.loops.proofs.Loops.{any_here, any_snoc, lowest_new, lowest_nowhere, lowest-old, lowest-same, or_none_lem}
use Rattle.arrays.proofs.DueLaws.{is_nonzero, nonzero_is}
use Rattle.constants.specs.Constants.{constant_value}
use Rattle.reasons.specs.Reasons.{constant_class, unlike, unlike_at, unlike_before}

module _ (constants : List ℕ) (values : List ℤ) (classes : List ℕ) where
  abbrev at : ℕ → ℕ → Bool
  at = unlike_at constants values classes

  at_next : (k c : ℕ) → unlike_at constants values classes (k + 1) c ≡ (unlike_at constants values classes k c || (unlike_before constants values classes k && eqb (constant_class classes k) c))
  unfolding unlike_at
  at_next k c =
      let p : ℕ → Bool = λ i. unlike_before constants values classes i && eqb (constant_class classes i) c in
      ap (λ (n : ℕ). unlike_at constants values classes n c) (add-one k) ∙ any_snoc p k 0 ∙ ap (λ (i : ℕ). unlike_at constants values classes k c || p i) (zero-add k)

  pub unlike-none : 96 ≡ lowest (unlike_at constants values classes 0) 96
  unfolding unlike_at
  unlike-none = lowest_nowhere (at 0) 96 96 (omega arith) (λ j h. refl)

  module _ (k found : ℕ) (is : found ≡ lowest (unlike_at constants values classes k) 96) where
    pub unlike-same : unlike_before constants values classes k ≡ false → found ≡ lowest (unlike_at constants values classes (k + 1)) 96
    unlike-same e = is ∙ lowest-same (at k) (at (k + 1)) 96 (λ c. sym (at_next k c ∙ ap (λ (b : Bool). at k c || (b && eqb (constant_class classes k) c)) e ∙ or_none_lem (at k c)))

    module _ (e : unlike_before constants values classes k ≡ true) (c : ℕ) (is_c : c ≡ constant_class classes k) (h : c < 96) where
      next : (d : ℕ) → at (k + 1) d ≡ (at k d || eqb c d)
      next d = at_next k d ∙ ap (λ (b : Bool). at k d || (b && eqb (constant_class classes k) d)) e ∙ ap (λ (n : ℕ). at k d || eqb n d) (sym is_c)

      pub unlike_lowest : min found c ≡ lowest (unlike_at constants values classes (k + 1)) 96
      unlike_lowest =
          by_test (ltb c found) (λ t. let l = ltb-true c found t in let m : min found c ≡ c = omega arith in m ∙ lowest_new (at k) (at (k + 1)) 96 c h next (omega (arith, is)))
          (λ t. let l = ltb-false c found t in let m : min found c ≡ found = omega arith in m ∙ is ∙ lowest-old (at k) (at (k + 1)) 96 c h next (omega (arith, is)))

-- ---- what the tests say

module _ (constants : List ℕ) (values : List ℤ) (classes : List ℕ) where
  -- slots j and k have constants of one class and of different value
  pub record Unlike (k j : ℕ) : Type 0 where
    pub here : ¬ (get_or constants k 0 ≡ 0)
    pub before : ¬ (get_or constants j 0 ≡ 0)
    pub class : constant_class classes j ≡ constant_class classes k
    pub value : ¬ (constant_value values j ≡ constant_value values k)

  pub unlike-yes : (n k j : ℕ) → k < n → j < k → Unlike k j → unlike_at constants values classes n (constant_class classes k) ≡ true
  unfolding unlike_at unlike_before unlike
  unlike-yes n k j h l u =
      sym (any_here (λ i. unlike_before constants values classes i && eqb (constant_class classes i) (constant_class classes k)) n k h
      (and_both _ _ (and_both _ _ (is_nonzero (get_or constants k 0) u.here) (sym (any_here (unlike constants values classes k) k j l pair))) (eq-eqb (constant_class classes k) (constant_class classes k) refl)))
    where
      pair : unlike constants values classes k j ≡ true
      pair = and_both _ _ (is_nonzero (get_or constants j 0) u.before) (and_both _ _ (eq-eqb _ _ u.class) (differ (eq_z (constant_value values j) (constant_value values k)) refl))
        where
          differ : (b : Bool) → eq_z (constant_value values j) (constant_value values k) ≡ b → not b ≡ true
          differ true e = absurd (u.value (eq_z_true _ _ e))
          differ false e = refl

  pub unlike-is : (n c : ℕ) → unlike_at constants values classes n c ≡ true → (k : ℕ) × (j : ℕ) × (k < n) × (j < k) × Unlike k j
  unfolding unlike_at unlike_before unlike
  unlike-is n c e =
      let (k, m, q) = any_some (λ i. unlike_before constants values classes i && eqb (constant_class classes i) c) (from n 0) e in
      let r : unlike_before constants values classes k ≡ true = and_left (unlike_before constants values classes k) _ q in
      let (j, i, p) = any_some (unlike constants values classes k) (from k 0) (and_right (not (eqb (get_or constants k 0) 0)) _ r) in
      let rest : (eqb (constant_class classes j) (constant_class classes k) && not (eq_z (constant_value values j) (constant_value values k))) ≡ true = and_right (not (eqb (get_or constants j 0) 0)) _ p in (
        k,
        j,
        omega (arith, (from_bounds n 0 k m).1),
        omega (arith, (from_bounds k 0 j i).1),
        record {
          here = nonzero_is (get_or constants k 0) (and_left (not (eqb (get_or constants k 0) 0)) _ r);
          before = nonzero_is (get_or constants j 0) (and_left (not (eqb (get_or constants j 0) 0)) _ p);
          class = eqb-true _ _ (and_left (eqb (constant_class classes j) (constant_class classes k)) _ rest);
          value = λ z. false≢true (sym (not-true _ (and_right (eqb (constant_class classes j) (constant_class classes k)) _ rest)) ∙ eq_z_of _ _ z);
        },
      )
