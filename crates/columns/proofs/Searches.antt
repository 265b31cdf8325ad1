-- A search for the least number that passes a test, a turn at a time. Assumes nothing.
use mathlib.Core.Path.{◌≡◌, refl, ap, sym, ◌∙◌}
use mathlib.Core.Bool.{Bool, true, false, cond, false≢true}
use Prim.Native.Nat.{ℕ, zero, suc, ◌+◌, ◌≤◌, ◌<◌}
use native.Mathlib.Omega.{arith}
use lib.Dec.{eqb}
use borrow.Author.Tests.{eqb-true, eqb-false}
use Rattle.laws.proofs.Bools.{by_test}
use Rattle.laws.proofs.Positions.{least, least_le, least_most, least_passes}

-- what is looked for is not below i; `answer` is what was said of i
module _ (p : ℕ → Bool) (n i : ℕ) (not_below : i ≤ least p n) where
  pub least_here : {answer : Bool} → answer ≡ p i → answer ≡ true → i ≡ least p n
  least_here e y = omega (arith, least_le p n i (sym e ∙ y))

  pub least_on : {answer : Bool} → i < n → answer ≡ p i → answer ≡ false → i + 1 ≤ least p n
  least_on h e y =
      by_test (eqb i (least p n))
      (λ q. let s : i ≡ least p n = eqb-true _ _ q in
      absurd (false≢true (sym y ∙ e ∙ ap p s ∙ least_passes p n (omega arith))))
      (λ q. let d : ¬ (i ≡ least p n) = eqb-false _ _ q in omega arith)

  pub least_end : n ≤ i → n ≡ least p n
  least_end h = omega (arith, least_most p n)

-- tests that agree below n
pub least_same_lem : (p q : ℕ → Bool) (n : ℕ) → ((k : ℕ) → k < n → p k ≡ q k) → least p n ≡ least q n
least_same_lem p q zero h = refl
least_same_lem p q (suc n) h =
    ap (λ (b : Bool). cond b 0 (suc (least (λ k. p (suc k)) n))) (h 0 (omega arith))
    ∙ ap (λ (m : ℕ). cond (q 0) 0 (suc m)) (least_same_lem (λ k. p (suc k)) (λ k. q (suc k)) n (λ k l. h (suc k) (omega arith)))
