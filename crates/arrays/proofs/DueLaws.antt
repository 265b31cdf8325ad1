-- Facts that are due, in general: what a test gives, what two slots give, and claims about two slots in either order. Assumes nothing.
use mathlib.Core.Path.{◌≡◌, refl, ap, sym, ◌∙◌, subst}
use mathlib.Core.Bool.{Bool, true, false, not, false≢true}
use mathlib.Core.List.{List, [], ◌∷◌, Memᴰ}
use Prim.Native.Nat.{ℕ, ◌<◌}
use native.Mathlib.Omega.{arith}
use lib.Dec.{eqb, ltb}
use borrow.Author.Tests.{eq-eqb, eqb-false, eqb-true, ltb-false, ltb-true, ne_eqb, not-true}
use Rattle.laws.specs.All.{All, All.more, All.none}
use Rattle.laws.specs.Lists.{concat_map, from, when}
use Rattle.laws.proofs.Bools.{by_test}
use Rattle.laws.proofs.Lists.{all-when, concat_map_inv, from_bounds, mem_concat_map_inv, mem_from, when_inv}
use Rattle.guard.specs.Closure.{Fact, Fact.same, SameAt, State, class_of, holds}

-- equal numbers for the two that are the same
pub moved : (s : State) {i j k l : ℕ} → i ≡ k → j ≡ l → SameAt s i j → SameAt s k l
moved s p q e = ap (class_of s) (sym p) ∙ e ∙ ap (class_of s) q

-- the test that a number is not 0
pub nonzero_is : (n : ℕ) → not (eqb n 0) ≡ true → ¬ (n ≡ 0)
nonzero_is n e = eqb-false n 0 (not-true (eqb n 0) e)

pub is_nonzero : (n : ℕ) → ¬ (n ≡ 0) → not (eqb n 0) ≡ true
is_nonzero n h = ap not (ne_eqb n 0 h)

-- ---- what a test gives

module _ {A : Type 0} where
  pub when-is : (b : Bool) (xs : List A) {x : A} → Memᴰ x (when b xs) → (b ≡ true) × Memᴰ x xs
  when-is false xs m = elim m [ ]
  when-is true xs m = (refl, m)

  pub mem_when : (b : Bool) (xs : List A) {x : A} → b ≡ true → Memᴰ x xs → Memᴰ x (when b xs)
  mem_when true xs e m = m
  mem_when false xs e m = absurd (false≢true e)

module _ (test : Bool) (x y : ℕ) where
  pub one-is : {f : Fact} → Memᴰ f (when test (same x y ∷ [])) → (test ≡ true) × (f ≡ same x y)
  one-is m = let (e, n) = when-is test (same x y ∷ []) m in (e, only n)
    where
      only : {f : Fact} → Memᴰ f (same x y ∷ []) → f ≡ same x y
      only (mathlib.Core.List.Memᴰ.tail x5) = elim x5 [ ]
      only (Memᴰ.head q) = q

  pub mem_one : {f : Fact} → test ≡ true → f ≡ same x y → Memᴰ f (when test (same x y ∷ []))
  mem_one e q = mem_when test (same x y ∷ []) e (Memᴰ.head q)

  pub quiet_one : (s : State) → (test ≡ true → SameAt s x y) → All (λ f. holds s f ≡ true) (when test (same x y ∷ []))
  quiet_one s h = all-when test (same x y ∷ []) (λ e. more (eq-eqb _ _ (h e)) none)

  pub one-quiet : (s : State) → All (λ f. holds s f ≡ true) (when test (same x y ∷ [])) → test ≡ true → SameAt s x y
  one-quiet s h e = go (when_inv test (same x y ∷ []) h e)
    where
      go : All (λ f. holds s f ≡ true) (same x y ∷ []) → SameAt s x y
      go (more q qs) = eqb-true _ _ q

-- ---- what slots give

-- what the first n slots give
module _ {P : Fact → Type 0} (n : ℕ) (due : ℕ → List Fact) where
  pub slots_are : ((k : ℕ) → k < n → (f : Fact) → Memᴰ f (due k) → P f) → (f : Fact) → Memᴰ f (concat_map due (from n 0)) → P f
  slots_are h = mem_concat_map_inv due P (from n 0) (λ k m. h k (omega (arith, (from_bounds n 0 k m).1)))

  pub slots_at : All P (concat_map due (from n 0)) → (k : ℕ) → k < n → All P (due k)
  slots_at a k h = concat_map_inv due (from n 0) a k (mem_from n 0 k (omega arith) (omega arith))

-- a claim about two of n slots that holds of each two in one order, and can be turned around
pub either_order : (n : ℕ) (R : ℕ → ℕ → Type 0) → ((k i : ℕ) → k < n → i < n → R k i → R i k) → ((k : ℕ) → R k k) → ((k i : ℕ) → k < n → i < k → R k i)
    → (k i : ℕ) → k < n → i < n → R k i
either_order n R turn itself h k i hk hi =
    by_test (ltb i k) (λ e. h k i hk (ltb-true i k e))
    (λ e. by_test (ltb k i) (λ q. turn i k hi hk (h i k hi (ltb-true k i q)))
    (λ q. let z : k ≡ i = omega (arith, ltb-false i k e, ltb-false k i q) in subst (R k) z (itself k)))
