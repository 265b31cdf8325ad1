-- A search as a loop makes it: as long as a test has passed nowhere, nothing is found below. Assumes nothing.
use mathlib.Core.Path.{◌≡◌, refl, ap, sym, ◌∙◌}
use mathlib.Core.List.{List, Memᴰ}
use mathlib.Core.Bool.{Bool, true, false, false≢true, ◌||◌}
use Prim.Native.Nat.{ℕ, zero, suc, ◌+◌, ◌≤◌, ◌<◌}
use native.Mathlib.Nat.{add-zero}
use native.Mathlib.Omega.{arith}
use lib.Dec.{eqb, ltb}
use borrow.Author.Count.{below_more, below_none}
use borrow.Author.Tests.{eq-eqb, le-ltb, lt-ltb, ne_eqb, ltb-true, ltb-false}
use Rattle.laws.specs.Lists.{any, from}
use Rattle.laws.proofs.Bools.{by_test, or_left, or_right}
use Rattle.laws.proofs.Lists.{any_of, any_some, from_bounds, mem_from}
use Rattle.laws.proofs.Positions.{least, least_first, least_le, least_most, least_passes}
use Rattle.std.specs.Prelude.{is_some}
use Rattle.std.specs.declared.option.Option.{Option}
use Rattle.std.specs.declared.option.Option.TheVariants.{None, Some}
use Rattle.loops.specs.Lowest.{Finds, FirstPassing, SomePassing, lowest}

pub or_none_lem : (b : Bool) → (b || false) ≡ b
or_none_lem true = refl
or_none_lem false = refl

-- two tests that pass together are the same
pub both : (a b : Bool) → (a ≡ true → b ≡ true) → (b ≡ true → a ≡ true) → a ≡ b
both true b f h = sym (f refl)
both false true f h = absurd (false≢true (h refl))
both false false f h = refl

module _ (p : ℕ → Bool) where
  abbrev pub NoneBelow : ℕ → Type 0
  NoneBelow k = (j : ℕ) → j < k → p j ≡ false

  pub none_yet : NoneBelow 0
  none_yet = below_none (λ j. p j ≡ false)

  pub none-next : (k : ℕ) → NoneBelow k → p k ≡ false → NoneBelow (k + 1)
  none-next k h e = below_more (λ j. p j ≡ false) k h e

  pub lowest-here : (n k : ℕ) → k < n → NoneBelow k → p k ≡ true → k ≡ lowest p n
  unfolding lowest
  lowest-here n k l h e =
      by_test (ltb (least p n) k) (λ b. absurd (false≢true (sym (h (least p n) (ltb-true _ _ b)) ∙ least_passes p n (omega (arith, ltb-true (least p n) k b)))))
      (λ b. omega (arith, ltb-false (least p n) k b, least_le p n k e))

  pub lowest_nowhere : (n k : ℕ) → n ≤ k → NoneBelow k → n ≡ lowest p n
  unfolding lowest
  lowest_nowhere n k l h =
      by_test (ltb (least p n) n) (λ b. absurd (false≢true (sym (h (least p n) (omega (arith, ltb-true (least p n) n b))) ∙ least_passes p n (ltb-true _ _ b))))
      (λ b. omega (arith, ltb-false (least p n) n b, least_most p n))

  -- where nothing is found below n, what is found is n
  pub lowest-none : (n : ℕ) → ltb (lowest p n) n ≡ false → lowest p n ≡ n
  unfolding lowest
  lowest-none n b = omega (arith, ltb-false (least p n) n b, least_most p n)

  pub finds_here : (n k : ℕ) → k < n → NoneBelow k → p k ≡ true → Finds p n (Some k)
  finds_here n k l h e = (l, lowest-here n k l h e)

  pub finds_nowhere : (n : ℕ) → NoneBelow n → Finds p n None
  finds_nowhere n h = sym (lowest_nowhere n n (omega arith) h)

  -- a number that is known to be the lowest, or n
  pub finds_less : (n k : ℕ) → k ≡ lowest p n → k < n → Finds p n (Some k)
  finds_less n k e l = (l, e)

  pub finds_past : (n k : ℕ) → k ≡ lowest p n → n ≤ k → Finds p n None
  unfolding lowest
  finds_past n k e l = omega (arith, e, least_most p n)

  -- whether there is one
  pub finds_test : (n : ℕ) (r : Option ℕ) → Finds p n r → is_some r ≡ ltb (lowest p n) n
  finds_test n None e = sym (le-ltb (lowest p n) n (omega (arith, e)))
  finds_test n (Some k) e = sym (lt-ltb (lowest p n) n (omega (arith, e.0, e.1)))

  -- calls of a function that computes the test find what the test does
  pub finds : (post : ℕ → Bool → Type 0) (n : ℕ) (r : Option ℕ) → ((k : ℕ) (b : Bool) → k < n → post k b → b ≡ p k) → FirstPassing post n r → Finds p n r
  finds post n None same f = finds_nowhere n (λ k h. sym (same k false h (f k h)))
  finds post n (Some k) same (l, t, f) = finds_here n k l (λ j h. sym (same j false (omega arith) (f j h))) (sym (same k true l t))

  pub any_here : (n k : ℕ) → k < n → p k ≡ true → true ≡ any p (from n 0)
  any_here n k l e = sym (any_of p (from n 0) k (mem_from n 0 k (omega arith) (omega arith)) e)

  pub any_nowhere : (n k : ℕ) → n ≤ k → NoneBelow k → false ≡ any p (from n 0)
  any_nowhere n k l h = go (any p (from n 0)) (any_some p (from n 0))
    where
      go : (b : Bool) → (b ≡ true → (x : ℕ) × Memᴰ x (from n 0) × (p x ≡ true)) → false ≡ b
      go false f = refl
      go true f = let (x, m, e) = f refl in absurd (false≢true (sym (h x (omega (arith, (from_bounds n 0 x m).1))) ∙ e))

  pub some_passes : (post : ℕ → Bool → Type 0) (n : ℕ) (r : Bool) → ((k : ℕ) (b : Bool) → k < n → post k b → b ≡ p k) → SomePassing post n r → r ≡ any p (from n 0)
  some_passes post n false same f = any_nowhere n n (omega arith) (λ k h. sym (same k false h (f k h)))
  some_passes post n true same (k, l, t, f) = any_here n k l (sym (same k true l t))

  -- something is found where the test passes somewhere
  pub lowest-any : (n : ℕ) → ltb (lowest p n) n ≡ any p (from n 0)
  unfolding lowest
  lowest-any n =
      by_test (ltb (least p n) n) (λ b. b ∙ any_here n (least p n) (ltb-true _ _ b) (least_passes p n (ltb-true _ _ b)))
      (λ b. b ∙ any_nowhere n (least p n) (ltb-false _ _ b) (least_first p n))

-- one number more
pub any_snoc : (p : ℕ → Bool) (n a : ℕ) → any p (from (suc n) a) ≡ (any p (from n a) || p (a + n))
any_snoc p zero a = or_none_lem (p a) ∙ ap p (sym (add-zero a))
any_snoc p (suc n) a =
    let e : suc a + n ≡ a + suc n = omega arith in
    ap (λ (b : Bool). p a || b) (any_snoc p n (suc a) ∙ ap (λ (k : ℕ). any p (from n (suc a)) || p k) e) ∙ or_assoc (p a) (any p (from n (suc a))) (p (a + suc n))
  where
    or_assoc : (a b c : Bool) → (a || (b || c)) ≡ ((a || b) || c)
    or_assoc true b c = refl
    or_assoc false b c = refl

pub lowest-same : (p q : ℕ → Bool) (n : ℕ) → ((k : ℕ) → p k ≡ q k) → lowest p n ≡ lowest q n
unfolding lowest
lowest-same p q n e =
    by_test (ltb (least p n) n) (λ b. lowest-here q n (least p n) (ltb-true _ _ b) (λ j h. sym (e j) ∙ least_first p n j h) (sym (e (least p n)) ∙ least_passes p n (ltb-true _ _ b)))
    (λ b. let z : least p n ≡ n = omega (arith, ltb-false (least p n) n b, least_most p n) in z ∙ lowest_nowhere q n (least p n) (ltb-false _ _ b) (λ j h. sym (e j) ∙ least_first p n j h))

-- the lowest number that passes a test or is d
module _ (p q : ℕ → Bool) (n d : ℕ) (h : d < n) (either : (k : ℕ) → q k ≡ (p k || eqb d k)) where
  neither : (k : ℕ) → p k ≡ false → ¬ (d ≡ k) → q k ≡ false
  neither k e m = either k ∙ ap (λ (b : Bool). b || eqb d k) e ∙ ne_eqb d k m

  pub lowest_new : d < lowest p n → d ≡ lowest q n
  unfolding lowest
  lowest_new l = lowest-here q n d h (λ j m. neither j (least_first p n j (omega arith)) (λ e. omega (arith, e, m))) (either d ∙ or_right (p d) (eqb d d) (eq-eqb d d refl))

  pub lowest-old : lowest p n ≤ d → lowest p n ≡ lowest q n
  unfolding lowest
  lowest-old l =
      lowest-here q n (least p n) (omega arith) (λ j m. neither j (least_first p n j m) (λ e. omega (arith, e, m)))
      (either (least p n) ∙ or_left (p (least p n)) (eqb d (least p n)) (least_passes p n (omega arith)))

-- something is found among the numbers below n exactly where something passes in a list
module _ {A : Type 0} (p : A → Bool) (xs : List A) (q : ℕ → Bool) (n : ℕ) where
  pub found-same : ((x : A) → Memᴰ x xs → p x ≡ true → (k : ℕ) × (k < n) × (q k ≡ true)) → ((k : ℕ) → k < n → q k ≡ true → (x : A) × Memᴰ x xs × (p x ≡ true))
      → ltb (lowest q n) n ≡ any p xs
  found-same there back =
      lowest-any q n
      ∙ both (any q (from n 0)) (any p xs)
      (λ e. let (k, m, h) = any_some q (from n 0) e in let (x, i, f) = back k (omega (arith, (from_bounds n 0 k m).1)) h in any_of p xs x i f)
      (λ e. let (x, m, h) = any_some p xs e in let (k, l, f) = there x m h in sym (any_here q n k l f))
