-- Orbits of a function that maps the numbers below n to numbers below n. By the pigeonhole principle an orbit repeats
-- after at most n steps, so each of its numbers is met within the first n steps, and from step n on it goes round one
-- cycle. The lowest number of that cycle is the root, the same for all numbers of an orbit; it is reached within n steps,
-- and from it the orbit is back after at most n steps, its period. Assumes nothing.
use mathlib.Core.Path.{◌≡◌, refl, ap, sym, ◌∙◌}
use mathlib.Core.Bool.{Bool, true, false, cond}
use mathlib.Core.List.{Memᴰ}
use mathlib.Core.Logic.{◌⊎◌, inl, inr}
use Prim.Native.Nat.{ℕ, zero, suc, ◌+◌, ◌*◌, ◌≤◌, ◌<◌, ◌-◌, min}
use native.Mathlib.Omega.{arith}
use lib.Dec.{leb, ltb, eqb}
use borrow.Author.Tests.{eq-eqb, eqb-false, eqb-true, leb-false, leb-true, ltb-false, ltb-true}
use Rattle.laws.specs.Lists.{from}
use Rattle.laws.proofs.Lists.{from_bounds, mem_from}
use Rattle.laws.proofs.Members.{find_cases}
use Rattle.laws.proofs.Positions.{least, least_le, least_most, least_passes}

-- ---- the pigeonhole principle: two of n + 1 numbers below n are equal
record Repeat (f : ℕ → ℕ) (n : ℕ) : Type 0 where
  first : ℕ
  gap : ℕ
  positive : 0 < gap
  inside : first + gap ≤ n
  equal : f first ≡ f (first + gap)

-- the numbers besides m, moved together
abbrev without : ℕ → ℕ → ℕ
without m x = cond (ltb x m) x (x - 1)

without_less : (m x n : ℕ) → m ≤ n → x < suc n → ¬ (x ≡ m) → without m x < n
without_less m x n hm hx ne = go (ltb x m) refl
  where
    go : (b : Bool) → ltb x m ≡ b → cond b x (x - 1) < n
    go true e = omega (arith, ltb-true x m e)
    go false e = omega (arith, ltb-false x m e)

without_once : (m x y : ℕ) → ¬ (x ≡ m) → ¬ (y ≡ m) → without m x ≡ without m y → x ≡ y
without_once m x y nx ny e = go (ltb x m) (ltb y m) refl refl e
  where
    go : (a b : Bool) → ltb x m ≡ a → ltb y m ≡ b → cond a x (x - 1) ≡ cond b y (y - 1) → x ≡ y
    go true true p q r = r
    go true false p q r = omega (arith, ltb-true x m p, ltb-false y m q)
    go false true p q r = omega (arith, ltb-false x m p, ltb-true y m q)
    go false false p q r = omega (arith, ltb-false x m p, ltb-false y m q)

pigeonhole : (n : ℕ) (f : ℕ → ℕ) → ((i : ℕ) → i ≤ n → f i < n) → Repeat f n
pigeonhole zero f h = absurd (omega (arith, h 0 (omega arith)))
pigeonhole (suc n) f h = go (pigeonhole n (λ i. without (f (suc n)) (f i))) (find_cases (λ i. eqb (f i) (f (suc n))) (from (suc n) 0))
  where
    go : (((i : ℕ) → i ≤ n → without (f (suc n)) (f i) < n) → Repeat (λ i. without (f (suc n)) (f i)) n)
        → ((i : ℕ) × Memᴰ i (from (suc n) 0) × (eqb (f i) (f (suc n)) ≡ true)) ⊎ ((i : ℕ) → Memᴰ i (from (suc n) 0) → eqb (f i) (f (suc n)) ≡ false) → Repeat f (suc n)
    go ih (inl (i, m, e)) =
        let b : i < 0 + suc n = (from_bounds (suc n) 0 i m).1 in
        let s : i + (suc n - i) ≡ suc n = omega arith in
        record { first = i; gap = suc n - i; positive = omega arith; inside = omega arith; equal = eqb-true _ _ e ∙ ap f (sym s) }
    go ih (inr others) = lift (ih (λ i hi. without_less (f (suc n)) (f i) n (omega (arith, h (suc n) (omega arith))) (h i (omega arith)) (differ i hi)))
      where
        differ : (i : ℕ) → i ≤ n → ¬ (f i ≡ f (suc n))
        differ i hi = eqb-false _ _ (others i (mem_from (suc n) 0 i (omega arith) (omega arith)))

        lift : Repeat (λ i. without (f (suc n)) (f i)) n → Repeat f (suc n)
        lift r =
            record {
              first = r.first;
              gap = r.gap;
              positive = r.positive;
              inside = omega (arith, r.inside);
              equal =
                  without_once (f (suc n)) (f r.first) (f (r.first + r.gap)) (differ r.first (omega (arith, r.inside))) (differ (r.first + r.gap) r.inside) r.equal;
            }

-- ---- iteration

module _ (f : ℕ → ℕ) where
  abbrev pub iterate : ℕ → ℕ → ℕ
  iterate zero x = x
  iterate (suc k) x = iterate k (f x)

  pub iterate_add : (a b x : ℕ) → iterate (a + b) x ≡ iterate b (iterate a x)
  iterate_add zero b x = ap (λ (k : ℕ). iterate k x) (let e : 0 + b ≡ b = omega arith in e)
  iterate_add (suc a) b x = ap (λ (k : ℕ). iterate k x) (let e : suc a + b ≡ suc (a + b) = omega arith in e) ∙ iterate_add a b (f x)

  -- any number of rounds
  pub iterate_rounds : (k c r : ℕ) → iterate c r ≡ r → iterate (k * c) r ≡ r
  iterate_rounds zero c r e = ap (λ (j : ℕ). iterate j r) (let q : 0 * c ≡ 0 = omega arith in q)
  iterate_rounds (suc k) c r e =
      ap (λ (j : ℕ). iterate j r) (let q : suc k * c ≡ c + k * c = omega arith in q) ∙ iterate_add c (k * c) r ∙ ap (iterate (k * c)) e ∙ iterate_rounds k c r e

  -- the lowest of x and the k numbers after it
  abbrev pub lowest : ℕ → ℕ → ℕ
  lowest zero x = x
  lowest (suc k) x = min x (lowest k (f x))

  lowest_le : (k j x : ℕ) → j ≤ k → lowest k x ≤ iterate j x
  lowest_le zero zero x h = omega arith
  lowest_le zero (suc j) x h = absurd (omega arith)
  lowest_le (suc k) zero x h = omega arith
  lowest_le (suc k) (suc j) x h = omega (arith, lowest_le k j (f x) (omega arith))

  lowest-is : (k x : ℕ) → (j : ℕ) × (j ≤ k) × (lowest k x ≡ iterate j x)
  lowest-is zero x = (0, omega arith, refl)
  lowest-is (suc k) x = go (lowest-is k (f x)) (leb x (lowest k (f x))) refl
    where
      go : ((j : ℕ) × (j ≤ k) × (lowest k (f x) ≡ iterate j (f x))) → (b : Bool) → leb x (lowest k (f x)) ≡ b → (j : ℕ) × (j ≤ suc k) × (min x (lowest k (f x)) ≡ iterate j x)
      go r true e = (0, omega arith, omega (arith, leb-true x (lowest k (f x)) e))
      go (j, h, q) false e = (suc j, omega arith, omega (arith, leb-false x (lowest k (f x)) e, q))

  -- ---- root, distance and period

  module _ (n : ℕ) where
    -- the lowest number of the cycle that the orbit of x ends in
    unfoldable pub root : ℕ → ℕ
    root x = lowest n (iterate n x)

    -- the least number of steps from x to its root
    unfoldable pub distance : ℕ → ℕ
    distance x = least (λ k. eqb (iterate k x) (root x)) n

    -- the least positive number of steps from r back to r, at most n
    unfoldable pub period : ℕ → ℕ
    period r = suc (least (λ k. eqb (iterate (suc k) r) r) (n - 1))

    pub period_positive : (r : ℕ) → 0 < period r
    unfolding period
    period_positive r = omega arith

    pub period-most : (r : ℕ) → 0 < n → period r ≤ n
    unfolding period
    period-most r h = omega (arith, least_most (λ k. eqb (iterate (suc k) r) r) (n - 1))

    module _ (closed : (x : ℕ) → x < n → f x < n) where
      pub iterate_less : (k x : ℕ) → x < n → iterate k x < n
      iterate_less zero x h = h
      iterate_less (suc k) x h = iterate_less k (f x) (closed x h)

      repeat : (x : ℕ) → x < n → Repeat (λ k. iterate k x) n
      repeat x h = pigeonhole n (λ k. iterate k x) (λ i hi. iterate_less i x h)

      -- from the repeat on, the orbit goes round
      turn : (x : ℕ) (h : x < n) (k : ℕ) → (repeat x h).first ≤ k → iterate k x ≡ iterate (k + (repeat x h).gap) x
      turn x h k hk =
          let l : ℕ = (repeat x h).first in
          let g : ℕ = (repeat x h).gap in
          let e1 : l + (k - l) ≡ k = omega arith in
          let e2 : (l + g) + (k - l) ≡ k + g = omega arith in
          ap (λ (j : ℕ). iterate j x) (sym e1) ∙ iterate_add l (k - l) x ∙ ap (iterate (k - l)) (repeat x h).equal
          ∙ sym (iterate_add (l + g) (k - l) x) ∙ ap (λ (j : ℕ). iterate j x) e2

      orbit_within_fuel : (x : ℕ) → x < n → (fuel k : ℕ) → k ≤ fuel → (j : ℕ) × (j < n) × (iterate j x ≡ iterate k x)
      orbit_within_fuel x h zero k hk = (k, omega arith, refl)
      orbit_within_fuel x h (suc fuel) k hk = go (orbit_within_fuel x h fuel) (ltb k n) refl
        where
          go : ((k : ℕ) → k ≤ fuel → (j : ℕ) × (j < n) × (iterate j x ≡ iterate k x)) → (b : Bool) → ltb k n ≡ b → (j : ℕ) × (j < n) × (iterate j x ≡ iterate k x)
          go ih true e = (k, ltb-true k n e, refl)
          go ih false e =
              let g : ℕ = (repeat x h).gap in
              let i1 : (repeat x h).first + g ≤ n = (repeat x h).inside in
              let i2 : 0 < g = (repeat x h).positive in
              let i3 : n ≤ k = ltb-false k n e in
              let q : (k - g) + g ≡ k = omega arith in
              let (j, l, r) = ih (k - g) (omega arith) in
              (j, l, r ∙ turn x h (k - g) (omega arith) ∙ ap (λ (j : ℕ). iterate j x) q)

      -- each number of an orbit is met within the first n steps
      pub orbit_within : (x : ℕ) → x < n → (k : ℕ) → (j : ℕ) × (j < n) × (iterate j x ≡ iterate k x)
      orbit_within x h k = orbit_within_fuel x h k k (omega arith)

      root-at : (x : ℕ) → (k : ℕ) × (n ≤ k) × (root x ≡ iterate k x)
      unfolding root
      root-at x = let (j, h, e) = lowest-is n (iterate n x) in (n + j, omega arith, e ∙ sym (iterate_add n j x))

      -- the root is lowest on all of the orbit from step n on
      root_least : (x : ℕ) → x < n → (k : ℕ) → n ≤ k → root x ≤ iterate k x
      unfolding root
      root_least x h k hk =
          let (j, l, e) = orbit_within (iterate n x) (iterate_less n x h) (k - n) in
          let q : n + (k - n) ≡ k = omega arith in
          let r : iterate k x ≡ iterate j (iterate n x) = ap (λ (j : ℕ). iterate j x) (sym q) ∙ iterate_add n (k - n) x ∙ sym e in
          omega (arith, r, lowest_le n j (iterate n x) (omega arith))

      -- all of an orbit has one root
      pub root_step : (x : ℕ) → x < n → root (f x) ≡ root x
      root_step x h =
          let (j, h1, e) = root-at (f x) in
          let (k, h3, q) = root-at x in
          let g : ℕ = (repeat x h).gap in
          let i2 : 0 < g = (repeat x h).positive in
          let a : root x ≤ iterate j (f x) = root_least x h (suc j) (omega arith) in
          let s : suc (k + g - 1) ≡ k + g = omega arith in
          let r : iterate k x ≡ iterate (suc (k + g - 1)) x = turn x h k (omega (arith, (repeat x h).inside)) ∙ ap (λ (i : ℕ). iterate i x) (sym s) in
          let b : root (f x) ≤ iterate (k + g - 1) (f x) = root_least (f x) (closed x h) (k + g - 1) (omega arith) in
          omega (arith, a, b, e, q, r)

      pub root-less : (x : ℕ) → x < n → root x < n
      root-less x h = let (k, h1, e) = root-at x in omega (arith, iterate_less k x h, e)

      distance-found : (x : ℕ) → x < n → (distance x < n) × (iterate (distance x) x ≡ root x)
      unfolding distance
      distance-found x h =
          let (k, h1, e) = root-at x in
          let (j, l, q) = orbit_within x h k in
          let a : least (λ k. eqb (iterate k x) (root x)) n ≤ j = least_le (λ k. eqb (iterate k x) (root x)) n j (eq-eqb _ _ (q ∙ sym e)) in
          (omega arith, eqb-true _ _ (least_passes (λ k. eqb (iterate k x) (root x)) n (omega arith)))

      pub distance-less : (x : ℕ) → x < n → distance x < n
      distance-less x h = (distance-found x h).0

      pub distance-root : (x : ℕ) → x < n → iterate (distance x) x ≡ root x
      distance-root x h = (distance-found x h).1

      -- from a root the orbit is back after a period
      pub period-root : (x : ℕ) → x < n → iterate (period (root x)) (root x) ≡ root x
      unfolding period
      period-root x h = go (ltb (least (λ k. eqb (iterate (suc k) (root x)) (root x)) (n - 1)) (n - 1)) refl
        where
          back : iterate (repeat x h).gap (root x) ≡ root x
          back =
              let (k, h1, e) = root-at x in
              ap (iterate (repeat x h).gap) e ∙ sym (iterate_add k (repeat x h).gap x) ∙ sym (turn x h k (omega (arith, (repeat x h).inside))) ∙ sym e

          go : (b : Bool) → ltb (least (λ k. eqb (iterate (suc k) (root x)) (root x)) (n - 1)) (n - 1) ≡ b → iterate (suc (least (λ k. eqb (iterate (suc k) (root x)) (root x)) (n - 1))) (root x) ≡ root x
          go true e = eqb-true _ _ (least_passes (λ k. eqb (iterate (suc k) (root x)) (root x)) (n - 1) (ltb-true _ _ e))
          go false e =
              let g : ℕ = (repeat x h).gap in
              let i1 : (repeat x h).first + g ≤ n = (repeat x h).inside in
              let i2 : 0 < g = (repeat x h).positive in
              let s : suc (g - 1) ≡ g = omega arith in
              let a : least (λ k. eqb (iterate (suc k) (root x)) (root x)) (n - 1) ≤ g - 1 =
              least_le (λ k. eqb (iterate (suc k) (root x)) (root x)) (n - 1) (g - 1) (eq-eqb _ _ (ap (λ (k : ℕ). iterate k (root x)) s ∙ back)) in
              let b : n - 1 ≤ least (λ k. eqb (iterate (suc k) (root x)) (root x)) (n - 1) = ltb-false _ _ e in
              let q : suc (least (λ k. eqb (iterate (suc k) (root x)) (root x)) (n - 1)) ≡ g = omega arith in
              ap (λ (k : ℕ). iterate k (root x)) q ∙ back
