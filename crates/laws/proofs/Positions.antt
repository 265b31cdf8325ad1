-- The least number that passes a test, and tests of a list by position. Assumes nothing.
use mathlib.Core.Path.{◌≡◌, refl, sym, ◌∙◌}
use mathlib.Core.Bool.{Bool, true, false, ◌&&◌, ◌||◌, cond, false≢true}
use mathlib.Core.List.{List, [], ◌∷◌}
use Prim.Native.Nat.{ℕ, zero, suc, ◌≤◌, ◌<◌}
use native.Mathlib.Omega.{arith}
use lib.ListN.{length, get_or}
use Rattle.laws.specs.Lists.{all, any}
use Rattle.laws.proofs.Bools.{and_left, and_right, and_both}

-- the least number below n where the test passes, or n
abbrev pub least : (ℕ → Bool) → ℕ → ℕ
least p zero = 0
least p (suc n) = cond (p 0) 0 (suc (least (λ k. p (suc k)) n))

pub least_most : (p : ℕ → Bool) (n : ℕ) → least p n ≤ n
least_most p zero = omega arith
least_most p (suc n) = go (p 0) (least_most (λ k. p (suc k)) n)
  where
    go : (b : Bool) → least (λ k. p (suc k)) n ≤ n → cond b 0 (suc (least (λ k. p (suc k)) n)) ≤ suc n
    go true h = omega arith
    go false h = omega arith

pub least_passes : (p : ℕ → Bool) (n : ℕ) → least p n < n → p (least p n) ≡ true
least_passes p zero h = absurd (omega arith)
least_passes p (suc n) h = go (least_passes (λ k. p (suc k)) n) (p 0) refl h
  where
    go : (least (λ k. p (suc k)) n < n → p (suc (least (λ k. p (suc k)) n)) ≡ true) → (b : Bool) → p 0 ≡ b → cond b 0 (suc (least (λ k. p (suc k)) n)) < suc n
        → p (cond b 0 (suc (least (λ k. p (suc k)) n))) ≡ true
    go ih true q l = q
    go ih false q l = ih (omega arith)

-- it passes nowhere below
pub least_first : (p : ℕ → Bool) (n k : ℕ) → k < least p n → p k ≡ false
least_first p zero k h = absurd (omega arith)
least_first p (suc n) k h = go (least_first (λ k. p (suc k)) n) (p 0) refl k h
  where
    go : ((k : ℕ) → k < least (λ k. p (suc k)) n → p (suc k) ≡ false) → (b : Bool) → p 0 ≡ b → (k : ℕ) → k < cond b 0 (suc (least (λ k. p (suc k)) n)) → p k ≡ false
    go ih true q k l = absurd (omega arith)
    go ih false q zero l = q
    go ih false q (suc k) l = ih k (omega arith)

pub least_le : (p : ℕ → Bool) (n k : ℕ) → p k ≡ true → least p n ≤ k
least_le p zero k e = omega arith
least_le p (suc n) k e = go (least_le (λ k. p (suc k)) n) (p 0) refl k e
  where
    go : ((k : ℕ) → p (suc k) ≡ true → least (λ k. p (suc k)) n ≤ k) → (b : Bool) → p 0 ≡ b → (k : ℕ) → p k ≡ true → cond b 0 (suc (least (λ k. p (suc k)) n)) ≤ k
    go ih true q k r = omega arith
    go ih false q zero r = absurd (false≢true (sym q ∙ r))
    go ih false q (suc k) r = omega (arith, ih k r)

-- ---- tests of lists by position

module _ {A : Type 0} (p : A → Bool) where
  pub all_true_at : (xs : List A) (k : ℕ) (d : A) → all p xs ≡ true → k < length xs → p (get_or xs k d) ≡ true
  all_true_at [] k d e h = absurd (omega arith)
  all_true_at (x ∷ xs) zero d e h = and_left (p x) (all p xs) e
  all_true_at (x ∷ xs) (suc k) d e h = all_true_at xs k d (and_right (p x) (all p xs) e) (omega arith)

  pub all_true_from : (xs : List A) (d : A) → ((k : ℕ) → k < length xs → p (get_or xs k d) ≡ true) → all p xs ≡ true
  all_true_from [] d h = refl
  all_true_from (x ∷ xs) d h = and_both (p x) (all p xs) (h 0 (omega arith)) (all_true_from xs d (λ k l. h (suc k) (omega arith)))

  pub all_false_at : (xs : List A) (d : A) → all p xs ≡ false → (k : ℕ) × (k < length xs) × (p (get_or xs k d) ≡ false)
  all_false_at [] d e = absurd (false≢true (sym e))
  all_false_at (x ∷ xs) d e = go (all_false_at xs d) (p x) refl e
    where
      go : (all p xs ≡ false → (k : ℕ) × (k < length xs) × (p (get_or xs k d) ≡ false)) → (b : Bool) → p x ≡ b → (b && all p xs) ≡ false
          → (k : ℕ) × (k < length (x ∷ xs)) × (p (get_or (x ∷ xs) k d) ≡ false)
      go ih true q r = let (k, l, h) = ih r in (suc k, omega arith, h)
      go ih false q r = (0, omega arith, q)

  pub any_true_at : (xs : List A) (d : A) → any p xs ≡ true → (k : ℕ) × (k < length xs) × (p (get_or xs k d) ≡ true)
  any_true_at [] d e = absurd (false≢true e)
  any_true_at (x ∷ xs) d e = go (any_true_at xs d) (p x) refl e
    where
      go : (any p xs ≡ true → (k : ℕ) × (k < length xs) × (p (get_or xs k d) ≡ true)) → (b : Bool) → p x ≡ b → (b || any p xs) ≡ true
          → (k : ℕ) × (k < length (x ∷ xs)) × (p (get_or (x ∷ xs) k d) ≡ true)
      go ih true q r = (0, omega arith, q)
      go ih false q r = let (k, l, h) = ih r in (suc k, omega arith, h)

-- a test that passes where another one does passes at all elements where the other does
pub all_true_weaken : {A : Type 0} (p q : A → Bool) (xs : List A) → ((x : A) → p x ≡ true → q x ≡ true) → all p xs ≡ true → all q xs ≡ true
all_true_weaken p q [] h e = refl
all_true_weaken p q (x ∷ xs) h e = and_both (q x) (all q xs) (h x (and_left (p x) (all p xs) e)) (all_true_weaken p q xs h (and_right (p x) (all p xs) e))
