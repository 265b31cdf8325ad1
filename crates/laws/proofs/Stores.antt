-- Stores into a list of numbers, and the two ends of a pair. Assumes nothing.
use mathlib.Core.Path.{◌≡◌, refl, ap, sym, subst}
use mathlib.Core.Bool.{Bool, true, false}
use mathlib.Core.List.{List, [], ◌∷◌}
use mathlib.Core.Logic.{◌⊎◌, inl, inr}
use Prim.Native.Nat.{ℕ, zero, suc, ◌+◌, ◌≤◌, ◌<◌, min, max}
use native.Mathlib.Omega.{arith}
use lib.Dec.{leb, eqb}
use lib.ListN.{get_or, set}
use borrow.Author.Tests.{leb-true, leb-false, eqb-true, eqb-false}
use Rattle.laws.specs.Lists.{sum}

-- the lower and the higher of two numbers are the two
pub ends : (c d : ℕ) → ((min c d ≡ c) × (max c d ≡ d)) ⊎ ((min c d ≡ d) × (max c d ≡ c))
ends c d = go (leb c d) refl
  where
    go : (b : Bool) → leb c d ≡ b → ((min c d ≡ c) × (max c d ≡ d)) ⊎ ((min c d ≡ d) × (max c d ≡ c))
    go true e = inl (omega (arith, leb-true c d e), omega (arith, leb-true c d e))
    go false e = inr (omega (arith, leb-false c d e), omega (arith, leb-false c d e))

-- an element after a store: the old one, or the stored one at its place
pub set_cases : (l : List ℕ) (i v j : ℕ) → (get_or (set l i v) j 0 ≡ get_or l j 0) ⊎ ((j ≡ i) × (get_or (set l i v) j 0 ≡ v))
set_cases [] i v j = inl refl
set_cases (x ∷ xs) zero v zero = inr (refl, refl)
set_cases (x ∷ xs) zero v (suc j) = inl refl
set_cases (x ∷ xs) (suc i) v zero = inl refl
set_cases (x ∷ xs) (suc i) v (suc j) = go (set_cases xs i v j)
  where
    go : (get_or (set xs i v) j 0 ≡ get_or xs j 0) ⊎ ((j ≡ i) × (get_or (set xs i v) j 0 ≡ v)) → (get_or (set xs i v) j 0 ≡ get_or xs j 0) ⊎ ((suc j ≡ suc i) × (get_or (set xs i v) j 0 ≡ v))
    go (inl e) = inl e
    go (inr p) = inr (ap suc p.0, p.1)

-- at its own place a store is the stored number, or 0 past the end
pub set_same : (l : List ℕ) (i v : ℕ) → (get_or (set l i v) i 0 ≡ v) ⊎ (get_or (set l i v) i 0 ≡ 0)
set_same [] i v = inr refl
set_same (x ∷ xs) zero v = inl refl
set_same (x ∷ xs) (suc i) v = set_same xs i v

pub set_other : (l : List ℕ) (i v j : ℕ) → ¬ (j ≡ i) → get_or (set l i v) j 0 ≡ get_or l j 0
set_other [] i v j n = refl
set_other (x ∷ xs) zero v zero n = absurd (n refl)
set_other (x ∷ xs) zero v (suc j) n = refl
set_other (x ∷ xs) (suc i) v zero n = refl
set_other (x ∷ xs) (suc i) v (suc j) n = set_other xs i v j (λ e. n (ap suc e))

-- a property of 0, of the stored number and of the old element is one of the element after a store
pub set_ind : (P : ℕ → Type 0) (l : List ℕ) (i v j : ℕ) → P 0 → (j ≡ i → P v) → P (get_or l j 0) → P (get_or (set l i v) j 0)
set_ind P l i v j z f g = go (eqb j i) refl
  where
    here : (j ≡ i) → (get_or (set l i v) i 0 ≡ v) ⊎ (get_or (set l i v) i 0 ≡ 0) → P (get_or (set l i v) j 0)
    here q (inl e) = rw (q, e) (f q)
    here q (inr e) = rw (q, e) z

    go : (b : Bool) → eqb j i ≡ b → P (get_or (set l i v) j 0)
    go true q = here (eqb-true j i q) (set_same l i v)
    go false q = subst P (sym (set_other l i v j (eqb-false j i q))) g

-- ---- the sum of a list falls with a smaller element

pub sum-set_le : (l : List ℕ) (i v : ℕ) → v ≤ get_or l i 0 → sum (set l i v) ≤ sum l
sum-set_le [] i v h = omega arith
sum-set_le (x ∷ xs) zero v h = omega arith
sum-set_le (x ∷ xs) (suc i) v h = omega (arith, sum-set_le xs i v h)

pub sum-set_lt : (l : List ℕ) (i v : ℕ) → v < get_or l i 0 → sum (set l i v) < sum l
sum-set_lt [] i v h = omega arith
sum-set_lt (x ∷ xs) zero v h = omega arith
sum-set_lt (x ∷ xs) (suc i) v h = omega (arith, sum-set_lt xs i v h)
