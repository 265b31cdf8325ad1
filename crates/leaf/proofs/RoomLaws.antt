-- The rows that free classes take, class by class: a free class takes its growth, any other none, so the sum rises. Where only
-- the first so many of two blocks of numbers are free, no more than these count. Assumes nothing.
use mathlib.Core.Path.{◌≡◌, refl, ap, subst, sym}
use mathlib.Core.Bool.{Bool, true, false, cond}
use mathlib.Core.Logic.{◌⊎◌, inl, inr}
use Prim.Native.Nat.{ℕ, zero, suc, ◌+◌, ◌*◌, ◌-◌, ◌≤◌, ◌<◌, min}
use native.Mathlib.Nat.{mul-le-mul}
use native.Mathlib.Omega.{arith}
use lib.Dec.{leb}
use borrow.Author.Tests.{leb-false, leb-true}
use Rattle.laws.proofs.Bools.{by_test}
use Rattle.drawnrows.specs.Drawing.{growth_rows}
use Rattle.plans.specs.Plans.{OpenState, highest_rank, is_free}
use Rattle.leaf.specs.Sheet.{free_rows}

module _ (x : OpenState) where
  abbrev grows : ℕ
  grows = growth_rows x.types (highest_rank x)

  pub none-take : free_rows x 0 ≡ 0
  unfolding free_rows
  none-take = refl

  pub free_takes : (c : ℕ) → is_free x c ≡ true → free_rows x (suc c) ≡ free_rows x c + growth_rows x.types (highest_rank x)
  unfolding free_rows
  free_takes c e = ap (λ (b : Bool). free_rows x c + cond b grows 0) e

  pub fixed_takes : (c : ℕ) → is_free x c ≡ false → free_rows x (suc c) ≡ free_rows x c
  unfolding free_rows
  fixed_takes c e = let z : free_rows x (suc c) ≡ free_rows x c + 0 = ap (λ (b : Bool). free_rows x c + cond b grows 0) e in omega arith

  rises_once : (c : ℕ) → free_rows x c ≤ free_rows x (suc c)
  rises_once c = by_test (is_free x c) (λ b. omega (arith, free_takes c b)) (λ b. omega (arith, fixed_takes c b))

  -- more classes take no fewer
  pub rows_rise : (n c : ℕ) → c ≤ n → free_rows x c ≤ free_rows x n
  rows_rise zero c h = let e : c ≡ 0 = omega arith in subst (λ (k : ℕ). free_rows x k ≤ free_rows x 0) (sym e) (omega arith)
  rows_rise (suc n) c h =
      by_test (leb c n) (λ b. omega (arith, rows_rise n c (leb-true c n b), rises_once n))
      (λ b. let e : c ≡ suc n = omega (arith, leb-false c n b) in subst (λ (k : ℕ). free_rows x k ≤ free_rows x (suc n)) (sym e) (omega arith))

  -- ---- free classes within two blocks: the first n numbers, and the first m from 24 on

  module _ (n m cost : ℕ) (most : growth_rows x.types (highest_rank x) ≤ cost) where
    abbrev passed : ℕ → ℕ
    passed c = min c n + min (c - 24) m

    abbrev Within : ℕ → Type 0
    Within c = (c < n) ⊎ ((24 ≤ c) × (c < 24 + m))

    one_more : (c : ℕ) → Within c → suc (passed c) ≤ passed (suc c)
    one_more c (inl h) = omega arith
    one_more c (inr (l, h)) = omega arith

    pub free-rows-few : ((c : ℕ) → c < 78 → is_free x c ≡ true → (c < n) ⊎ ((24 ≤ c) × (c < 24 + m))) → (c : ℕ) → c ≤ 78 → free_rows x c ≤ cost * passed c
    free-rows-few inside zero h = omega (arith, none-take)
    free-rows-few inside (suc c) h =
        let ih : free_rows x c ≤ cost * passed c = free-rows-few inside c (omega arith) in
        by_test (is_free x c)
        (λ b. let more : cost * suc (passed c) ≤ cost * passed (suc c) = mul-le-mul {n₁ = cost} {m₁ = suc (passed c)} {n₂ = cost} {m₂ = passed (suc c)} (omega arith) (one_more c (inside c (omega arith) b)) in
        let split : cost * suc (passed c) ≡ cost * passed c + cost = omega arith in
        omega (arith, free_takes c b, ih, more, split, most))
        (λ b. let more : cost * passed c ≤ cost * passed (suc c) = mul-le-mul {n₁ = cost} {m₁ = passed c} {n₂ = cost} {m₂ = passed (suc c)} (omega arith) (omega arith) in
        omega (arith, fixed_takes c b, ih, more))

    -- of all classes
    pub all-rows-few : ((c : ℕ) → c < 78 → is_free x c ≡ true → (c < n) ⊎ ((24 ≤ c) × (c < 24 + m))) → free_rows x 78 ≤ cost * (n + m)
    all-rows-few inside =
        let most-passed : cost * passed 78 ≤ cost * (n + m) = mul-le-mul {n₁ = cost} {m₁ = passed 78} {n₂ = cost} {m₂ = n + m} (omega arith) (omega arith) in
        omega (arith, free-rows-few inside 78 (omega arith), most-passed)
