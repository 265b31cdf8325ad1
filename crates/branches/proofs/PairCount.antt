-- How many pairs a procedure has: at most 28. Assumes nothing.
use mathlib.Core.Path.{◌≡◌, refl, ap, sym, subst, ◌∙◌}
use mathlib.Core.List.{List, [], ◌∷◌, ◌++◌, map}
use Prim.Native.Nat.{ℕ, zero, suc, ◌+◌, ◌-◌, ◌≤◌}
use native.Mathlib.Omega.{arith}
use lib.ListN.{length, length-append, length-map}
use Rattle.guard.specs.Guard.{Literal}
use Rattle.branches.specs.Procedure.{branch_limit}
use Rattle.branches.specs.Verdicts.{pairs}

-- of so many branches
abbrev pub pair_count : ℕ → ℕ
pair_count zero = 0
pair_count (suc n) = n + pair_count n

count_rises : (m n : ℕ) → pair_count n ≤ pair_count (m + n)
count_rises zero n = let e : n ≡ 0 + n = omega arith in subst (λ (k : ℕ). pair_count n ≤ pair_count k) e (omega arith)
count_rises (suc m) n = let e : suc (m + n) ≡ suc m + n = omega arith in subst (λ (k : ℕ). pair_count n ≤ pair_count k) e (omega (arith, count_rises m n))

pub few-counted : (n : ℕ) → n ≤ branch_limit → pair_count n ≤ 28
few-counted n h =
    let e : (branch_limit - n) + n ≡ branch_limit = omega arith in
    subst (λ (k : ℕ). pair_count n ≤ pair_count k) e (count_rises (branch_limit - n) n)

pairs-length : (bs : List (List Literal)) → length (pairs bs) ≡ pair_count (length bs)
pairs-length [] = refl
pairs-length (ls ∷ rest) =
    length-append (map (λ ms. ls ++ ms) rest) (pairs rest) ∙ ap (λ (k : ℕ). k + length (pairs rest)) (length-map rest (λ ms. ls ++ ms)) ∙ ap (λ (k : ℕ). length rest + k) (pairs-length rest)

pub few-pairs : (bs : List (List Literal)) → length bs ≤ branch_limit → length (pairs bs) ≤ 28
few-pairs bs h = omega (arith, pairs-length bs, few-counted (length bs) h)
