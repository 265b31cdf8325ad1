-- The mask of the fieldless variants, made variant by variant. Assumes nothing.
use mathlib.Core.Path.{◌≡◌, refl, ap, sym, ◌∙◌}
use mathlib.Core.Bool.{Bool, true, false, cond}
use mathlib.Core.List.{List, [], ◌∷◌, ◌++◌, map}
use Prim.Native.Nat.{ℕ, zero, suc, ◌+◌, ◌^◌, ◌≤◌, ◌<◌}
use native.Mathlib.Nat.{zero-add}
use native.Mathlib.Numerals.{add-one}
use native.Mathlib.Omega.{arith}
use lib.Dec.{eqb, ltb}
use lib.ListN.{get_or}
use lib.Pow.{pow-add, pow-lt}
use borrow.Author.Tests.{ltb-true, ltb-false}
use Rattle.laws.specs.Lists.{from, sum}
use Rattle.laws.proofs.Bools.{by_test}
use Rattle.laws.proofs.Lists.{map-from_snoc}
use Rattle.columns.specs.Entries.{bit_of}
use Rattle.columns.proofs.EntryLaws.{bit_is}
use Rattle.sortcolumn.specs.Sorts.{fieldless_bit, fieldless_mask}

-- the fieldless variants, one after the other

module _ (arities : List ℕ) (start : ℕ) where
  sum-last : (xs : List ℕ) (x : ℕ) → sum (xs ++ (x ∷ [])) ≡ sum xs + x
  sum-last [] x = omega arith
  sum-last (y ∷ xs) x = omega (arith, sum-last xs x)

  pub mask_none : 0 ≡ fieldless_mask arities start 0
  unfolding fieldless_mask
  mask_none = refl

  pub mask_next : (v : ℕ) → fieldless_mask arities start v + fieldless_bit arities start v ≡ fieldless_mask arities start (v + 1)
  unfolding fieldless_mask
  mask_next v =
      let f : ℕ → ℕ = fieldless_bit arities start in
      sym (ap (λ (n : ℕ). sum (map f (from n 0))) (add-one v) ∙ ap sum (map-from_snoc f v 0) ∙ sum-last (map f (from v 0)) (f (0 + v)) ∙ ap (λ (k : ℕ). sum (map f (from v 0)) + f k) (zero-add v))

  bit-most : (v : ℕ) → v < 16 → fieldless_bit arities start v ≤ 2 ^ v
  unfolding fieldless_bit
  bit-most v h = go (eqb (get_or arities (start + v) 0) 0)
    where
      go : (b : Bool) → cond b (bit_of v) 0 ≤ 2 ^ v
      go true = omega (arith, bit_is v h)
      go false = omega arith

  -- below the next variant's bit
  pub mask_small : (v : ℕ) → v ≤ 16 → fieldless_mask arities start v < 2 ^ v
  mask_small zero h = omega (arith, mask_none)
  mask_small (suc v) h =
      let e : suc v ≡ v + 1 = omega arith in
      omega (arith, ap (fieldless_mask arities start) e, mask_next v, mask_small v (omega arith), bit-most v (omega arith), pow-add 2 1 v)

  pub mask_fits : (v n : ℕ) → v < n → n ≤ 16 → fieldless_mask arities start v + fieldless_bit arities start v < 65536
  mask_fits v n h l = omega (arith, mask_next v, mask_small (v + 1) (omega arith), most (v + 1) (omega arith))
    where
      most : (k : ℕ) → k ≤ 16 → 2 ^ k ≤ 65536
      most k l =
          by_test (ltb k 16) (λ b. omega (arith, pow-lt {i = k} {j = 16} (ltb-true k 16 b)))
          (λ b. let e : k ≡ 16 = omega (arith, ltb-false k 16 b) in omega (arith, ap (λ (n : ℕ). 2 ^ n) e))

pub ruleset mask_steps = (mask_none, mask_next, mask_fits)
