-- Groups in two halves: those behind the fifth count 128 to the fifth times as much. Assumes nothing.
use mathlib.Core.Path.{◌≡◌, ap, sym, ◌∙◌}
use mathlib.Core.Bool.{true}
use mathlib.Core.List.{List, [], ◌∷◌, ◌++◌}
use Prim.Native.Nat.{ℕ, zero, suc, ◌+◌, ◌-◌, ◌*◌, ◌^◌, ◌≤◌, ◌<◌}
use native.Mathlib.Omega.{arith}
use native.Mathlib.Nat.{mul_right_comm, pow-suc}
use lib.Dec.{leb, ltb}
use lib.ListN.{length, take, drop, length-drop, length-take, take-append-drop}
use lib.Seq.{take_all}
use borrow.Author.Tests.{le-leb, lt-leb, ltb-false, ltb-true}
use Rattle.laws.proofs.Bools.{by_test}
use Rattle.guard.specs.Number.{value_of_groups}

value-append : (gs hs : List ℕ) → value_of_groups (gs ++ hs) ≡ value_of_groups gs + 128 ^ length gs * value_of_groups hs
value-append [] hs = omega arith
value-append (g ∷ gs) hs =
    let weight : 128 ^ suc (length gs) * value_of_groups hs ≡ 128 ^ length gs * value_of_groups hs * 128 =
    ap (λ (k : ℕ). k * value_of_groups hs) (pow-suc 128 (length gs)) ∙ mul_right_comm (128 ^ length gs) 128 (value_of_groups hs) in
    omega (arith, value-append gs hs)

-- each group has seven bits
value-below : (n : ℕ) (gs : List ℕ) → length gs ≤ n → value_of_groups gs < 128 ^ n
value-below zero [] h = omega arith
value-below (suc n) [] h = omega (arith, pow-suc 128 n, value-below n [] (omega arith))
value-below zero (g ∷ gs) h = absurd (omega arith)
value-below (suc n) (g ∷ gs) h = omega (arith, pow-suc 128 n, value-below n gs (omega arith))

-- the second half, as a part of the slice
pub second : (l : List ℕ) → take (length l - 5) (drop 5 l) ≡ drop 5 l
second l = take_all (length l - 5) (drop 5 l) (omega (arith, length-drop 5 l))

-- up to five groups have 35 bits
pub fits-short : (l : List ℕ) → length l ≤ 5 → true ≡ leb (value_of_groups l) 18446744073709551615
fits-short l h = sym (le-leb (value_of_groups l) 18446744073709551615 (omega (arith, value-below 5 l h)))

module _ (l : List ℕ) (long : 5 < length l) where
  pub first : length (take 5 l) ≡ 5
  first = omega (arith, length-take 5 l)

  pub halves : value_of_groups l ≡ value_of_groups (take 5 l) + 34359738368 * value_of_groups (drop 5 l)
  halves =
      ap value_of_groups (sym (take-append-drop 5 l)) ∙ value-append (take 5 l) (drop 5 l)
      ∙ ap (λ (k : ℕ). value_of_groups (take 5 l) + 128 ^ k * value_of_groups (drop 5 l)) first

  low_small : value_of_groups (take 5 l) < 34359738368
  low_small = value-below 5 (take 5 l) (omega (arith, first))

  -- the groups behind the fifth have 29 bits left
  pub fits-long : ltb (value_of_groups (drop 5 l)) 536870912 ≡ leb (value_of_groups l) 18446744073709551615
  fits-long =
      let high = value_of_groups (drop 5 l) in
      by_test (ltb high 536870912)
      (λ t. t ∙ sym (le-leb (value_of_groups l) 18446744073709551615 (omega (arith, halves, low_small, ltb-true high 536870912 t))))
      (λ t. t ∙ sym (lt-leb (value_of_groups l) 18446744073709551615 (omega (arith, halves, ltb-false high 536870912 t))))
