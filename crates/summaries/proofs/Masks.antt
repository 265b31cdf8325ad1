-- The bits of a mask made of a test: bit v is set exactly if v is below the count and passes. Assumes nothing.
use mathlib.Core.Path.{◌≡◌, refl, ap, sym, ◌∙◌}
use mathlib.Core.Bool.{Bool, true, false, cond}
use Prim.Native.Nat.{ℕ, zero, suc, ◌+◌, ◌-◌, ◌*◌, ◌/◌, ◌%◌, ◌^◌, ◌≤◌, ◌<◌}
use native.Mathlib.Nat.{add-div_right, add-mul-div_right, add-zero, div-eq_of_lt, lt_of_lt_of_le, pow-suc}
use native.Mathlib.Omega.{arith}
use lib.Dec.{ltb}
use lib.Pow.{pow-add, pow_mono, pow_pos}
use borrow.Author.Tests.{ltb-false, ltb-true}
use Rattle.laws.specs.Bits.{bit}
use Rattle.laws.proofs.Bools.{by_test}
use Rattle.summaries.specs.Summary.{mask_of}

-- the bit of a test
abbrev pub one_if : Bool → ℕ
one_if b = cond b 1 0

-- ---- one bit put in front

small_clear : (m v : ℕ) → m < 2 ^ v → bit m v ≡ 0
small_clear m v h = ap (λ (x : ℕ). x % 2) (div-eq_of_lt h)

top_bit : (m n : ℕ) → m < 2 ^ n → bit (m + 2 ^ n) n ≡ 1
top_bit m n h = ap (λ (x : ℕ). x % 2) (add-div_right m (pow_pos n) ∙ ap (λ (x : ℕ). x + 1) (div-eq_of_lt h))

lower-bit : (m n v : ℕ) → v < n → bit (m + 2 ^ n) v ≡ bit m v
lower-bit m n v h =
    let k : ℕ = n - suc v in
    let e : n ≡ suc k + v = omega arith in
    let power : 2 ^ n ≡ 2 ^ suc k * 2 ^ v = ap (λ (x : ℕ). 2 ^ x) e ∙ pow-add 2 (suc k) v in
    let q : (m + 2 ^ n) / 2 ^ v ≡ m / 2 ^ v + 2 ^ suc k = ap (λ (x : ℕ). (m + x) / 2 ^ v) power ∙ add-mul-div_right m (2 ^ suc k) (pow_pos v) in
    ap (λ (x : ℕ). x % 2) q ∙ even (m / 2 ^ v) (2 ^ k) (2 ^ suc k) (pow-suc 2 k)
  where
    even : (x y z : ℕ) → z ≡ y * 2 → (x + z) % 2 ≡ x % 2
    even x y z e = omega arith

-- ---- the mask

module _ (p : ℕ → Bool) where
  pub mask_small : (n : ℕ) → mask_of p n < 2 ^ n
  mask_small zero = omega arith
  mask_small (suc n) = go (p n) (mask_small n)
    where
      go : (b : Bool) → mask_of p n < 2 ^ n → mask_of p n + cond b (2 ^ n) 0 < 2 ^ suc n
      go true h = omega (arith, pow-suc 2 n)
      go false h = omega (arith, pow-suc 2 n)

  pub mask_past : (n v : ℕ) → n ≤ v → bit (mask_of p n) v ≡ 0
  mask_past n v h = small_clear (mask_of p n) v (lt_of_lt_of_le (mask_small n) (pow_mono h))

  pub mask_bit : (n v : ℕ) → v < n → bit (mask_of p n) v ≡ one_if (p v)
  mask_bit zero v h = absurd (omega arith)
  mask_bit (suc n) v h =
      by_test (ltb v n)
      (λ e. lower (p n) (ltb-true v n e) ∙ mask_bit n v (ltb-true v n e))
      (λ e. let q : n ≡ v = omega (arith, ltb-false v n e) in ap (bit (mask_of p (suc n))) (sym q) ∙ top (p n) ∙ ap (λ (x : ℕ). one_if (p x)) q)
    where
      lower : (b : Bool) → v < n → bit (mask_of p n + cond b (2 ^ n) 0) v ≡ bit (mask_of p n) v
      lower true l = lower-bit (mask_of p n) n v l
      lower false l = ap (λ (x : ℕ). bit x v) (add-zero (mask_of p n))

      top : (b : Bool) → bit (mask_of p n + cond b (2 ^ n) 0) n ≡ one_if b
      top true = top_bit (mask_of p n) n (mask_small n)
      top false = ap (λ (x : ℕ). bit x n) (add-zero (mask_of p n)) ∙ small_clear (mask_of p n) n (mask_small n)

-- equal tests, equal masks
pub mask_same : (p q : ℕ → Bool) (n : ℕ) → ((v : ℕ) → v < n → p v ≡ q v) → mask_of p n ≡ mask_of q n
mask_same p q zero e = refl
mask_same p q (suc n) e = ap (λ (x : ℕ). x + cond (p n) (2 ^ n) 0) (mask_same p q n (λ v h. e v (omega arith))) ∙ ap (λ (b : Bool). mask_of q n + cond b (2 ^ n) 0) (e n (omega arith))
