-- The digits that `io` gives, the fewest that hold a number, are the number in decimal. Assumes nothing.
use mathlib.Core.Path.{◌≡◌, ap, sym, ◌∙◌, subst}
use mathlib.Core.Bool.{Bool, cond}
use mathlib.Core.List.{List, [], ◌∷◌, ◌++◌}
use Prim.Native.Nat.{ℕ, zero, suc, ◌+◌, ◌-◌, ◌/◌, ◌%◌, ◌^◌, ◌≤◌, ◌<◌}
use native.Mathlib.Omega.{arith}
use native.Mathlib.Nat.{pow-le-pow_right}
use lib.Dec.{leb, ltb}
use borrow.Author.Tests.{leb-false, leb-true, lt-ltb, le-ltb}
use Rattle.laws.proofs.Bools.{by_test}
use Rattle.io.specs.Digits.{IsDigitCount, last_digits, hex_digit_ascii}
use Rattle.writing.specs.Words.{decimal, decimal_in, digit}

glyph_digit : (d : ℕ) → d < 10 → hex_digit_ascii d ∷ [] ≡ digit d
glyph_digit d h = ap (λ (b : Bool). cond b (48 + d) (87 + d) ∷ []) (lt-ltb d 10 h)

power_above : (k : ℕ) → k < 10 ^ k
power_above zero = omega arith
power_above (suc k) = omega (arith, power_above k)

-- r + 1 digits, within any number of digits that is no less
by_digits : (r k n : ℕ) → r < k → n < 10 ^ suc r → (0 < r → 10 ^ r ≤ n) → last_digits 10 (suc r) n ≡ decimal_in k (ltb n 10) n
by_digits r zero n h l m = absurd (omega arith)
by_digits zero (suc k) n h l m =
    let e : n % 10 ≡ n = omega (arith, l) in
    ap (λ (d : ℕ). hex_digit_ascii d ∷ []) e ∙ glyph_digit n (omega (arith, l)) ∙ ap (λ (b : Bool). decimal_in (suc k) b n) (sym (lt-ltb n 10 (omega (arith, l))))
by_digits (suc r) (suc k) n h l m =
    joined (by_digits r k (n / 10) (omega arith) (omega (arith, l)) (λ p. omega (arith, m (omega arith)))) (glyph_digit (n % 10) (omega arith))
    ∙ ap (λ (b : Bool). decimal_in (suc k) b n) (sym (le-ltb n 10 (omega (arith, m (omega arith), power_positive r))))
  where
    power_positive : (j : ℕ) → 1 ≤ 10 ^ j
    power_positive j = omega (arith, power_above j)

    joined : {a b c d : List ℕ} → a ≡ b → c ≡ d → a ++ c ≡ b ++ d
    joined {a} {b} {c} {d} p q = ap (λ (x : List ℕ). x ++ c) p ∙ ap (λ (x : List ℕ). b ++ x) q

-- it has at most one digit more than its value
few_digits : (r n : ℕ) → (0 < r → 10 ^ r ≤ n) → r < suc n
few_digits zero n low = omega arith
few_digits (suc r) n low = omega (arith, power_above (suc r), low (omega arith))

pub decimal_digits : (n r : ℕ) → IsDigitCount 10 1 n r → last_digits 10 r n ≡ decimal n
unfolding decimal
decimal_digits n zero f = absurd (omega (arith, f.0))
decimal_digits n (suc r) f = by_digits r (suc n) n (few_digits r n low) f.1 low
  where
    low : 0 < r → 10 ^ r ≤ n
    low p = let e : suc r - 1 ≡ r = omega arith in subst (λ (k : ℕ). 10 ^ k ≤ n) e (f.2 (omega arith))

-- a number below 10 ^ most has at most so many digits
few-enough : (most n r : ℕ) → IsDigitCount 10 1 n r → 0 < most → n < 10 ^ most → r ≤ most
few-enough most n r f p h = by_test (leb r most) (leb-true r most) (λ e. absurd (over (leb-false r most e)))
  where
    over : most < r → ⊥
    over l = let low : 10 ^ most ≤ 10 ^ (r - 1) = pow-le-pow_right {n = 10} (omega arith) {i = most} (omega arith) in omega (arith, h, low, f.2 (omega arith))

-- a number of 32 bits has at most ten digits
pub ten_digits : (n r : ℕ) → IsDigitCount 10 1 n r → n < 4294967296 → r ≤ 10
ten_digits n r f h = few-enough 10 n r f (omega arith) (omega arith)

-- one of 63 bits, or the next, has at most nineteen
pub nineteen_digits : (n r : ℕ) → IsDigitCount 10 1 n r → n ≤ 9223372036854775808 → r ≤ 19
nineteen_digits n r f h = few-enough 19 n r f (omega arith) (omega arith)
