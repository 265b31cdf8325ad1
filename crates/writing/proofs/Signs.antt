-- A signed number by what the file would write for it: an even number is twice the value, an odd one is twice what lies below
-- −1, and one. Assumes nothing.
use mathlib.Core.Path.{◌≡◌, ap, sym, ◌∙◌}
use mathlib.Core.List.{◌++◌}
use Prim.Native.Nat.{ℕ, suc, ◌+◌, ◌*◌, ◌/◌, ◌%◌}
use native.Mathlib.Omega.{arith}
use lib.IntN.{ℤ, pos, negsuc}
use Rattle.guard.specs.Number.{fold_signed}
use Rattle.writing.specs.Words.{ascii, decimal, signed}

pub half_even : (n k : ℕ) → n ≡ 2 * k → n / 2 ≡ k
half_even n k e = omega (arith, e)

pub half_odd : (n k : ℕ) → n ≡ 2 * k + 1 → n / 2 ≡ k
half_odd n k e = omega (arith, e)

pub signed_even : (z : ℤ) (n : ℕ) → n ≡ fold_signed z → n % 2 ≡ 0 → decimal (n / 2) ≡ signed z
unfolding signed
signed_even (pos k) n e h = ap decimal (half_even n k e)
signed_even (negsuc k) n e h = absurd (omega (arith, e, h))

pub signed_odd : (z : ℤ) (n : ℕ) → n ≡ fold_signed z → ¬ (n % 2 ≡ 0) → ascii "-" ++ decimal (n / 2 + 1) ≡ signed z
unfolding signed
signed_odd (pos k) n e h = absurd (h (omega (arith, e)))
signed_odd (negsuc k) n e h = let m : n / 2 + 1 ≡ suc k = omega (arith, e) in ap (λ (j : ℕ). ascii "-" ++ decimal j) m

-- by its sign
pub signed_above : (z : ℤ) (k n : ℕ) → z ≡ pos k → n ≡ k → decimal n ≡ signed z
unfolding signed
signed_above z k n e h = ap decimal h ∙ ap signed (sym e)

pub signed_below : (z : ℤ) (k n : ℕ) → z ≡ negsuc k → n ≡ suc k → ascii "-" ++ decimal n ≡ signed z
unfolding signed
signed_below z k n e h = ap (λ (j : ℕ). ascii "-" ++ decimal j) h ∙ ap signed (sym e)
