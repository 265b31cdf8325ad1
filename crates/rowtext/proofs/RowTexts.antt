-- What a row says: its parts, if it has any; and by its first number, as the file would write it, a message or a number.
-- Assumes nothing.
use mathlib.Core.Path.{◌≡◌, refl, ap}
use mathlib.Core.List.{List, [], ◌++◌}
use Prim.Native.Nat.{ℕ, zero, suc, ◌+◌, ◌/◌, ◌%◌}
use native.Mathlib.Omega.{arith}
use lib.IntN.{ℤ, pos, negsuc}
use Rattle.laws.specs.Lists.{concat_map, from}
use Rattle.guard.specs.Number.{fold_signed}
use Rattle.writing.specs.Words.{ascii, number_text}
use Rattle.writing.proofs.Signs.{half_even, half_odd}
use Rattle.rowtext.specs.Rows.{made_text, parts_text, row_by, value_text}

module _ (rows : List ℤ) (j : ℕ) where
  pub no-parts : (many : ℕ) → many ≡ 0 → parts_text rows j many ≡ []
  unfolding parts_text
  no-parts many e = rw e refl

  pub some-parts : (many p : ℕ) → ¬ (many ≡ 0) → p ≡ many → parts_text rows j many ≡ ascii " parts" ++ concat_map (number_text rows) (from p j)
  unfolding parts_text
  some-parts zero p n e = absurd (n refl)
  some-parts (suc many) p n e = rw e refl

module _ (arity : ℕ → ℕ → ℕ) (rows : List ℤ) (at : ℕ) where
  pub row_even : (z : ℤ) (n : ℕ) → n ≡ fold_signed z → n % 2 ≡ 0 → made_text arity rows (at + 1) (n / 2) ≡ row_by arity rows at z
  unfolding row_by
  row_even (pos k) n e h = ap (made_text arity rows (at + 1)) (half_even n k e)
  row_even (negsuc k) n e h = absurd (omega (arith, e, h))

  pub row_odd : (z : ℤ) (n : ℕ) → n ≡ fold_signed z → ¬ (n % 2 ≡ 0) → value_text rows (at + 1) (n / 2) ≡ row_by arity rows at z
  unfolding row_by
  row_odd (pos k) n e h = absurd (h (omega (arith, e)))
  row_odd (negsuc k) n e h = ap (value_text rows (at + 1)) (half_odd n k e)
