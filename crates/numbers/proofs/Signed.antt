-- Signed numbers of any width as the code has them: a negative v is −1 − k, and −1 − v is then k. Assumes nothing.
use mathlib.Core.Path.{◌≡◌, refl, sym, ap, subst, ◌∙◌}
use mathlib.Core.Bool.{Bool, true, false, false≢true}
use Prim.Native.Nat.{ℕ, zero, suc, ◌+◌, ◌*◌, ◌<◌, ◌^◌, ◌/◌, ◌%◌}
use native.Mathlib.Omega.{arith}
use lib.Dec.{T}
use lib.IntN.{ℤ, pos, negsuc, nat_abs, ◌-ℤ◌}
use lib.Signed.{lt_z, non_neg}
use mir.Syntax.{Width}
use mir.Val.{Fits, SFits, hbits, to_z, of_z}
use mir.ValLaws.{pow-bits}
use mir.Facts.{to_z-of_z, to_z_pos}
use borrow.Author.Tests.{ltb-true, le-ltb, eq-eqb, ne_eqb}
use Rattle.guard.specs.Number.{fold_signed, unfold_signed}

less_not_negative : (k : ℕ) → negsuc 0 -ℤ pos k ≡ negsuc k
less_not_negative zero = refl
less_not_negative (suc k) = ap negsuc (omega arith)

less_negative : (k : ℕ) → negsuc 0 -ℤ negsuc k ≡ pos k
less_negative k = rw (le-ltb (suc k) 1 (omega arith)) (ap pos (omega arith))

-- ---- the two cases of a test with 0

pub record Negative (w : Width) (v : ℤ) : Type 0 where
  pub k : ℕ
  pub is : v ≡ negsuc k
  pub small : k < 2 ^ hbits w
  pub fits : SFits w (negsuc 0 -ℤ to_z w (of_z w v))
  pub less : to_z w (of_z w (negsuc 0 -ℤ to_z w (of_z w v))) ≡ pos k

pub record NotNegative (w : Width) (v : ℤ) : Type 0 where
  pub k : ℕ
  pub is : v ≡ pos k
  pub small : k < 2 ^ hbits w
  pub same : to_z w (of_z w v) ≡ pos k

module _ {w : Width} where
  pub negative : (v : ℤ) → SFits w v → lt_z (to_z w (of_z w v)) (pos 0) ≡ true → Negative w v
  negative (pos n) f e = absurd (omega (arith, ltb-true n 0 (rw (to_z-of_z f) at e)))
  negative (negsuc k) f e =
      let d : negsuc 0 -ℤ to_z w (of_z w (negsuc k)) ≡ pos k = ap (λ (z : ℤ). negsuc 0 -ℤ z) (to_z-of_z f) ∙ less_negative k in
      let g : SFits w (pos k) = record { sfits = f.sfits } in
      record { k = k; is = refl; small = f.sfits; fits = rw d g; less = ap (λ (z : ℤ). to_z w (of_z w z)) d ∙ to_z-of_z g }

  pub not_negative : (v : ℤ) → SFits w v → lt_z (to_z w (of_z w v)) (pos 0) ≡ false → NotNegative w v
  not_negative (pos k) f e = record { k = k; is = refl; small = f.sfits; same = to_z-of_z f }
  not_negative (negsuc k) f e = let z : true ≡ false = rw (to_z-of_z f) at e in absurd (false≢true (sym z))

-- ---- −1 − k, of a number that was not negative

pub record Turned (w : Width) (k : ℕ) : Type 0 where
  pub fits : SFits w (negsuc 0 -ℤ to_z w k)
  pub is : to_z w (of_z w (negsuc 0 -ℤ to_z w k)) ≡ negsuc k

pub turned : (w : Width) (k : ℕ) → k < 2 ^ hbits w → Turned w k
turned w k h =
    let d : negsuc 0 -ℤ to_z w k ≡ negsuc k = ap (λ (z : ℤ). negsuc 0 -ℤ z) (to_z_pos w h) ∙ less_not_negative k in
    let g : SFits w (negsuc k) = record { sfits = h } in
    record { fits = rw d g; is = ap (λ (z : ℤ). to_z w (of_z w z)) d ∙ to_z-of_z g }

-- ---- the two cases of the fold

module _ (w : Width) where
  -- a number of the code that is no negative one, and its double
  pub record Doubled (z : ℤ) : Type 0 where
    pub cast : T (non_neg z) × Fits w (nat_abs z)
    pub double : Fits w (nat_abs z * 2)
    pub odd : Fits w (nat_abs z * 2 + 1)

  doubled : (k : ℕ) → k < 2 ^ hbits w → Doubled (pos k)
  doubled k h =
      record {
        cast = (tt, record { fits = omega (arith, pow-bits w) });
        double = record { fits = omega (arith, pow-bits w) };
        odd = record { fits = omega (arith, pow-bits w) };
      }

  module _ (v : ℤ) where
    -- −1 − v, and v, as the code has them
    abbrev less_one : ℤ
    less_one = to_z w (of_z w (negsuc 0 -ℤ to_z w (of_z w v)))

    abbrev same : ℤ
    same = to_z w (of_z w v)

    pub record FoldsNegative : Type 0 where
      pub fits : SFits w (negsuc 0 -ℤ same)
      pub doubles : Doubled less_one
      pub folded : nat_abs less_one * 2 + 1 ≡ fold_signed v

    pub record FoldsOther : Type 0 where
      pub doubles : Doubled same
      pub folded : nat_abs same * 2 ≡ fold_signed v

    pub folds_negative : SFits w v → lt_z same (pos 0) ≡ true → FoldsNegative
    folds_negative f e =
        let n = negative v f e in
        record {
          fits = n.fits;
          doubles = subst Doubled (sym n.less) (doubled n.k n.small);
          folded = ap (λ (z : ℤ). nat_abs z * 2 + 1) n.less ∙ omega arith ∙ ap fold_signed (sym n.is);
        }

    pub folds_other : SFits w v → lt_z same (pos 0) ≡ false → FoldsOther
    folds_other f e =
        let n = not_negative v f e in
        record {
          doubles = subst Doubled (sym n.same) (doubled n.k n.small);
          folded = ap (λ (z : ℤ). nat_abs z * 2) n.same ∙ omega arith ∙ ap fold_signed (sym n.is);
        }

-- ---- the two cases of the unfolding

module _ (w : Width) (n : ℕ) (h : n / 2 < 2 ^ hbits w) where
  pub less-fits : SFits w (negsuc 0 -ℤ to_z w (n / 2))
  less-fits = (turned w (n / 2) h).fits

  case : Bool → ℤ
  case b = elim b [ true ↦ pos (n / 2) | false ↦ negsuc (n / 2) ]

  pub unfold_even : n % 2 ≡ 0 → to_z w (n / 2) ≡ unfold_signed n
  unfolding case
  unfold_even e = to_z_pos w h ∙ sym (ap case (eq-eqb _ _ e))

  pub unfold_odd : ¬ (n % 2 ≡ 0) → to_z w (of_z w (negsuc 0 -ℤ to_z w (n / 2))) ≡ unfold_signed n
  unfolding case
  unfold_odd e = (turned w (n / 2) h).is ∙ sym (ap case (ne_eqb _ _ e))
