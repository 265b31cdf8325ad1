-- Each test of a split, case by case as the code tells them apart. Assumes nothing.
use mathlib.Core.Path.{◌≡◌, ap, ap₂, sym, ◌∙◌}
use mathlib.Core.Bool.{Bool, true, false, not, ◌&&◌}
use mathlib.Core.List.{List}
use Prim.Native.Nat.{ℕ, ◌^◌, ◌≤◌, ◌<◌}
use lib.Dec.{eqb}
use borrow.Author.Tests.{le-ltb, lt-ltb}
use Rattle.laws.specs.Bits.{bit}
use Rattle.guard.specs.Closure.{State, label_of}
use Rattle.guard.specs.Limits.{variant_limit}
use Rattle.guard.specs.Node.{holds_another}
use Rattle.loops.proofs.Tests.{and_no, no_and, yes_and}
use Rattle.splitclaims.specs.SplitClaims.{is_term, splits_by}

module _ (sorts : List ℕ) (s : State) (x v : ℕ) where
  pub no-split : is_term sorts x ≡ false → false ≡ splits_by sorts s x v
  unfolding splits_by
  no-split e = no_and _ e

  pub variant-past : variant_limit ≤ v → false ≡ splits_by sorts s x v
  unfolding splits_by
  variant-past h = and_no (is_term sorts x) (ap (λ (b : Bool). b && holds_another s x v) (le-ltb v variant_limit h))

  module _ (there : is_term sorts x ≡ true) (small : v < variant_limit) (label : ℕ) (is : label ≡ label_of s x) where
    by_label : (b : Bool) → b ≡ holds_another s x v → b ≡ splits_by sorts s x v
    unfolding splits_by
    by_label b e = e ∙ yes_and _ (lt-ltb v variant_limit small) ∙ yes_and _ there

    pub lacks_it : eqb (bit label v) 0 ≡ true → false ≡ splits_by sorts s x v
    lacks_it e = by_label false (no_and _ (ap not (sym (ap (λ (m : ℕ). eqb (bit m v) 0) is) ∙ e)))

    pub holds_it : eqb (bit label v) 0 ≡ false → (one : ℕ) → one ≡ 2 ^ v → not (eqb label one) ≡ splits_by sorts s x v
    holds_it e one o = by_label _ (ap not (ap₂ eqb is o) ∙ yes_and _ (ap not (sym (ap (λ (m : ℕ). eqb (bit m v) 0) is) ∙ e)))
