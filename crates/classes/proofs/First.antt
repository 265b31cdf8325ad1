-- Classes that each hold one term alone: those of the first state. Assumes nothing.
use mathlib.Core.Path.{◌≡◌, ap, sym, ◌∙◌}
use mathlib.Core.List.{List}
use Prim.Native.Nat.{ℕ, ◌<◌}
use native.Mathlib.Nat.{zero-add}
use native.Mathlib.Omega.{arith}
use lib.Dec.{ltb}
use lib.ListN.{get_or-eq_default, get_or, length, replicate}
use lib.Seq.{ext_get_or}
use borrow.Author.Tests.{ltb-false, ltb-true}
use Rattle.laws.specs.Lists.{from}
use Rattle.laws.proofs.Bools.{by_test}
use Rattle.laws.proofs.Lists.{from_at, from-length}
use Rattle.guard.specs.Closure.{every_variant}
use Rattle.guard.proofs.ClosureEnds.{first}
use Rattle.guard.proofs.ClosureState.{Small, first_small}
use Rattle.classes.specs.Held.{Kept, state}

module _ (cs : List ℕ) (long : length cs ≡ 96) (own : (i : ℕ) → i < 96 → get_or cs i 0 ≡ i) where
  pub own_classes : state cs (replicate 96 every_variant) ≡ first 96
  unfolding first
  own_classes =
      ap (λ (xs : List ℕ). state xs (replicate 96 every_variant))
      (ext_get_or 0 cs (from 96 0) (long ∙ sym (from-length 96 0)) (λ i b. let h : i < 96 = omega (arith, long) in own i h ∙ sym (from_at 96 0 i 0 h ∙ zero-add i)))

  pub own_classes_kept : Kept cs (replicate 96 65535)
  unfolding Small first
  own_classes_kept =
      record {
        held = record {
          long = long;
          there = λ i. by_test (ltb i 96) (λ e. omega (arith, own i (ltb-true i 96 e), ltb-true i 96 e))
              (λ e. omega (arith, get_or-eq_default cs 0 {n = i} (omega (arith, long, ltb-false i 96 e))));
        };
        small = λ c. first_small 96 c;
      }
