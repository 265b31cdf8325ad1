-- The number that falls: the total of the label sizes of all terms. Saturation does not raise it, and a decision on a
-- term whose label holds the variant and another one lowers it. Assumes nothing.
use mathlib.Core.Path.{◌≡◌, ap, sym, ◌∙◌}
use mathlib.Core.Bool.{true}
use mathlib.Core.List.{map}
use mathlib.Core.Logic.{⊎_elim}
use Prim.Native.Nat.{ℕ, ◌-◌, ◌*◌, ◌^◌, ◌≤◌, ◌<◌}
use native.Mathlib.Nat.{one-mul}
use native.Mathlib.Omega.{arith}
use lib.Bits.{bit_and}
use lib.Count.{ones}
use lib.ListN.{length}
use lib.Seq.{get_or-set_same}
use Rattle.laws.specs.Bits.{bit}
use Rattle.laws.specs.Lists.{from, sum}
use Rattle.laws.proofs.Bits.{and_one, bit_and_lem, but_own, sub_less, sub_ones}
use Rattle.laws.proofs.Lists.{mem_from, sum-map_le, sum-map_lt}
use Rattle.guard.specs.Closure.{Fact.within, State, add, class_of, every_variant, label_of}
use Rattle.guard.specs.Limits.{variant_limit}
use Rattle.guard.specs.Node.{holds_another}
use Rattle.guard.proofs.ClosureState.{Keeps, Small, add_keeps, add_small}
use Rattle.guard.proofs.NodeLaws.{holds_it, not_alone}

unfoldable pub label_sum : State → ℕ
label_sum s = sum (map (λ x. ones (label_of s x)) (from 96 0))

label_small : (s : State) → Small s → (i : ℕ) → label_of s i < 2 ^ variant_limit
unfolding Small
label_small s h i = h (class_of s i)

module _ (s s' : State) (small' : Small s') (keeps : Keeps s s') where
  each_le : (x : ℕ) → ones (label_of s' x) ≤ ones (label_of s x)
  each_le x = sub_ones variant_limit (label_of s x) (label_of s' x) (label_small s' small' x) (λ v h e. keeps.label x v e)

  pub sum_le : label_sum s' ≤ label_sum s
  unfolding label_sum
  sum_le = sum-map_le (λ x. ones (label_of s' x)) (λ x. ones (label_of s x)) (from 96 0) (λ x m. each_le x)

  pub sum_lt : Small s → (i : ℕ) → i < 96 → ¬ (label_of s' i ≡ label_of s i) → label_sum s' < label_sum s
  unfolding label_sum
  sum_lt small i h n =
      sum-map_lt (λ x. ones (label_of s' x)) (λ x. ones (label_of s x)) (from 96 0) (λ x m. each_le x) i (mem_from 96 0 i (omega arith) (omega arith))
      (⊎_elim (λ l. l) (λ l. absurd (omega (arith, label_small s small i, l))) (sub_less variant_limit (label_of s i) (label_of s' i) (label_small s' small' i) (λ v h e. keeps.label i v e) n))

-- ---- a decision

module _ (s : State) (small : Small s) (i v : ℕ) (hi : i < 96) (hv : v < variant_limit) (inside : class_of s i < length s.labels) (another : holds_another s i v ≡ true) where
  cut_is : (m : ℕ) → label_of (add s (within i m)) i ≡ bit_and (label_of s i) m
  cut_is m = get_or-set_same s.labels (class_of s i) (bit_and (label_of s i) m) 0 inside

  cut_falls : (m : ℕ) → ¬ (bit_and (label_of s i) m ≡ label_of s i) → label_sum (add s (within i m)) < label_sum s
  cut_falls m n = sum_lt s (add s (within i m)) (add_small s small (within i m)) (add_keeps s (within i m)) small i hi (λ e. n (sym (cut_is m) ∙ e))

  -- the variant's own bit is lost
  pub isnt-lower : label_sum (add s (within i (every_variant - 2 ^ v))) < label_sum s
  isnt-lower = cut_falls (every_variant - 2 ^ v) (λ e. holds_it s i v another (sym (ap (λ (m : ℕ). bit m v) e) ∙ gone))
    where
      own : bit (every_variant - 2 ^ v) v ≡ 0
      own = but_own v hv

      gone : bit (bit_and (label_of s i) (every_variant - 2 ^ v)) v ≡ 0
      gone = omega (arith, bit_and_lem (label_of s i) (every_variant - 2 ^ v) v, own)

  -- another one's is
  pub is-lower : label_sum (add s (within i (2 ^ v))) < label_sum s
  is-lower = cut_falls (2 ^ v) (λ e. not_alone s i v another (alone_of e))
    where
      -- a label inside one variant that holds it is that variant alone
      alone_of : bit_and (label_of s i) (2 ^ v) ≡ label_of s i → label_of s i ≡ 2 ^ v
      alone_of e = let b : bit (label_of s i) v ≡ 1 = omega (arith, holds_it s i v another) in sym e ∙ and_one (label_of s i) v ∙ ap (λ (k : ℕ). k * 2 ^ v) b ∙ one-mul (2 ^ v)
