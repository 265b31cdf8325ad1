-- A split that is claimed: its term and its variant are in range, and the number that falls at its children. Assumes nothing.
use mathlib.Core.Path.{◌≡◌, ap}
use mathlib.Core.Bool.{true}
use mathlib.Core.List.{List}
use Prim.Native.Nat.{ℕ, ◌-◌, ◌^◌, ◌<◌}
use native.Mathlib.Omega.{arith}
use lib.Dec.{ltb}
use lib.ListN.{length}
use borrow.Author.Tests.{ltb-true}
use Rattle.laws.proofs.Bools.{and_left, and_right}
use Rattle.guard.specs.Closure.{Fact.within, State, add, class_of}
use Rattle.guard.specs.Limits.{variant_limit}
use Rattle.guard.specs.Node.{holds_another}
use Rattle.passes.specs.Pass.{Due, Steps}
use Rattle.passes.proofs.PassLaws.{steps_keep}
use Rattle.search.specs.Nodes.{StateFit}
use Rattle.search.proofs.Measure.{is-lower, isnt-lower, label_sum, sum_le}
use Rattle.splitclaims.specs.SplitClaims.{is_term, splits_by}

module _ (sorts : List ℕ) (s : State) (x v : ℕ) (e : splits_by sorts s x v ≡ true) where
  pub split-term : x < 78
  unfolding splits_by is_term
  split-term = ltb-true x 78 (and_left (ltb x 78) _ (and_left (is_term sorts x) _ e))

  pub split-variant : v < variant_limit
  unfolding splits_by
  split-variant = ltb-true v variant_limit (and_left (ltb v variant_limit) _ (and_right (is_term sorts x) _ e))

  another : holds_another s x v ≡ true
  unfolding splits_by
  another = and_right (ltb v variant_limit) _ (and_right (is_term sorts x) _ e)

  -- ---- the number that falls

  module _ {due : Due} (before : State) (steps : Steps due before s) (ready : StateFit s) (child : State) (bit : ℕ) (b : bit ≡ 2 ^ v) where
    inside : class_of s x < length s.labels
    inside = omega (arith, ready.long, ready.held.there x)

    pub is-falls : child ≡ add s (within x bit) → label_sum child < label_sum before
    is-falls q =
        omega (arith, ap label_sum q, ap (λ (m : ℕ). label_sum (add s (within x m))) b, is-lower s ready.small x v (omega (arith, split-term)) split-variant inside another, sum_le before s ready.small (steps_keep steps))

    pub isnt-falls : child ≡ add s (within x (65535 - bit)) → label_sum child < label_sum before
    isnt-falls q =
        omega (arith, ap label_sum q, ap (λ (m : ℕ). label_sum (add s (within x (65535 - m)))) b, isnt-lower s ready.small x v (omega (arith, split-term)) split-variant inside another, sum_le before s ready.small (steps_keep steps))
