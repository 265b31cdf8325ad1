-- The decision that code takes: it is the chosen one, its children begin with it, and at both the falling number is lower.
-- Assumes nothing.
use mathlib.Core.Path.{◌≡◌, ap, sym, ◌∙◌, ap₂}
use mathlib.Core.List.{List}
use mathlib.Core.Option.{some}
use Prim.Native.Nat.{ℕ, ◌-◌, ◌^◌, ◌<◌}
use native.Mathlib.Omega.{arith}
use lib.ListN.{get_or, length}
use Rattle.guard.specs.Closure.{Fact.within, State, add, class_of, every_variant}
use Rattle.guard.specs.Limits.{variant_limit}
use Rattle.guard.specs.Node.{Split}
use Rattle.guard.proofs.ClosureState.{Keeps, Small}
use Rattle.classes.specs.Held.{Held}
use Rattle.arrays.specs.Slots.{ReadsFit}
use Rattle.std.specs.declared.option.Option.TheVariants.{Some}
use Rattle.splits.specs.declared.Choice.{Choice}
use Rattle.splits.specs.Choice.{choice_of, first_by, split_by}
use Rattle.search.specs.Nodes.{StateFit}
use Rattle.search.proofs.Choices.{Chosen, chosen}
use Rattle.search.proofs.Measure.{is-lower, isnt-lower, label_sum, sum_le}
use Rattle.search.proofs.VisitLaws.{a_choice}

-- what every state is
pub state_fit : (s : State) → Held s.classes → length s.labels ≡ 96 → ((c : ℕ) → get_or s.labels c 0 < 65536) → StateFit s
unfolding Small
state_fit s held long small = record { held = held; long = long; small = small }

module _ (reads sorts fieldless : List ℕ) (fit : ReadsFit reads) (s : State) (c : Choice) (e : Some c ≡ choice_of (first_by reads s) (split_by reads sorts fieldless s)) where
  pub decision : Split
  decision = (a_choice c (first_by reads s) (split_by reads sorts fieldless s) e).0

  pub is-decided : split_by reads sorts fieldless s ≡ some decision
  unfolding decision
  is-decided = (a_choice c (first_by reads s) (split_by reads sorts fieldless s) e).1

  pub same-term : c.term ≡ decision.term
  unfolding decision
  same-term = (a_choice c (first_by reads s) (split_by reads sorts fieldless s) e).2

  pub same_variant : c.variant ≡ decision.variant
  unfolding decision
  same_variant = (a_choice c (first_by reads s) (split_by reads sorts fieldless s) e).3

  pub same_kind : first_by reads s ≡ c.first
  same_kind = sym (a_choice c (first_by reads s) (split_by reads sorts fieldless s) e).4

  on : Chosen s decision
  on = chosen reads fit s sorts fieldless decision is-decided

  pub term-small : c.term < 96
  term-small = omega (arith, same-term, on.term)

  pub variant-small : c.variant < variant_limit
  variant-small = omega (arith, same_variant, on.variant)

  -- ---- children

  pub is_child : (child : State) (bit : ℕ) → bit ≡ 2 ^ c.variant → child ≡ add s (within c.term bit) → child ≡ add s (within decision.term (2 ^ decision.variant))
  is_child child bit b q = q ∙ ap₂ (λ (i m : ℕ). add s (within i m)) same-term (b ∙ ap (λ (v : ℕ). 2 ^ v) same_variant)

  pub isnt_child : (child : State) (bit : ℕ) → bit ≡ 2 ^ c.variant → child ≡ add s (within c.term (65535 - bit)) → child ≡ add s (within decision.term (every_variant - 2 ^ decision.variant))
  isnt_child child bit b q = q ∙ ap₂ (λ (i m : ℕ). add s (within i (65535 - m))) same-term (b ∙ ap (λ (v : ℕ). 2 ^ v) same_variant)

  -- ---- the falling number

  module _ (before : State) (keeps : Keeps before s) (ready : StateFit s) (child : State) (bit : ℕ) (b : bit ≡ 2 ^ c.variant) where
    inside : class_of s decision.term < length s.labels
    inside = omega (arith, ready.long, ready.held.there decision.term)

    pub is-falls : child ≡ add s (within c.term bit) → label_sum child < label_sum before
    is-falls q =
        omega (arith, ap label_sum (is_child child bit b q), is-lower s ready.small decision.term decision.variant on.term on.variant inside on.another, sum_le before s ready.small keeps)

    pub isnt-falls : child ≡ add s (within c.term (65535 - bit)) → label_sum child < label_sum before
    isnt-falls q =
        omega (arith, ap label_sum (isnt_child child bit b q), isnt-lower s ready.small decision.term decision.variant on.term on.variant inside on.another, sum_le before s ready.small keeps)
