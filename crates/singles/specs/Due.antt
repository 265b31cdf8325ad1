-- What terms of one fieldless variant give at a state, by the problem's arrays. proofs/ shows that this is what the rule of document 01
-- gives for the guard. Assumes nothing: definitions.
use Rattle.std.specs.Prelude.{◌≡◌, Bool, true, ◌&&◌, List, [], ◌∷◌, ℕ, ◌<◌, eqb, Result, Ok, Err}
use Rattle.std.specs.Borrow.{Bor}
use Rattle.laws.specs.Lists.{concat_map, from, when}
use Rattle.guard.specs.Closure.{Fact, Fact.same, State}
use Rattle.guard.specs.Limits.{variant_limit}
use Rattle.passes.specs.Pass.{Due, Pass, Steps}
use Rattle.arrays.specs.Slots.{only_is, sort_at}
use Rattle.singles.specs.declared.StoppedAt.{StoppedAt}

module _ (sorts fieldless : List ℕ) (s : State) where
  -- "terms of a type whose labels are the same one fieldless variant are equal"
  unfoldable pub single_due : ℕ → ℕ → ℕ → List Fact
  single_due x v y = when (eqb (sort_at sorts y) (sort_at sorts x) && (only_is sorts fieldless s x v && only_is sorts fieldless s y v)) (same y x ∷ [])

  unfoldable pub singles_for : ℕ → ℕ → List Fact
  singles_for x v = concat_map (single_due x v) (from x 0)

  unfoldable pub singles_of : ℕ → List Fact
  singles_of x = concat_map (singles_for x) (from variant_limit 0)

  unfoldable pub singles_due : List Fact
  singles_due = concat_map singles_of (from 78 0)

-- ---- a pass that may stop

-- From `s` to `s'`: the whole pass, with whether anything changed; or a part of it, and a term at which it is to stop there.
abbrev pub PassOrStop : Due → (State → ℕ → Type 0) → State → State → Result Bool StoppedAt → Type 0
PassOrStop due stops s s' (Ok changed) = Pass due s s' changed
PassOrStop due stops s s' (Err at) = Steps due s s' × (at.term < 78) × stops s' at.term

-- a call says that the pass stops
pub record StopsBy (post : Bor State → ℕ → Bool → Type 0) (s : State) (x : ℕ) : Type 0 where
  pub shown : Bor State
  pub shows : shown.now ≡ s
  pub says : post shown x true
