-- What all families of rules give at a state. Assumes nothing: definitions.
use Rattle.std.specs.Prelude.{◌≡◌, true, List, ◌++◌, ℕ}
use Rattle.laws.specs.All.{All}
use Rattle.guard.specs.Closure.{Fact, State, holds}
use Rattle.loops.specs.Lowest.{lowest}
use Rattle.passes.specs.Pass.{Steps}
use Rattle.congruence.specs.Due.{shapes_due}
use Rattle.reads.specs.Due.{defaults_due, reads_due}
use Rattle.singles.specs.Due.{singles_due}
use Rattle.reasons.specs.Reasons.{empty_at}

unfoldable pub all_due : List ℕ → List ℕ → List ℕ → List ℕ → State → List Fact
all_due shapes reads sorts fieldless s = defaults_due reads s ++ singles_due sorts fieldless s ++ shapes_due shapes s ++ reads_due reads s

-- From `s` to `s'`: only what is due is added; and unless a label is empty then, all that is due holds.
pub record Settled (shapes reads sorts full fieldless : List ℕ) (s s' : State) : Type 0 where
  pub steps : Steps (all_due shapes reads sorts fieldless) s s'
  pub quiet : lowest (empty_at sorts full s') 78 ≡ 78 → All (λ f. holds s' f ≡ true) (all_due shapes reads sorts fieldless s')
