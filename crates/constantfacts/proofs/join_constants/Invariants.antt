-- The constants so far are met. Assumes nothing.
use mathlib.Core.List.{foldl}
use mathlib.Core.Path.{◌≡◌}
use Rattle.guard.specs.Closure.{add}
use Rattle.constantfacts.specs.Equal.{constants_at}
use Rattle.facts.proofs.Adding.{up_to}
use Rattle.constantfacts.proofs.join_constants.Given as goal

abbrev pub invariant-loop-k : goal.invariant-loop-k
invariant-loop-k l = l.state ≡ foldl add l.initial.state (up_to (constants_at l.constants.sorts l.constants.values) l.k)
