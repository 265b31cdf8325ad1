-- The constants before are met so far. Assumes nothing.
use mathlib.Core.List.{foldl}
use mathlib.Core.Path.{◌≡◌}
use Rattle.guard.specs.Closure.{add}
use Rattle.constantfacts.specs.Equal.{constants_meet}
use Rattle.facts.proofs.Adding.{up_to}
use Rattle.constantfacts.proofs.join_constant.Given as goal

abbrev pub invariant-loop-i : goal.invariant-loop-i
invariant-loop-i l = l.state ≡ foldl add l.initial.state (up_to (constants_meet l.constants.sorts l.constants.values l.k) l.i)
