-- `unlike_constants` meets its contract. Invariant: what is found is right for the slots so far. Assumes nothing.
use mathlib.Core.Path.{◌≡◌}
use Rattle.loops.specs.Lowest.{lowest}
use Rattle.reasons.specs.Reasons.{unlike_at}
use Rattle.reasons.proofs.unlike_constants.Given as goal

abbrev pub invariant-loop-k : goal.invariant-loop-k
invariant-loop-k l = l.found ≡ lowest (unlike_at l.constants.sorts l.constants.values l.state.classes l.k) 96
