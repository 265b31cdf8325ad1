-- `first_defaults` meets its contract. Invariant: the defaults so far are a column. Assumes nothing.
use mathlib.Core.Path.{◌≡◌}
use Rattle.finite.specs.TypeColumns.{column}
use Rattle.defaults.specs.Settled.{first_settled}
use Rattle.defaults.proofs.first_defaults.Given as goal

abbrev pub invariant-loop-t : goal.invariant-loop-t
invariant-loop-t l = l.next ≡ column (first_settled l.variants) l.t
