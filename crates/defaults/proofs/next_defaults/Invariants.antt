-- `next_defaults` meets its contract. Invariant: the defaults so far are a column. Assumes nothing.
use mathlib.Core.Path.{◌≡◌}
use Rattle.finite.specs.TypeColumns.{column, types_in}
use Rattle.defaults.specs.Settled.{next_settled}
use Rattle.defaults.proofs.next_defaults.Given as goal

abbrev pub invariant-loop-t : goal.invariant-loop-t
invariant-loop-t l = l.next ≡ column (next_settled l.settled (types_in l.many l.variants l.first l.arities l.sorts)) l.t
