-- `default_variants` meets its contract. Invariant: the column is that of so many rounds. Assumes nothing.
use mathlib.Core.Path.{◌≡◌}
use Rattle.defaults.specs.Settled.{settled_after}
use Rattle.finite.specs.TypeColumns.{types_in}
use Rattle.defaults.proofs.default_variants.Given as goal

abbrev pub invariant-loop-round : goal.invariant-loop-round
invariant-loop-round l = l.settled ≡ settled_after l.round l.variants (types_in l.many l.variants l.first l.arities l.sorts)
