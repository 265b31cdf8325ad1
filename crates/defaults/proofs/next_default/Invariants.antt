-- `next_default` meets its contract. Invariant: the lowest ready variant is the lowest one of the rest. Assumes nothing.
use mathlib.Core.Path.{◌≡◌}
use mathlib.Core.List.{map}
use Prim.Native.Nat.{◌+◌, ◌-◌}
use lib.ListN.{get_or}
use Rattle.laws.specs.Lists.{from}
use Rattle.defaults.specs.Settled.{lowest_settled, next_settled}
use Rattle.finite.specs.TypeColumns.{fields_at, types_in}
use Rattle.defaults.proofs.next_default.Given as goal

abbrev pub invariant-loop-v : goal.invariant-loop-v
invariant-loop-v l = next_settled l.settled (types_in l.many l.variants l.first l.arities l.sorts) l.t ≡ lowest_settled l.settled l.v (map (λ v. fields_at l.arities l.sorts (get_or l.first l.t 0 + v)) (from (l.n - l.v) l.v))
