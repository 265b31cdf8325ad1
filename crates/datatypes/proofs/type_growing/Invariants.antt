-- `type_growing` meets its contract. Invariant: what holds of all variants is what holds of the rest. Assumes nothing.
use mathlib.Core.Path.{◌≡◌}
use Prim.Native.Nat.{◌+◌, ◌-◌}
use lib.ListN.{get_or}
use Rattle.laws.specs.Lists.{all, from}
use Rattle.guard.specs.Types.{variants_of}
use Rattle.finite.specs.TypeColumns.{fields_at, types_in}
use Rattle.datatypes.specs.Facts.{growing}
use Rattle.datatypes.proofs.type_growing.Given as goal

abbrev pub invariant-loop-v : goal.invariant-loop-v
invariant-loop-v l = all (growing l.finite) (variants_of (types_in l.many l.variants l.first l.arities l.sorts) l.t) ≡ all (λ v. growing l.finite (fields_at l.arities l.sorts (get_or l.first l.t 0 + v))) (from (l.n - l.v) l.v)
