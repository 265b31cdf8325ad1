-- `all_growing` meets its contract. Invariant: what holds of all types is what holds of the rest. Assumes nothing.
use mathlib.Core.Path.{◌≡◌}
use Prim.Native.Nat.{◌-◌}
use Rattle.laws.specs.Lists.{all, from}
use Rattle.guard.specs.Types.{variants_of}
use Rattle.datatypes.specs.Facts.{all_growing, growing}
use Rattle.finite.specs.TypeColumns.{types_in}
use Rattle.datatypes.proofs.all_growing.Given as goal

abbrev pub invariant-loop-t : goal.invariant-loop-t
invariant-loop-t l = all_growing l.finite (types_in l.many l.variants l.first l.arities l.sorts) ≡ all (λ t. all (growing l.finite) (variants_of (types_in l.many l.variants l.first l.arities l.sorts) t)) (from (l.many - l.t) l.t)
