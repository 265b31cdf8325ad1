-- A node that isn't closed has no empty label. Assumes nothing.
use mathlib.Core.Path.{◌≡◌, refl}
use mathlib.Core.Bool.{Bool, true, false, ◌||◌}
use mathlib.Core.List.{List}
use Prim.Native.Nat.{ℕ}
use lib.Dec.{ltb}
use lib.IntN.{ℤ}
use Rattle.guard.specs.Closure.{State}
use Rattle.loops.specs.Lowest.{lowest}
use Rattle.loops.proofs.Loops.{lowest-none}
use Rattle.reasons.specs.Reasons.{empty_at}
use Rattle.nodes.specs.Closed.{closed, closed_by}
use Rattle.instance.specs.declared.Instance.{Instance}

pub none-empty : (i : Instance) (s : State) → closed i s ≡ false → lowest (empty_at i.sorts.sorts i.sorts.full s) 78 ≡ 78
unfolding closed_by
none-empty i s e = lowest-none (empty_at i.sorts.sorts i.sorts.full s) 78 (neither (ltb (lowest (empty_at i.sorts.sorts i.sorts.full s) 78) 78) _ e)
  where
    neither : (a b : Bool) → (a || b) ≡ false → a ≡ false
    neither true b e = e
    neither false b e = refl
