-- The position of a sibling is that of a field. Assumes nothing.
use mathlib.Core.Bool.{Bool, cond}
use Prim.Native.Nat.{ℕ, ◌+◌, ◌<◌}
use native.Mathlib.Omega.{arith}
use lib.Dec.{ltb}
use Rattle.fieldterms.specs.FieldTerms.{sibling_position}

pub position-small : (p k : ℕ) → k < 2 → sibling_position p k < 3
unfolding sibling_position
position-small p k h = go (ltb k p)
  where
    go : (b : Bool) → cond b k (k + 1) < 3
    go Bool.true = omega arith
    go Bool.false = omega arith
