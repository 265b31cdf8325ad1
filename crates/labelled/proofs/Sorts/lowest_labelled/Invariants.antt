-- The test fails at each term of the list so far. Assumes nothing.
use mathlib.Core.Bool.{false}
use Prim.Native.Nat.{ℕ, ◌<◌}
use lib.ListN.{get_or}
use Rattle.labelled.proofs.Sorts.lowest_labelled.Given as goal

abbrev pub invariant-loop-x : goal.invariant-loop-x
invariant-loop-x g l = (j : ℕ) → j < l.x-index → goal.F-post g l.passes (get_or l.x-items j 0) false
