-- Invariant: the mask is that of the variants so far. Assumes nothing.
use mathlib.Core.Path.{◌≡◌}
use Rattle.sortcolumn.specs.Sorts.{fieldless_mask}
use Rattle.sortcolumn.proofs.fieldless_mask.Given as goal

abbrev pub invariant-loop-v : goal.invariant-loop-v
invariant-loop-v l = l.mask ≡ fieldless_mask l.arities l.start l.v
