-- All classes are of one term alone. Assumes nothing.
use native.Mathlib.Omega.{arith}
use Rattle.classes.proofs.First.{own_classes, own_classes_kept}
use Rattle.classes.proofs.State.first.Goals as goal

pub invariant_of-result : goal.invariant_of-result
invariant_of-result c = let l = c.loop-x in own_classes_kept l.classes l.invariant.long (λ k h. l.invariant.own k (omega arith))

pub returns : goal.returns
returns c = let l = c.loop-x in own_classes l.classes l.invariant.long (λ k h. l.invariant.own k (omega arith))
