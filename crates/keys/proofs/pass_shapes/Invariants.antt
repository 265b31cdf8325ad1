-- Invariant: the shapes so far are passed, and nothing has changed. Assumes nothing.
use mathlib.Core.Bool.{false}
use Rattle.passes.specs.Pass.{Pass}
use Rattle.passes.proofs.PassLaws.{up_to}
use Rattle.congruence.specs.Due.{shape_due}
use Rattle.keys.proofs.pass_shapes.Given as goal

abbrev pub invariant-loop-k : goal.invariant-loop-k
invariant-loop-k l = Pass (up_to (λ j x. shape_due l.shapes.slots x j) l.k) l.initial.state l.state false
