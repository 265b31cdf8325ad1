-- Invariant: the shapes so far are passed. Assumes nothing.
use Rattle.passes.specs.Pass.{Pass}
use Rattle.passes.proofs.PassLaws.{up_to}
use Rattle.congruence.specs.Due.{shapes_meet}
use Rattle.congruence.proofs.pass_shape.Given as goal

abbrev pub invariant-loop-i : goal.invariant-loop-i
invariant-loop-i l = Pass (up_to (λ j x. shapes_meet l.shapes.slots x l.k j) l.i) l.initial.state l.state l.changed
