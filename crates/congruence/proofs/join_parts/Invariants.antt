-- Invariant: the parts so far are passed. Assumes nothing.
use Rattle.passes.specs.Pass.{Pass}
use Rattle.passes.proofs.PassLaws.{up_to}
use Rattle.congruence.specs.Due.{part_due}
use Rattle.congruence.proofs.join_parts.Given as goal

abbrev pub invariant-loop-p : goal.invariant-loop-p
invariant-loop-p l = Pass (up_to (λ q x. part_due l.shapes.slots x l.k l.i q) l.p) l.initial.state l.state l.changed
