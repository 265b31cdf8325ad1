-- Invariant: the reads so far are passed. Assumes nothing.
use Rattle.passes.specs.Pass.{Pass}
use Rattle.passes.proofs.PassLaws.{up_to}
use Rattle.reads.specs.Due.{reads_meet}
use Rattle.reads.proofs.pass_read.Given as goal

abbrev pub invariant-loop-i : goal.invariant-loop-i
invariant-loop-i l = Pass (up_to (λ j x. reads_meet l.reads.slots x l.k j) l.i) l.initial.state l.state l.changed
