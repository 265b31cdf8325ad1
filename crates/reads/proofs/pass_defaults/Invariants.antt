-- Invariant: the reads so far are passed. Assumes nothing.
use Rattle.passes.specs.Pass.{Pass}
use Rattle.passes.proofs.PassLaws.{up_to}
use Rattle.reads.specs.Due.{default_due}
use Rattle.reads.proofs.pass_defaults.Given as goal

abbrev pub invariant-loop-k : goal.invariant-loop-k
invariant-loop-k l = Pass (up_to (λ j x. default_due l.reads.slots x j) l.k) l.initial.state l.state l.changed
