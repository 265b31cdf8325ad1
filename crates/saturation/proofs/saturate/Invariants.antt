-- Invariant: what is due was added; the state falls with each round. Assumes nothing.
use Rattle.guard.specs.Closure.{size}
use Rattle.passes.specs.Pass.{Steps}
use Rattle.saturation.specs.Due.{all_due}
use Rattle.saturation.proofs.saturate.Given as goal

abbrev pub invariant-loop : goal.invariant-loop
invariant-loop l = Steps (all_due l.shapes.slots l.reads.slots l.sorts.sorts l.sorts.fieldless) l.initial.state l.state

abbrev pub decreases-loop : goal.decreases-loop
decreases-loop l = size l.state
