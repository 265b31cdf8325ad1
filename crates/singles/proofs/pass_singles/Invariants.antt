-- Invariant: the terms are entered up to one behind those of the list so far. Assumes nothing.
use Rattle.singles.proofs.Singles.{Listed}
use Rattle.singles.proofs.pass_singles.Given as goal

abbrev pub invariant-loop-x : goal.invariant-loop-x
invariant-loop-x g l = Listed l.sorts.sorts l.sorts.fieldless l.listed l.initial.state l.state l.seen l.x-index l.changed
