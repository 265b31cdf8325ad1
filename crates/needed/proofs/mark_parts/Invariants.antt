-- `mark_parts` meets its contract. Invariant: the parts so far are passed. Assumes nothing.
use Rattle.needed.specs.Needed.{PartMarked, Pass, UpTo}
use Rattle.needed.proofs.mark_parts.Given as goal

abbrev pub invariant-loop-p : goal.invariant-loop-p
invariant-loop-p l = Pass l.shapes.slots l.state l.fn.start (UpTo (PartMarked l.shapes.slots l.state l.k) l.p) l.initial.marks l.marks l.changed
