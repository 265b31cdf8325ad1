-- `follow_all` meets its contract. Invariant: the shapes so far are passed. Assumes nothing.
use Rattle.needed.specs.Needed.{Followed, Pass, UpTo}
use Rattle.needed.proofs.follow_all.Given as goal

abbrev pub invariant-loop-k : goal.invariant-loop-k
invariant-loop-k l = Pass l.shapes.slots l.state l.start (UpTo (Followed l.shapes.slots l.state l.start) l.k) l.initial.marks l.marks l.any
