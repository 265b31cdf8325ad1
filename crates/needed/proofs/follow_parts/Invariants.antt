-- `follow_parts` meets its contract. Invariant: steps led here; the sum falls with each round. Assumes nothing.
use Rattle.laws.specs.Lists.{sum}
use Rattle.needed.specs.Needed.{Steps}
use Rattle.needed.proofs.follow_parts.Given as goal

abbrev pub invariant-loop-start : goal.invariant-loop-start
invariant-loop-start l = Steps l.shapes.slots l.state l.start l.initial.marks l.marks

abbrev pub decreases-loop-start : goal.decreases-loop-start
decreases-loop-start l = sum l.marks
