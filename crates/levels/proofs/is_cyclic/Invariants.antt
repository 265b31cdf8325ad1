-- `is_cyclic` meets its contract. Invariant: steps from the top led here; the sum falls with each round. Assumes nothing.
use Rattle.laws.specs.Lists.{sum}
use Rattle.levels.specs.Levels.{Sinks, top_levels}
use Rattle.levels.proofs.is_cyclic.Given as goal

abbrev pub invariant-loop : goal.invariant-loop
invariant-loop l = Sinks l.shapes.slots l.state top_levels l.levels

abbrev pub decreases-loop : goal.decreases-loop
decreases-loop l = sum l.levels
