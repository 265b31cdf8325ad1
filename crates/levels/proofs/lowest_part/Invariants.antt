-- `lowest_part` meets its contract. Invariant: the lowest of the parts so far. Assumes nothing.
use Rattle.levels.specs.Levels.{LowestPart}
use Rattle.levels.proofs.lowest_part.Given as goal

abbrev pub invariant-loop-p : goal.invariant-loop-p
invariant-loop-p l = LowestPart l.shapes.slots l.state.classes l.levels l.k l.p l.low
