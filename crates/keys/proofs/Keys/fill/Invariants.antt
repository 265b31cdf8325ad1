-- Invariant: the shapes so far have their keys. Assumes nothing.
use Rattle.keys.specs.Keys.{Keyed}
use Rattle.keys.proofs.Keys.fill.Given as goal

abbrev pub invariant-loop-k : goal.invariant-loop-k
invariant-loop-k l = Keyed l.shapes.slots l.state l.k l.self.parts l.self.owners
