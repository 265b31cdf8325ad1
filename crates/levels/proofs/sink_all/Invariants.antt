-- `sink_all` meets its contract. Invariant: the last shapes are passed. Assumes nothing.
use Prim.Native.Nat.{◌-◌}
use Rattle.levels.specs.Levels.{LastInOrder, Sunk}
use Rattle.levels.proofs.sink_all.Given as goal

abbrev pub invariant-loop-k : goal.invariant-loop-k
invariant-loop-k l = Sunk l.shapes.slots l.state (LastInOrder l.shapes.slots l.state (30 - l.k)) l.initial.levels l.levels l.any
