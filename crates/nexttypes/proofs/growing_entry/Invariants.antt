-- `growing_entry` meets its contract. Invariant: no variant below has fields. Assumes nothing.
use Prim.Native.Nat.{◌≤◌}
use Rattle.laws.proofs.Positions.{least}
use Rattle.nexttypes.specs.NextTypes.{fielded_at}
use Rattle.nexttypes.proofs.growing_entry.Given as goal

abbrev pub invariant-loop-v : goal.invariant-loop-v
invariant-loop-v l = l.v ≤ least (fielded_at l.arities l.start) l.n
