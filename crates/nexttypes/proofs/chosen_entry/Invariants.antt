-- `chosen_entry` meets its contract. Invariant: no field below is infinite. Assumes nothing.
use Prim.Native.Nat.{◌≤◌}
use Rattle.laws.proofs.Positions.{least}
use Rattle.nexttypes.specs.NextTypes.{infinite_at}
use Rattle.nexttypes.proofs.chosen_entry.Given as goal

abbrev pub invariant-loop-p : goal.invariant-loop-p
invariant-loop-p l = l.p ≤ least (infinite_at l.sorts l.finite l.w) l.n
