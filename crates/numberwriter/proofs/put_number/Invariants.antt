-- `put_number`: group by group. Assumes nothing.
use Prim.Native.Nat.{◌≤◌}
use Rattle.guard.specs.Number.{width64}
use Rattle.numberwriter.proofs.Midway.{Midway}
use Rattle.numberwriter.proofs.put_number.Given as goal

abbrev pub invariant-loop-rest : goal.invariant-loop-rest
invariant-loop-rest l = Midway l.n l.initial.out l.rest l.out × (l.rest ≤ width64.most)

abbrev pub decreases-loop-rest : goal.decreases-loop-rest
decreases-loop-rest l = l.rest
