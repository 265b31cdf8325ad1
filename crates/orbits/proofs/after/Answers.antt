-- `after` meets its contract. Invariant: the type after the steps so far. Assumes nothing.
use Rattle.orbits.proofs.OrbitLaws.{at_next}
use Rattle.orbits.proofs.after.Goals as goal

pub loop-preserved : goal.loop-preserved
loop-preserved c = at_next c.args.next.now c.loop.u c.at-u.result c.loop.counter c.args.t c.at-u.ensures c.loop.invariant
