-- `distance_entry` meets its contract. Invariant: the root is not met in fewer steps. Assumes nothing.
use Rattle.orbits.specs.Orbits.{met_after}
use Rattle.columns.proofs.Searches.{least_end, least_here, least_on}
use Rattle.orbits.proofs.OrbitLaws.{distance_is}
use Rattle.orbits.proofs.distance_entry.Goals as goal

pub loop-k-preserved : goal.loop-k-preserved
loop-k-preserved c = least_on _ _ _ c.loop-k.invariant c.loop-k-test.true c.is_met_after.ensures c.if-is_met_after.false

pub returns-then-is_met_after : goal.returns-then-is_met_after
returns-then-is_met_after c = let a = c.args in
    let root = c.root_entry-root in
    distance_is a.next.now a.many a.t root.result c.loop-k.k root.ensures
    (least_here (met_after a.next.now a.t root.result) a.many c.loop-k.k c.loop-k.invariant c.is_met_after.ensures c.if-is_met_after.true)

pub returns : goal.returns
returns c = let a = c.args in
    let root = c.root_entry-root in
    distance_is a.next.now a.many a.t root.result a.many root.ensures
    (least_end (met_after a.next.now a.t root.result) a.many c.loop-k.k c.loop-k.invariant c.loop-k-test.false)
