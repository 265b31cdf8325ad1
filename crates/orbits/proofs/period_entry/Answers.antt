-- `period_entry` meets its contract. Invariant: the period is not shorter. Assumes nothing.
use native.Mathlib.Omega.{arith}
use Rattle.orbits.proofs.OrbitLaws.{period_end, period-here, period-on, period-start}
use Rattle.orbits.proofs.period_entry.Goals as goal

pub loop-k-init : goal.loop-k-init
loop-k-init c = let a = c.args in record {
  within = omega arith;
  not_below = period-start a.next.now a.many a.t;
}

pub loop-k-preserved : goal.loop-k-preserved
loop-k-preserved c = let a = c.args in
    let l = c.loop-k in record {
      within = omega arith;
      not_below = period-on a.next.now a.many a.t l.k (omega arith) l.invariant.not_below c.loop-k-test.true c.is_met_after.ensures c.if-is_met_after.false;
    }

pub returns-then-is_met_after : goal.returns-then-is_met_after
returns-then-is_met_after c = let a = c.args in
    let l = c.loop-k in
    period-here a.next.now a.many a.t l.k (omega arith) l.invariant.not_below c.is_met_after.ensures c.if-is_met_after.true

pub returns : goal.returns
returns c = let a = c.args in
    let l = c.loop-k in
    omega (arith, period_end a.next.now a.many a.t l.k (omega arith) l.invariant.not_below c.loop-k-test.false)
