-- `cycle_entries` meets its contract. Invariant: the entries so far are those of the three columns. Assumes nothing.
use native.Mathlib.Omega.{arith}
use Rattle.columns.proofs.Filled.{filled_next}
use Rattle.orbits.proofs.cycle_entries.Goals as goal

pub loop-t-preserved : goal.loop-t-preserved
loop-t-preserved c = record {
  root = filled_next _ _ _ _ _ (omega arith) c.loop-t.invariant.root c.root_entry.ensures;
  distance = filled_next _ _ _ _ _ (omega arith) c.loop-t.invariant.distance c.distance_entry.ensures;
  period = filled_next _ _ _ _ _ (omega arith) c.loop-t.invariant.period c.period_entry.ensures;
}
