-- `next_entries` meets its contract. Invariant: the entries so far are those of the column. Assumes nothing.
use native.Mathlib.Omega.{arith}
use Rattle.columns.proofs.Filled.{filled_next}
use Rattle.nexttypes.proofs.next_entries.Goals as goal

pub loop-t-preserved : goal.loop-t-preserved
loop-t-preserved c = filled_next _ _ _ _ _ (omega arith) c.loop-t.invariant c.next_entry.ensures
