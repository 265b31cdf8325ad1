-- `chosen_entries` meets its contract. Invariant: the entries so far are those of the column. Assumes nothing.
use native.Mathlib.Omega.{arith}
use Rattle.columns.proofs.Filled.{filled_next}
use Rattle.nexttypes.proofs.chosen_entries.Goals as goal

pub loop-w-preserved : goal.loop-w-preserved
loop-w-preserved c = filled_next _ _ _ _ _ (omega arith) c.loop-w.invariant c.chosen_entry.ensures
