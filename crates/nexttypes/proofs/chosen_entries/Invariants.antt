-- `chosen_entries` meets its contract. Invariant: the entries so far are those of the column. Assumes nothing.
use mathlib.Core.Path.{◌≡◌}
use Rattle.columns.specs.Entries.{filled}
use Rattle.nexttypes.specs.NextTypes.{chosen_entry}
use Rattle.nexttypes.proofs.chosen_entries.Given as goal

abbrev pub invariant-loop-w : goal.invariant-loop-w
invariant-loop-w l = l.column ≡ filled 48 (chosen_entry l.arities l.sorts l.finite) l.w
