-- `mark_rows` meets its contract. Invariant: the rows so far are marked. Assumes nothing.
use mathlib.Core.Path.{◌≡◌}
use Rattle.needed.specs.Needed.{row_marks}
use Rattle.needed.proofs.mark_rows.Given as goal

abbrev pub invariant-loop-i : goal.invariant-loop-i
invariant-loop-i l = l.marks ≡ row_marks l.state.classes l.i l.initial.marks
