-- `find_row` meets its contract. Invariant: no row before has the numbers. Assumes nothing.
use mathlib.Core.List.{[], ◌∷◌}
use Rattle.rowstore.proofs.Numbers.{NotBelow}
use Rattle.rowstore.proofs.find_row.Given as goal

abbrev pub invariant-loop-i : goal.invariant-loop-i
invariant-loop-i l = NotBelow l.rows l.start (l.tag ∷ l.a ∷ l.b ∷ l.c ∷ []) l.i
