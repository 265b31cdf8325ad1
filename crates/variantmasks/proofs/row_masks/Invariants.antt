-- `row_masks` meets its contract. Invariant: the bits of the variants so far stand in both masks. Assumes nothing.
use mathlib.Core.Path.{◌≡◌}
use Rattle.guard.specs.Guard.{Guard}
use Rattle.summaries.specs.InTables.{InTables, longer}
use Rattle.summaries.specs.Summary.{possible_by, settled_by}
use Rattle.variantmasks.specs.Masks.{number_by}
use Rattle.variantmasks.proofs.row_masks.Given as goal

abbrev pub invariant-loop-v : goal.invariant-loop-v
invariant-loop-v l =
    (g : Guard) → InTables longer l.types l.rows l.lines g
    → (l.known ≡ settled_by (number_by l.budget g l.settled l.possible l.i) l.v) × (l.there ≡ possible_by (number_by l.budget g l.settled l.possible l.i) l.v)
