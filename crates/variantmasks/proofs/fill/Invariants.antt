-- `fill` meets its contract. Invariant: the rows so far stand in front of what was there. Assumes nothing.
use mathlib.Core.Path.{◌≡◌}
use lib.ListN.{length}
use Rattle.guard.specs.Guard.{Guard}
use Rattle.summaries.specs.InTables.{InTables, longer}
use Rattle.variantmasks.proofs.FillLaws.{partly}
use Rattle.variantmasks.proofs.fill.Given as goal

abbrev pub invariant-loop-i : goal.invariant-loop-i
invariant-loop-i l = record {
  long : length l.summary ≡ length l.initial.summary;
  so_far : (g : Guard) → InTables longer l.types l.rows l.lines g → l.summary ≡ partly l.budget l.anew l.initial.summary g l.i;
}
