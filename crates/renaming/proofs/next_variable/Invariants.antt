-- `next_variable` meets its contract. Invariant: no row passed is a variable. Assumes nothing.
use mathlib.Core.Path.{◌≡◌}
use mathlib.Core.List.{List}
use lib.ListN.{drop}
use Rattle.guard.specs.Guard.{Row}
use Rattle.merged.specs.Merge.{variables_from}
use Rattle.renaming.specs.Names.{KindsOf}
use Rattle.renaming.proofs.next_variable.Given as goal

abbrev pub invariant-loop-x : goal.invariant-loop-x
invariant-loop-x l = (rs : List Row) → KindsOf l.kinds l.many rs → variables_from l.from (drop l.from rs) ≡ variables_from l.x (drop l.x rs)
