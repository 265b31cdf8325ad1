-- Invariant: the terms below are listed. Assumes nothing.
use mathlib.Core.Path.{◌≡◌}
use lib.ListN.{length}
use Rattle.labelled.specs.Covers.{Lists, has_label}
use Rattle.labelled.proofs.Sorts.new.Given as goal

abbrev pub invariant-loop-x : goal.invariant-loop-x
invariant-loop-x l = record { room : length l.listed ≡ 96; listed : Lists (has_label l.sorts l.full l.fieldless) l.x l.listed l.count }
