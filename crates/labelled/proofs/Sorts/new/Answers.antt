-- `new` meets its contract. Assumes nothing.
use mathlib.Core.Path.{◌∙◌, refl, sym}
use native.Mathlib.Omega.{arith}
use lib.ListN.{length-set}
use Rattle.labelled.proofs.Listing.{lists_none, lists_with, lists_without}
use Rattle.labelled.proofs.Sorts.new.Goals as goal
use Rattle.labelled.proofs.Sorts.new.Goals.{else-has_label, then-has_label}

pub loop-x-init : goal.loop-x-init
loop-x-init c = record { room = refl; listed = lists_none _ 96 }

pub loop-x-preserved : goal.loop-x-preserved
loop-x-preserved c =
    let l = c.loop-x.invariant in
    elim c.if-has_label.branch [
      | then-has_label w ↦ rw (w.listed-is, w.count-is) (record {
        room = length-set _ _ _ ∙ l.room;
        listed = lists_with _ _ _ _ l.listed (omega arith) (sym c.has_label.ensures ∙ w.if-has_label.true);
      })
      | else-has_label w ↦ rw (w.listed-is, w.count-is) (record {
        room = l.room;
        listed = lists_without _ _ _ _ l.listed (sym c.has_label.ensures ∙ w.if-has_label.false);
      })
    ]
