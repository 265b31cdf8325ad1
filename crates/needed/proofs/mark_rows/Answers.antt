-- `mark_rows` meets its contract. Invariant: the rows so far are marked. Assumes nothing.
use Rattle.needed.proofs.Marking.{rows_next, rows_none}
use Rattle.needed.proofs.mark_rows.Goals as goal

pub loop-i-init : goal.loop-i-init
loop-i-init c = rows_none c.args.state.now.classes c.args.marks.now

pub loop-i-preserved : goal.loop-i-preserved
loop-i-preserved c = let l = c.loop-i in
    rows_next c.args.state.now.classes c.args.marks.now l.marks _ l.i l.invariant c.mark.ensures.marks_after
