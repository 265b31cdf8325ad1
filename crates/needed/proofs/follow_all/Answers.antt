-- `follow_all` meets its contract. Invariant: the shapes so far are passed. Assumes nothing.
use Rattle.needed.specs.Needed.{Followed}
use Rattle.needed.proofs.Marking.{none_yet, one_more}
use Rattle.needed.proofs.follow_all.Goals as goal

pub loop-k-init : goal.loop-k-init
loop-k-init c = let a = c.args in
    let s = a.state.now in
    none_yet a.shapes.now.slots s a.start (Followed a.shapes.now.slots s a.start) a.marks.now

pub loop-k-preserved : goal.loop-k-preserved
loop-k-preserved c = let a = c.args in
    let l = c.loop-k in
    let s = a.state.now in
    one_more a.shapes.now.slots s a.start (Followed a.shapes.now.slots s a.start) l.k l.any c.follow-any.result l.invariant c.follow-any.ensures
