-- `pass_singles` meets its contract. Assumes nothing.
use Rattle.singles.proofs.Singles.{listed_all, listed_next, listed_none, listed_over}
use Rattle.singles.proofs.pass_singles.Goals as goal

pub loop-x-init : goal.loop-x-init
loop-x-init g c = listed_none c.args.sorts.now.sorts c.args.sorts.now.fieldless c.labelled-listed.result.now c.args.state.now

pub loop-x-preserved-then-not-may_be_alone : goal.loop-x-preserved-then-not-may_be_alone
loop-x-preserved-then-not-may_be_alone g c =
    listed_over _ _ _ c.args.state.now c.labelled-listed.ensures.fieldless _ _ c.loop-x.x-index _ c.loop-x.invariant c.loop-x-test.true (c.may_be_alone.ensures c.if-not-may_be_alone.true)

pub loop-x-preserved : goal.loop-x-preserved
loop-x-preserved g c = let e = c.enter_term-changed.ensures in
    listed_next _ _ _ c.args.state.now c.labelled-listed.ensures.fieldless _ _ c.loop-x.x-index _ c.loop-x.invariant c.loop-x-test.true _ _ _ e.advance e.seen_fit_2

pub returns : goal.returns
returns g c = listed_all _ _ _ c.args.state.now c.labelled-listed.ensures.fieldless _ _ c.loop-x.x-index _ c.loop-x.invariant c.loop-x-test.false
