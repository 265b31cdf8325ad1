-- `rank_classes` meets its contract. Invariant: what the rounds left come to is the whole. Assumes nothing.
use Rattle.ranks.proofs.Rounds.{rank-next, rank_out, rank-start, rank_stop}
use Rattle.ranks.proofs.rank_classes.Goals as goal

pub loop-round-init : goal.loop-round-init
loop-round-init c = let a = c.args in rank-start a.shapes.now.slots a.state.now

pub returns-then-not-raise_all : goal.returns-then-not-raise_all
returns-then-not-raise_all c = let l = c.loop-round in
    let a = c.args in
    let e = c.raise_all.ensures in
    let s = rank_stop a.shapes.now.slots a.state.now l.round l.ranks l.invariant c.loop-round-test.true c.raise_all.result e.value _ e.ranks_after c.if-not-raise_all.true in
    record { value = s.0; ranks_after = s.1 }

pub loop-round-preserved : goal.loop-round-preserved
loop-round-preserved c = let l = c.loop-round in
    let a = c.args in
    let e = c.raise_all.ensures in
    rank-next a.shapes.now.slots a.state.now l.round l.ranks l.invariant c.loop-round-test.true c.raise_all.result e.value _ e.ranks_after c.if-not-raise_all.false

pub returns : goal.returns
returns c = let l = c.loop-round in
    let a = c.args in
    let e = rank_out a.shapes.now.slots a.state.now l.round l.ranks l.invariant c.loop-round-test.false in
    record { value = e.0; ranks_after = e.1 }
