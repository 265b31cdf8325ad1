-- `highest_rank` meets its contract. Invariant: the highest rank below. Assumes nothing.
use native.Mathlib.Omega.{arith}
use Rattle.plans.proofs.CodeTests.{highest-all, highest-next, highest-none}
use Rattle.plans.proofs.highest_rank.Goals as goal

pub loop-c-init : goal.loop-c-init
loop-c-init c = highest-none c.args.marks.now c.args.ranks.now

pub loop-c-preserved : goal.loop-c-preserved
loop-c-preserved c = let a = c.args in
    let l = c.loop-c in
    highest-next a.marks.now a.ranks.now l.c l.most c.higher-most.result l.invariant c.higher-most.ensures

pub returns : goal.returns
returns c = let a = c.args in
    let l = c.loop-c in
    highest-all a.marks.now a.ranks.now l.c l.most (omega (arith, c.loop-c-test.false)) l.invariant
