-- The types of the fields, one after another: what is left to read, after those that are read, is the whole, and the column
-- holds them. Assumes nothing.
use Rattle.std.proofs.lemmas.Grind.{common_steps}
use native.Mathlib.Omega.{arith}
use Rattle.variantreader.proofs.Readers.{sorts-next, sorts_stop}
use Rattle.variantreader.proofs.read_sorts.Goals as goal

pub returns-in_err-n : goal.returns-in_err-n
returns-in_err-n c = let a = c.args in
    let l = c.loop-i in
    let e = sorts_stop a.bytes.now a.at a.arity a.many l.i l.next l.sorts l.invariant c.loop-i-test.true _ c.in_err-n.ensures in
    grind (arith, common_steps)

pub loop-i-preserved : goal.loop-i-preserved
loop-i-preserved c = let l = c.loop-i in
    sorts-next _ _ _ _ l.i l.next l.sorts l.invariant c.loop-i-test.true c.requires.0 _ _ c.in_ok-n.ensures
