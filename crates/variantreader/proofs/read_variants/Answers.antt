-- Variant after variant: what is left to read, after those that are read, is the whole, and the columns hold them behind
-- those that were there. Assumes nothing.
use Rattle.std.proofs.lemmas.Grind.{common_steps}
use native.Mathlib.Omega.{arith}
use Rattle.variantreader.proofs.Readers.{stores_nothing, variants-next, variants_halt, variants_stop}
use Rattle.variantreader.proofs.read_variants.Goals as goal

pub returns-in_err-r-clause-reads : goal.returns-in_err-r-clause-reads
returns-in_err-r-clause-reads c = let a = c.args in
    let l = c.loop-i in
    let e = variants_stop a.bytes.now a.at a.count a.many a.w a.arities.now a.sorts.now l.i l.next l.arities l.sorts l.invariant c.loop-i-test.true _ c.in_err-r.ensures in
    grind (arith, common_steps)

pub returns-in_err-r-clause-stores : goal.returns-in_err-r-clause-stores
returns-in_err-r-clause-stores c = let a = c.args in
    let l = c.loop-i in
    stores_nothing _ _ _ _ _ _ _ _ (variants_halt _ _ _ _ _ _ _ l.i l.next l.arities l.sorts l.invariant c.loop-i-test.true _ c.in_err-r.ensures)

pub loop-i-preserved : goal.loop-i-preserved
loop-i-preserved c = let l = c.loop-i in
    variants-next _ _ _ _ _ _ _ l.i l.next l.arities l.sorts l.invariant c.loop-i-test.true c.requires.0 c.requires.1 _ _ c.in_ok-r.ensures
    _ _ c.store_variant.ensures.0 c.store_variant.ensures.1
