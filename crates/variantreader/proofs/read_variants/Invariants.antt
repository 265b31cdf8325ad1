-- Variant after variant: what is left to read, after those that are read, is the whole, and the columns hold them behind
-- those that were there. Assumes nothing.
use Rattle.variantreader.proofs.Readers.{SomeVariants}
use Rattle.variantreader.proofs.read_variants.Given as goal

abbrev pub invariant-loop-i : goal.invariant-loop-i
invariant-loop-i l = SomeVariants l.bytes l.at l.count l.many l.w l.initial.arities l.initial.sorts l.i l.next l.arities l.sorts
