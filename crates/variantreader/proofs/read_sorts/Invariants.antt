-- The types of the fields, one after another: what is left to read, after those that are read, is the whole, and the column
-- holds them. Assumes nothing.
use Rattle.variantreader.proofs.Readers.{SomeSorts}
use Rattle.variantreader.proofs.read_sorts.Given as goal

abbrev pub invariant-loop-i : goal.invariant-loop-i
invariant-loop-i l = SomeSorts l.bytes l.at l.arity l.many l.i l.next l.sorts
