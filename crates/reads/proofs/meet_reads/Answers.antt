-- `meet_reads` meets its contract. Assumes nothing.
use native.Mathlib.Omega.{arith}
use Rattle.std.proofs.lemmas.Bool.Decides.{nat_tests}
use Rattle.reads.proofs.Joins.{reads-apart, reads_joined}
use Rattle.reads.proofs.meet_reads.Goals as goal

pub returns-then-key-eq0 : goal.returns-then-key-eq0
returns-then-key-eq0 c = reads-apart _ _ _ _ (grind (arith, nat_tests))

pub returns-then-key : goal.returns-then-key
returns-then-key c = reads-apart _ _ _ _ (grind (arith, nat_tests))

pub returns-then-not-same_class : goal.returns-then-not-same_class
returns-then-not-same_class c = reads-apart _ _ _ _ (grind (arith, nat_tests))

pub returns : goal.returns
returns c = reads_joined _ _ _ _ (grind (arith, nat_tests)) _ _ c.unite.ensures.after c.unite.ensures.value
