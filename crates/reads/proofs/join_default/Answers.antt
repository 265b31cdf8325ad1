-- `join_default` meets its contract. Assumes nothing.
use native.Mathlib.Omega.{arith}
use Rattle.std.proofs.lemmas.Bool.Decides.{nat_tests}
use Rattle.reads.proofs.Joins.{default-apart, default_joined}
use Rattle.reads.proofs.join_default.Goals as goal

pub returns-then-key-eq0 : goal.returns-then-key-eq0
returns-then-key-eq0 c = default-apart _ _ _ (grind (arith, nat_tests))

pub returns-then-label_of-bit-ne0 : goal.returns-then-label_of-bit-ne0
returns-then-label_of-bit-ne0 c = default-apart _ _ _ (grind (arith, nat_tests))

pub returns : goal.returns
returns c = default_joined _ _ _ (grind (arith, nat_tests)) _ _ _ c.default.ensures c.unite.ensures.after c.unite.ensures.value
