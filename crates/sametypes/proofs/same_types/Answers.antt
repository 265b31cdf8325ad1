-- `same_types` meets its contract. Assumes nothing.
use native.Mathlib.Omega.{arith}
use Rattle.std.proofs.lemmas.Bool.Decides.{nat_tests}
use Rattle.sametypes.proofs.ByColumns.{same_is}
use Rattle.sametypes.proofs.same_types.Goals as goal

pub returns-else-eq-3 : goal.returns-else-eq-3
returns-else-eq-3 c = same_is c.args.a c.args.b c.if-eq-2.value (grind (arith, nat_tests))
