-- `variant_number` meets its contract: the sum is below 48. Assumes nothing.
use native.Mathlib.Omega.{arith}
use Rattle.tables.proofs.Held.{place-small}
use Rattle.rowparts.proofs.variant_number.Goals as goal

pub overflow_add-result : goal.overflow_add-result
overflow_add-result c = omega (arith, place-small c.args.table c.requires.0 c.args.t c.args.v c.requires.1 c.requires.2)

pub returns-clause-in_variants : goal.returns-clause-in_variants
returns-clause-in_variants c = place-small c.args.table c.requires.0 c.args.t c.args.v c.requires.1 c.requires.2
