-- `variants_of` meets its contract: the column of the table has it. Assumes nothing.
use mathlib.Core.Path.{sym}
use Rattle.tables.proofs.Held.{held-variants}
use Rattle.rowparts.proofs.variants_of.Goals as goal

pub returns : goal.returns
returns c = sym (held-variants c.args.table c.args.t c.requires.1)
