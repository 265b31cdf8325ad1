-- `variant_count`: where there is such a type, the table says it. Assumes nothing.
use mathlib.Core.Path.{sym}
use Rattle.tables.proofs.Held.{held-variants}
use Rattle.columnreader.proofs.TypeLaws.{no-type}
use Rattle.columnreader.proofs.variant_count.Goals as goal

pub returns-then-table-t : goal.returns-then-table-t
returns-then-table-t c = sym (no-type c.args.table c.args.t c.if-table-t.true)

pub returns : goal.returns
returns c = sym (held-variants c.args.table c.args.t c.if-table-t.false)
