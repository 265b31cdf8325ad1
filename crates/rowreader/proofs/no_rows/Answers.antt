-- `no_rows` meets its contract: the table of no rows is all zeros. Assumes nothing.
use mathlib.Core.Path.{refl}
use Rattle.tables.specs.Layout.{row_table}
use Rattle.rowreader.proofs.no_rows.Goals as goal

pub returns : goal.returns
unfolding row_table
returns c = refl
