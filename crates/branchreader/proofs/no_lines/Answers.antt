-- `no_lines` meets its contract. Assumes nothing.
use mathlib.Core.Path.{refl}
use Rattle.tables.specs.Layout.{literal_table}
use Rattle.branchreader.proofs.no_lines.Goals as goal

pub returns : goal.returns
unfolding literal_table
returns c = refl
