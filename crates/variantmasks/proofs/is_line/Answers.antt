-- `is_line` meets its contract. Assumes nothing.
use mathlib.Core.Path.{refl}
use Rattle.tables.specs.Layout.{literal_table}
use Rattle.variantmasks.proofs.is_line.Goals as goal

pub returns : goal.returns
unfolding literal_table
returns c = refl
