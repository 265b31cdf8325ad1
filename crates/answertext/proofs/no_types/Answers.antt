-- `no_types`: each column is zeros. Assumes nothing.
use Rattle.std.proofs.Common.{refl}
use Rattle.tables.specs.Layout.{type_table}
use Rattle.answertext.proofs.no_types.Goals as goal

pub returns : goal.returns
unfolding type_table
returns c = refl
