-- `store` meets its contract: a store in each column, three for the parts; the value of the row fits, so it is stored as it is.
-- Assumes nothing.
use Rattle.std.proofs.Common.{refl, rules, w64}
use mir.Val.{SFits}
use mir.Facts.{to_z-of_z}
use Rattle.rowreader.specs.RowReader.{stored}
use Rattle.rowreader.proofs.store.Goals as goal

pub returns : goal.returns
unfolding stored
returns c =
    let fits : SFits w64 c.args.row.value = search rules in
    rw (to_z-of_z fits) refl
