-- `put_constant`: kind and type, and the value behind them. Assumes nothing.
use mathlib.Core.Path.{ap, ◌∙◌}
use mir.Facts.{to_z-of_z}
use Rattle.guard.specs.Number.{fold_signed}
use Rattle.rowwriter.proofs.KindLaws.{constant_full, constant_put}
use Rattle.rowwriter.proofs.put_constant.Goals as goal

pub returns-in_err-put : goal.returns-in_err-put
returns-in_err-put c = rw c.from_residual.ensures (constant_full c.args.t c.args.x c.requires c.in_err-put.ensures)

pub returns : goal.returns
returns c = constant_put c.args.t c.args.x c.requires c.in_ok-put.ensures c.fold.result (c.fold.ensures ∙ ap fold_signed (to_z-of_z c.ranges.x)) c.put_number.ensures
