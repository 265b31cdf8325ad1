-- `put_signed`: by what the file would write. Assumes nothing.
use native.Mathlib.Omega.{arith}
use mathlib.Core.Path.{ap, ◌∙◌}
use mir.Facts.{to_z-of_z}
use Rattle.guard.specs.Number.{fold_signed}
use Rattle.writing.proofs.Wrote.{more_room, same_text}
use Rattle.writing.proofs.Signs.{signed_even, signed_odd}
use Rattle.writing.proofs.put_signed.Goals as goal

pub returns-then-folded-eq0 : goal.returns-then-folded-eq0
returns-then-folded-eq0 c = same_text (signed_even c.args.value c.fold_signed-folded.result (c.fold_signed-folded.ensures ∙ ap fold_signed (to_z-of_z c.ranges.value)) c.if-folded-eq0.true) (more_room 11 (omega arith) c.put_number.ensures)

pub returns-else-folded-eq0 : goal.returns-else-folded-eq0
returns-else-folded-eq0 c = same_text (signed_odd c.args.value c.fold_signed-folded.result (c.fold_signed-folded.ensures ∙ ap fold_signed (to_z-of_z c.ranges.value)) c.if-folded-eq0.false) c.put_named.ensures
