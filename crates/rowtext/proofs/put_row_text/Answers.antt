-- `put_row_text`: by what the file would write for the first number. Assumes nothing.
use mathlib.Core.Path.{ap, ◌∙◌}
use mir.Facts.{to_z-of_z}
use mir.Syntax.{w32}
use Rattle.guard.specs.Number.{fold_signed}
use Rattle.rowtext.specs.Rows.{row_text}
use Rattle.writing.proofs.Wrote.{same_text}
use Rattle.rowtext.specs.Arity.{arity_in}
use Rattle.rowtext.proofs.RowTexts.{row_even, row_odd}
use Rattle.rowtext.proofs.put_row_text.Goals as goal

pub returns-then-folded-eq0 : goal.returns-then-folded-eq0
unfolding row_text
returns-then-folded-eq0 c = let a = c.args in
    let z = c.number_at in
    let folded = c.fold_signed-folded.ensures ∙ ap fold_signed (to_z-of_z {w = w32} (record { sfits = z.type_inv }) ∙ z.ensures) in
    same_text (row_even (arity_in a.types.now) a.rows.now a.j _ _ folded c.if-folded-eq0.true) c.put_message.ensures

pub returns-else-folded-eq0 : goal.returns-else-folded-eq0
unfolding row_text
returns-else-folded-eq0 c = let a = c.args in
    let z = c.number_at in
    let folded = c.fold_signed-folded.ensures ∙ ap fold_signed (to_z-of_z {w = w32} (record { sfits = z.type_inv }) ∙ z.ensures) in
    same_text (row_odd (arity_in a.types.now) a.rows.now a.j _ _ folded c.if-folded-eq0.false) c.put_valued.ensures
