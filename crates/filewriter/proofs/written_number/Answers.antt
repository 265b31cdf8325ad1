-- `written_number` meets its contract. Assumes nothing.
use mathlib.Core.Path.{ap, sym, ◌∙◌}
use native.Mathlib.Omega.{arith}
use lib.IntN.{nat_abs}
use mir.Facts.{to_z-of_z}
use Rattle.guard.specs.Number.{fold_signed}
use Rattle.filewriter.proofs.TokenLaws.{plain_fits, plain-listed, value-folded}
use Rattle.filewriter.proofs.written_number.Goals as goal

pub returns-then-mark-eq1 : goal.returns-then-mark-eq1
returns-then-mark-eq1 c = record { is = λ k e f. c.fold.ensures ∙ ap fold_signed (to_z-of_z c.ranges.x ∙ e) ∙ value-folded k (sym f ∙ c.if-mark-eq1.true) }

pub overflow_cast-result : goal.overflow_cast-result
overflow_cast-result c = rw (to_z-of_z c.ranges.x, c.requires.is, plain-listed c.requires.token (λ e. c.if-mark-eq1.false (c.requires.marked ∙ e))) (tt, omega (arith, plain_fits c.requires.token (λ e. c.if-mark-eq1.false (c.requires.marked ∙ e)) c.requires.fits))

pub returns : goal.returns
returns c = record { is = λ k e f. ap nat_abs (to_z-of_z c.ranges.x ∙ e ∙ plain-listed k (λ q. c.if-mark-eq1.false (f ∙ q))) }
