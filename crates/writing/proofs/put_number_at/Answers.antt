-- `put_number_at`: a space and a number. Assumes nothing.
use mathlib.Core.Path.{ap, ◌∙◌}
use mir.Facts.{to_z-of_z}
use mir.Syntax.{w32}
use mathlib.Core.List.{◌++◌}
use lib.IntN.{ℤ}
use Rattle.writing.proofs.Wrote.{and_then, same_text}
use Rattle.writing.specs.Words.{ascii, number_text, signed}
use Rattle.writing.proofs.put_number_at.Goals as goal

pub returns : goal.returns
unfolding number_text
returns c = same_text (ap (λ (z : ℤ). ascii " " ++ signed z) (to_z-of_z {w = w32} (record { sfits = c.number_at.type_inv }) ∙ c.number_at.ensures)) (and_then c.put_bytes.ensures c.put_signed.ensures)
