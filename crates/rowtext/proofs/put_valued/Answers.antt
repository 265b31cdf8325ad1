-- `put_valued`: the type, and the value after a word. Assumes nothing.
use mathlib.Core.Path.{ap, ◌∙◌}
use mathlib.Core.List.{◌++◌}
use native.Mathlib.Omega.{arith}
use lib.IntN.{ℤ}
use mir.Facts.{to_z-of_z}
use mir.Syntax.{w64}
use Rattle.rowtext.specs.Rows.{value_text}
use Rattle.writing.specs.Words.{ascii, named, signed}
use Rattle.writing.proofs.Wrote.{and_then, more_room, same_text}
use Rattle.rowtext.proofs.put_valued.Goals as goal

pub returns : goal.returns
unfolding value_text
returns c = let a = c.args in
    let z = c.row_value in
    same_text (ap (λ (y : ℤ). named " type " a.t ++ ascii " number " ++ signed y) (to_z-of_z {w = w64} (record { sfits = z.type_inv }) ∙ z.ensures))
    (more_room 77 (omega arith) (and_then (and_then c.put_named.ensures c.put_bytes.ensures) c.put_value.ensures))
