-- `put_message`: the type, the variant and the parts. Assumes nothing.
use mathlib.Core.Path.{ap}
use mathlib.Core.List.{◌++◌}
use Prim.Native.Nat.{ℕ}
use native.Mathlib.Omega.{arith}
use Rattle.guard.specs.Shown.{tag_type, tag_variant}
use Rattle.writing.specs.Words.{named}
use Rattle.rowtext.specs.Rows.{made_text, parts_text}
use Rattle.writing.proofs.Wrote.{and_then, more_room, same_text}
use Rattle.rowtext.proofs.put_message.Goals as goal

pub returns : goal.returns
unfolding made_text
returns c = let a = c.args in
    same_text (ap (λ (n : ℕ). named " type " (tag_type a.tag) ++ named " variant " (tag_variant a.tag) ++ parts_text a.rows.now a.j n) c.arity.ensures)
    (more_room 77 (omega arith) (and_then (and_then c.put_named.ensures c.put_named-2.ensures) c.put_parts.ensures))
