-- `put_value`: by its sign. Assumes nothing.
use mathlib.Core.Path.{ap, ◌∙◌}
use Prim.Native.Nat.{◌+◌}
use native.Mathlib.Omega.{arith}
use lib.IntN.{ℤ, nat_abs}
use Rattle.numbers.proofs.Signed.{negative, not_negative}
use Rattle.writing.proofs.Wrote.{and_then, more_room, same_text}
use Rattle.writing.proofs.Signs.{signed_above, signed_below}
use Rattle.writing.proofs.put_value.Goals as goal

pub returns-then-value-lt0 : goal.returns-then-value-lt0
returns-then-value-lt0 c = let n = (negative c.args.value c.ranges.value c.if-value-lt0.true) in
    same_text (signed_below _ n.k _ n.is (ap (λ (z : ℤ). nat_abs z + 1) n.less ∙ omega arith))
    (and_then c.put_bytes.ensures c.put_long.ensures)

pub returns-else-value-lt0 : goal.returns-else-value-lt0
returns-else-value-lt0 c = let n = (not_negative c.args.value c.ranges.value c.if-value-lt0.false) in
    same_text (signed_above _ n.k _ n.is (ap nat_abs n.same)) (more_room 20 (omega arith) c.put_long-else-value-lt0.ensures)
