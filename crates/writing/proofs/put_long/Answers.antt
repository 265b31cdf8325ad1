-- `put_long`: the digits are the fewest. Assumes nothing.
use native.Mathlib.Omega.{arith}
use mathlib.Core.Path.{◌∙◌}
use Rattle.writing.proofs.Wrote.{more_room, same_text}
use Rattle.writing.proofs.Decimals.{decimal_digits, nineteen_digits}
use Rattle.writing.proofs.put_long.Goals as goal

pub returns : goal.returns
returns c = let d = c.decimal-k.ensures in
    let few = nineteen_digits c.args.n _ d.len (omega arith) in
    same_text (d.digits ∙ decimal_digits _ _ d.len) (more_room 19 (omega (arith, d.in_bounds, few)) c.put_bytes.ensures)
