-- `put_number`: the digits are the fewest. Assumes nothing.
use native.Mathlib.Omega.{arith}
use mathlib.Core.Path.{◌∙◌}
use Rattle.writing.proofs.Wrote.{more_room, same_text}
use Rattle.writing.proofs.Decimals.{decimal_digits, ten_digits}
use Rattle.writing.proofs.put_number.Goals as goal

pub put_bytes-requires : goal.put_bytes-requires
put_bytes-requires c = let d = c.decimal-k.ensures in omega (arith, d.in_bounds, ten_digits c.args.n _ d.len (omega arith))

pub returns : goal.returns
returns c = let d = c.decimal-k.ensures in
    let few = ten_digits c.args.n _ d.len (omega arith) in
    same_text (d.digits ∙ decimal_digits _ _ d.len) (more_room 10 (omega (arith, d.in_bounds, few)) c.put_bytes.ensures)
