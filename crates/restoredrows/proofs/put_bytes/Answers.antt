-- `put_bytes`: all bytes are put. Assumes nothing.
use native.Mathlib.Omega.{arith}
use Rattle.restoredrows.proofs.ByteLaws.{all_put}
use Rattle.restoredrows.proofs.put_bytes.Goals as goal

pub returns : goal.returns
returns c = all_put c.args.bytes.now c.loop-i.invariant (omega (arith, c.loop-i-test.false))
