-- `values::unfold` meets its contract, in the two cases of its test. Assumes nothing.
use Prim.Native.Nat.{◌<◌, ◌/◌, ◌^◌}
use native.Mathlib.Omega.{arith}
use mir.Syntax.{w64}
use Rattle.numbers.proofs.Signed.{less-fits, unfold_even, unfold_odd}
use Rattle.values.proofs.unfold.Goals as goal
use Rattle.values.proofs.unfold.Goals.{Start}

half : (c : Start) → c.args.n / 2 < 2 ^ 63
half c = omega (arith, c.ranges.n.fits)

pub returns-then-n-eq0 : goal.returns-then-n-eq0
returns-then-n-eq0 c = unfold_even w64 c.args.n (half c.before) (omega arith)

pub overflow_sub-result : goal.overflow_sub-result
overflow_sub-result c = record { sfits = (less-fits w64 c.args.n (half c.before)).sfits }

pub returns : goal.returns
returns c = unfold_odd w64 c.args.n (half c.before) (λ e. omega (arith, c.if-n-eq0.false))
