-- `values::fits` meets its contract: where there is a second half, it decides. Assumes nothing.
use native.Mathlib.Omega.{arith}
use Rattle.values.proofs.Halves.{fits-short}
use Rattle.values.proofs.fits.Goals as goal

pub returns-then-number-le5 : goal.returns-then-number-le5
returns-then-number-le5 c = fits-short c.args.number.now (omega arith)
