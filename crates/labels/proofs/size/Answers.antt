-- `size` meets its contract. Assumes nothing.
use Rattle.labels.proofs.LabelLaws.{size_is}
use native.Mathlib.Omega.{arith}
use Rattle.labels.proofs.size.Goals as goal

pub returns : goal.returns
returns c = size_is c.args.label (omega arith)
