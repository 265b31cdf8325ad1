-- `bit_if` meets its contract. Assumes nothing.
use mathlib.Core.Path.{◌∙◌, ap}
use mathlib.Core.Bool.{cond}
use Prim.Native.Nat.{ℕ}
use Rattle.variantmasks.proofs.bit_if.Goals as goal

pub returns : goal.returns
returns c = c.choose.ensures ∙ ap (λ (x : ℕ). cond c.args.test x 0) c.only.ensures
