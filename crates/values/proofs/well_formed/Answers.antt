-- `values::well_formed` meets its contract, by its last byte and its count. Assumes nothing.
use mathlib.Core.Path.{◌≡◌, ap, ◌∙◌}
use mathlib.Core.Bool.{not}
use Prim.Native.Nat.{◌-◌}
use native.Mathlib.Omega.{arith}
use lib.ListN.{length, get_or}
use borrow.Author.Tests.{eq-eqb}
use Rattle.values.proofs.Formed.{formed_overlong}
use Rattle.values.proofs.well_formed.Goals as goal

pub returns-else-last-ne0 : goal.returns-else-last-ne0
returns-else-last-ne0 c = let l = c.args.number.now in
    let none : get_or l (length l - 1) 0 ≡ 0 = omega arith in
    ap not (eq-eqb _ 0 none) ∙ formed_overlong l (omega arith) (omega arith) (omega arith) none
