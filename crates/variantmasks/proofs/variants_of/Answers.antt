-- `variants_of` meets its contract. Assumes nothing.
use mathlib.Core.Path.{◌∙◌, ap}
use Prim.Native.Nat.{ℕ}
use native.Mathlib.Omega.{arith}
use lib.ListN.{get_or}
use Rattle.variantmasks.proofs.RowLaws.{variants-none, variants-there}
use Rattle.variantmasks.proofs.variants_of.Goals as goal

pub returns-then-i-rows : goal.returns-then-i-rows
returns-then-i-rows c = record {
  are = λ limits lines g held.
      c.at-then-i-rows.ensures ∙ ap (λ (t : ℕ). get_or c.args.types.variants t 0) c.at.ensures
      ∙ variants-there g held c.args.i (omega arith);
}

pub returns : goal.returns
returns c = record { are = λ limits lines g held. variants-none g held c.args.i (omega arith) }
