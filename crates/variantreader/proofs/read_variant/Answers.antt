-- The count of fields, then their types. Assumes nothing.
use Rattle.std.proofs.lemmas.Grind.{common_steps}
use native.Mathlib.Omega.{arith}
use Rattle.variantreader.proofs.Readers.{variant-done, variant_stop}
use Rattle.variantreader.proofs.read_variant.Goals as goal

pub returns-in_err-n : goal.returns-in_err-n
returns-in_err-n c = let a = c.args in
    let e = variant_stop a.bytes.now a.at a.many _ c.in_err-n.ensures in
    grind (arith, common_steps)

pub returns : goal.returns
returns c = variant-done _ _ _ _ _ c.in_ok-n.ensures _ _ c.in_ok-f.ensures
