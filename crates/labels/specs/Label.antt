-- The variants of a label. Assumes nothing: definitions.
use Rattle.std.specs.Prelude.{not, List, ℕ, eqb}
use Rattle.laws.specs.Bits.{bit}
use Rattle.laws.specs.Lists.{filter, from}
use Rattle.guard.specs.Limits.{variant_limit}

-- in order, those below some number
abbrev pub variants_below : ℕ → ℕ → List ℕ
variants_below k label = filter (λ v. not (eqb (bit label v) 0)) (from k 0)

unfoldable pub variants_in : ℕ → List ℕ
variants_in label = variants_below variant_limit label
