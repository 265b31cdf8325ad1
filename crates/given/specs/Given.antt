-- What is given before any rule, by the slots of the arrays. proofs/GivenLaws shows that this is what document 01 gives for
-- the guard. Assumes nothing: definitions.
use Rattle.std.specs.Prelude.{List, ◌++◌, ℕ, ℤ}
use Rattle.guard.specs.Closure.{Fact}
use Rattle.labelfacts.specs.Labels.{all_variants_by, one_variant_by}
use Rattle.constantfacts.specs.Equal.{constants_by}
use Rattle.literalfacts.specs.Literals.{literals_by}

unfoldable pub given_by : List ℕ → List ℕ → List ℕ → List ℕ → List ℤ → List ℕ → List ℕ → List ℕ → ℕ → List Fact
given_by shapes sorts full constants values kinds terms others many =
    all_variants_by sorts full ++ one_variant_by shapes ++ constants_by constants values ++ literals_by kinds terms others many
