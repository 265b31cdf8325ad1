-- The labels that terms have before any rule, by the slots of the arrays. Assumes nothing: definitions.
use Rattle.std.specs.Prelude.{Bool, not, ◌&&◌, List, [], ◌∷◌, ℕ, ◌-◌, ◌%◌, ◌^◌, eqb, get_or}
use Rattle.laws.specs.Lists.{concat_map, from, when}
use Rattle.guard.specs.Closure.{Fact, Fact.within}
use Rattle.arrays.specs.Slots.{kind_at, others_at, owner_at, sort_at}

-- "each term of variant type has a label, a set of variants: at first all"
unfoldable pub all_variants_at : List ℕ → List ℕ → ℕ → List Fact
all_variants_at sorts full x = when (not (eqb (sort_at sorts x) 0)) (within x (get_or full (sort_at sorts x) 0) ∷ [])

unfoldable pub all_variants_by : List ℕ → List ℕ → List Fact
all_variants_by sorts full = concat_map (all_variants_at sorts full) (from 78 0)

-- a term built by a variant whatever its label, so a built row or a default
abbrev pub is_build : List ℕ → ℕ → Bool
is_build shapes k = not (eqb (kind_at shapes k) 0) && eqb (others_at shapes k) 0

-- the variant of a shape, from the number of its kind
abbrev pub variant_at : List ℕ → ℕ → ℕ
variant_at shapes k = (kind_at shapes k - 1) % 16

-- "one alone for a built row or a default"
unfoldable pub one_variant_at : List ℕ → ℕ → List Fact
one_variant_at shapes k = when (is_build shapes k) (within (owner_at shapes k) (2 ^ variant_at shapes k) ∷ [])

unfoldable pub one_variant_by : List ℕ → List Fact
one_variant_by shapes = concat_map (one_variant_at shapes) (from 30 0)
