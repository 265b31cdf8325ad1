-- The finite types as a column, and the rounds that find them. Assumes nothing.
use Rattle.std.specs.Prelude.{Bool, not, ◌&&◌, ◌||◌, cond, List, ℕ, zero, suc, eqb, length, get_or, replicate}
use Rattle.laws.specs.Lists.{all}
use Rattle.guard.specs.Types.{Types, Variant, finite, is_number, variants_of}
use Rattle.finite.specs.TypeColumns.{column}

-- 1 for the types that pass a test
unfoldable pub flags : (ℕ → Bool) → ℕ → List ℕ
flags p n = column (λ t. cond (p t) 1 0) n

unfoldable pub flagged : List ℕ → ℕ → Bool
flagged known t = eqb (get_or known t 0) 1

-- `finite_type` and `finite_variant` with a head start: the types that are known to be finite already. A type's test and
-- a variant's each take a round.
unfoldable mutual
  pub finite_type_from : List ℕ → ℕ → Types → ℕ → Bool
  finite_type_from known zero ts t = flagged known t
  finite_type_from known (suc k) ts t = flagged known t || (not (is_number ts t) && all (λ fs. finite_variant_from known k ts fs) (variants_of ts t))

  pub finite_variant_from : List ℕ → ℕ → Types → Variant → Bool
  finite_variant_from known zero ts fs = eqb (length fs) 0
  finite_variant_from known (suc k) ts fs = all (λ t. finite_type_from known k ts t) fs

-- each time two rounds more: the types whose fields are all known are known too
unfoldable pub known_after : ℕ → Types → List ℕ
known_after zero ts = replicate 6 0
known_after (suc k) ts = flags (finite_type_from (known_after k ts) 2 ts) (length ts)

unfoldable pub finite_column : Types → List ℕ
finite_column ts = flags (finite ts) (length ts)
