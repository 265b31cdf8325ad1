-- The facts that equal constants give, by their slots. Assumes nothing: definitions.
use Rattle.std.specs.Prelude.{Bool, ◌&&◌, List, [], ◌∷◌, ℕ, eqb, ℤ, get_or}
use Rattle.laws.specs.Lists.{concat_map, from, when}
use Rattle.guard.specs.Closure.{Fact, Fact.same, eq_z}
use Rattle.constants.specs.Constants.{constant_term, constant_value, is_constant}

module _ (constants : List ℕ) (values : List ℤ) where
  -- there is a constant in slot k, and slot j has one of its type and value
  unfoldable pub same_constant : ℕ → ℕ → Bool
  same_constant k j = is_constant constants k && (eqb (get_or constants j 0) (get_or constants k 0) && eq_z (constant_value values j) (constant_value values k))

  -- "constants of one type and one value are equal"
  unfoldable pub constants_meet : ℕ → ℕ → List Fact
  constants_meet k j = when (same_constant k j) (same (constant_term j) (constant_term k) ∷ [])

  unfoldable pub constants_at : ℕ → List Fact
  constants_at k = concat_map (constants_meet k) (from k 0)

  unfoldable pub constants_by : List Fact
  constants_by = concat_map constants_at (from 30 0)
