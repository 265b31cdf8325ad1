-- Constants of a class, by their slots: whether two of them differ in value. Assumes nothing: definitions.
use Rattle.std.specs.Prelude.{Bool, not, ◌&&◌, List, ℕ, eqb, ℤ}
use Rattle.laws.specs.Lists.{any, from}
use Rattle.guard.specs.Closure.{eq_z}
use Rattle.loops.specs.Lowest.{lowest}
use Rattle.constants.specs.Constants.{constant_value, is_constant}
use Rattle.reasons.specs.Reasons.{constant_class}

-- slot k has a constant of class c
unfoldable pub is_constant_of : List ℕ → List ℕ → ℕ → ℕ → Bool
is_constant_of constants classes c k = is_constant constants k && eqb (constant_class classes k) c

-- and of another value than slot f
unfoldable pub other_constant : List ℕ → List ℤ → List ℕ → ℕ → ℕ → ℕ → Bool
other_constant constants values classes c f k = is_constant_of constants classes c k && not (eq_z (constant_value values k) (constant_value values f))

-- there is such a slot
unfoldable pub has_other : List ℕ → List ℤ → List ℕ → ℕ → ℕ → Bool
has_other constants values classes c f = any (other_constant constants values classes c f) (from 30 0)

-- one of the class differs from the first of it
unfoldable pub unlike_in : List ℕ → List ℤ → List ℕ → ℕ → Bool
unlike_in constants values classes c = has_other constants values classes c (lowest (is_constant_of constants classes c) 30)
