-- Growth step by step, entry by entry, from the column of next types. Assumes nothing.
use Rattle.std.specs.Prelude.{Bool, List, ℕ, eqb, get_or}
use Rattle.laws.proofs.Positions.{least}
use Rattle.growth.proofs.Orbit.{distance, iterate, period, root}

-- growth goes on from a type to the type in this column
unfoldable pub on_to : List ℕ → ℕ → ℕ
on_to next t = get_or next t 0

unfoldable pub number_after : List ℕ → List ℕ → ℕ → ℕ → Bool
number_after variants next t k = eqb (get_or variants (iterate (on_to next) k t) 0) 0

unfoldable pub steps_entry : List ℕ → List ℕ → ℕ → ℕ → ℕ
steps_entry variants next many t = least (number_after variants next t) many

-- k steps lead from t to u
unfoldable pub met_after : List ℕ → ℕ → ℕ → ℕ → Bool
met_after next t u k = eqb (iterate (on_to next) k t) u

unfoldable pub root_entry : List ℕ → ℕ → ℕ → ℕ
root_entry next many t = root (on_to next) many t

unfoldable pub distance_entry : List ℕ → ℕ → ℕ → ℕ
distance_entry next many t = distance (on_to next) many t

unfoldable pub period_entry : List ℕ → ℕ → ℕ → ℕ
period_entry next many t = period (on_to next) many t
