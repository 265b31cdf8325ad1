-- The type that growth goes on to, entry by entry, from the columns of a table of types. Assumes nothing.
use Rattle.std.specs.Prelude.{Bool, not, cond, List, ℕ, ◌+◌, ◌*◌, eqb, ltb, get_or}
use Rattle.laws.proofs.Positions.{least}

-- field p of the variant at place w is of infinite type; `finite` has a 1 for each finite type
unfoldable pub infinite_at : List ℕ → List ℕ → ℕ → ℕ → Bool
infinite_at sorts finite w p = not (eqb (get_or finite (get_or sorts (3 * w + p) 0) 0) 1)

-- the first such field, or the number of fields
unfoldable pub chosen_entry : List ℕ → List ℕ → List ℕ → ℕ → ℕ
chosen_entry arities sorts finite w = least (infinite_at sorts finite w) (get_or arities w 0)

-- variant v of the type whose first variant is at place `start` has fields
unfoldable pub fielded_at : List ℕ → ℕ → ℕ → Bool
fielded_at arities start v = ltb 0 (get_or arities (start + v) 0)

unfoldable pub growing_entry : List ℕ → List ℕ → List ℕ → ℕ → ℕ
growing_entry variants first arities t = least (fielded_at arities (get_or first t 0)) (get_or variants t 0)

-- the type of field c of the variant at place w; 0 where there is no such field
unfoldable pub sort_at : List ℕ → List ℕ → ℕ → ℕ → ℕ
sort_at arities sorts w c = cond (ltb c (get_or arities w 0)) (get_or sorts (3 * w + c) 0) 0

-- the type of the chosen field of the growing variant; 0 where no variant has fields
unfoldable pub next_entry : List ℕ → List ℕ → List ℕ → List ℕ → List ℕ → List ℕ → ℕ → ℕ
next_entry variants first arities sorts chosen growing t =
    let w = get_or first t 0 + get_or growing t 0 in
    cond (ltb (get_or growing t 0) (get_or variants t 0)) (sort_at arities sorts w (get_or chosen w 0)) 0
