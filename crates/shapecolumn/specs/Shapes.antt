-- The shapes of rows and defaults, place by place from the columns of a guard's tables; a number past the end of a column
-- counts as 0. Assumes nothing: definitions.
use Rattle.std.specs.Prelude.{cond, List, ℕ, ◌+◌, ◌*◌, ◌-◌, ◌/◌, ◌%◌, eqb, ltb, get_or}
use Rattle.guard.specs.Terms.{default_term}
use Rattle.rowshapes.specs.RowShapes.{arity_of, row_place, shape_place}

-- what stands in place j of the shape of a default of type t and variant v, from place 4 on
unfoldable pub default_part : List ℕ → List ℕ → List ℕ → ℕ → ℕ → ℕ → ℕ
default_part first arities sorts t v j =
    cond (ltb (j - 4) (arity_of first arities t v)) (default_term (get_or sorts (3 * (get_or first t 0 + v) + (j - 4)) 0)) 0

-- place j of the shape of the default of type t: of one that is made, and of any
abbrev pub made_place : List ℕ → List ℕ → List ℕ → List ℕ → ℕ → ℕ → ℕ
made_place defaults first arities sorts t j =
    let v = get_or defaults t 0 in
    shape_place (default_term t) t v 0 (arity_of first arities t v) (default_part first arities sorts t v j) j

unfoldable pub default_place : List ℕ → List ℕ → List ℕ → List ℕ → List ℕ → ℕ → ℕ → ℕ
default_place counts defaults first arities sorts t j = cond (eqb (get_or counts t 0) 0) 0 (made_place defaults first arities sorts t j)

-- eight places to a slot: 24 rows, then the defaults
unfoldable pub shape_entry : List ℕ → List ℕ → List ℕ → List ℕ → List ℕ → List ℕ → List ℕ → List ℕ → List ℕ → List ℕ → ℕ → ℕ
shape_entry kinds types variants parts fields counts defaults first arities sorts x =
    cond (ltb x 192) (row_place kinds types variants parts fields first arities (x / 8) (x % 8)) (default_place counts defaults first arities sorts (x / 8 - 24) (x % 8))
