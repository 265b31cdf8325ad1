-- The type of each term, and the variants of each type as masks, place by place from the columns of a guard's tables; a
-- number past the end of a column counts as 0. Assumes nothing: definitions.
use Rattle.std.specs.Prelude.{cond, List, map, ℕ, ◌+◌, ◌-◌, eqb, ltb, get_or}
use Rattle.laws.specs.Lists.{from, sum}
use Rattle.guard.specs.Limits.{variant_limit}
use Rattle.columns.specs.Entries.{bit_of, ones_of, plus_one_if}

-- the type of term x, plus one; `many` rows, `count` types
unfoldable pub sort_entry : ℕ → ℕ → List ℕ → List ℕ → ℕ → ℕ
sort_entry many count types siblings x =
    cond (ltb x 24) (plus_one_if (ltb x many) (get_or types x 0)) (cond (ltb x 72) (get_or siblings (x - 24) 0) (plus_one_if (ltb (x - 72) count) (x - 72)))

-- the mask of all variants of type y - 1
unfoldable pub full_entry : List ℕ → ℕ → ℕ
full_entry counts y = cond (eqb y 0) 0 (ones_of (get_or counts (y - 1) 0))

-- variant v of a type whose first one has number `start`, where it is fieldless
unfoldable pub fieldless_bit : List ℕ → ℕ → ℕ → ℕ
fieldless_bit arities start v = cond (eqb (get_or arities (start + v) 0) 0) (bit_of v) 0

-- the fieldless ones of the first n
unfoldable pub fieldless_mask : List ℕ → ℕ → ℕ → ℕ
fieldless_mask arities start n = sum (map (fieldless_bit arities start) (from n 0))

-- the mask of the fieldless variants of type y - 1
unfoldable pub fieldless_entry : List ℕ → List ℕ → List ℕ → ℕ → ℕ
fieldless_entry counts first arities y =
    let n = get_or counts (y - 1) 0 in
    cond (eqb y 0) 0 (fieldless_mask arities (get_or first (y - 1) 0) (cond (ltb n variant_limit) n variant_limit))
