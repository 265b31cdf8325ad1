-- The shape of a row, place by place from the columns of a guard's tables; a number past the end of a column counts as 0.
-- Assumes nothing: definitions.
use Rattle.std.specs.Prelude.{cond, List, [], ◌∷◌, ℕ, ◌+◌, ◌*◌, ◌-◌, eqb, ltb, get_or}
use Rattle.guard.specs.Closure.{every_variant}
use Rattle.columns.specs.Entries.{bit_of}

-- one number for a variant of a type; 0 is none
abbrev pub kind_number : ℕ → ℕ → ℕ
kind_number t v = 1 + 16 * t + v

-- place j of a shape, `part` being the part that stands there from place 4 on
unfoldable pub shape_place : ℕ → ℕ → ℕ → ℕ → ℕ → ℕ → ℕ → ℕ
shape_place owner t v others many part j =
    cond (eqb j 0) owner (cond (eqb j 1) (kind_number t v) (cond (eqb j 2) others (cond (eqb j 3) many part)))

-- its eight places
abbrev pub eight_places : ℕ → ℕ → ℕ → ℕ → ℕ → ℕ → ℕ → ℕ → ℕ → ℕ
eight_places owner kind others many a b c d j = get_or (owner ∷ kind ∷ others ∷ many ∷ a ∷ b ∷ c ∷ d ∷ []) j 0

-- from a column with three places to a row: what stands in place j of the shape of row i, from place 4 on
unfoldable pub part_place : List ℕ → ℕ → ℕ → ℕ
part_place column i j = cond (ltb j 7) (get_or column (3 * i + j - 4) 0) 0

-- how many fields variant v of type t has
unfoldable pub arity_of : List ℕ → List ℕ → ℕ → ℕ → ℕ
arity_of first arities t v = get_or arities (get_or first t 0 + v) 0

-- by the kind of row i: the term built or read, its variants that must have gone, its parts
unfoldable pub owner_of : ℕ → List ℕ → ℕ → ℕ
owner_of kind parts i = cond (eqb kind 3) (get_or parts (3 * i) 0) i

unfoldable pub others_of : ℕ → ℕ → ℕ
others_of kind v = cond (eqb kind 3) (every_variant - bit_of v) 0

unfoldable pub row_part : ℕ → List ℕ → List ℕ → ℕ → ℕ → ℕ
row_part kind parts fields i j = cond (eqb kind 3) (part_place fields i j) (part_place parts i j)

unfoldable pub row_place : List ℕ → List ℕ → List ℕ → List ℕ → List ℕ → List ℕ → List ℕ → ℕ → ℕ → ℕ
row_place kinds types variants parts fields first arities i j =
    let kind = get_or kinds i 0 in
    let owner = owner_of kind parts i in
    let t = get_or types owner 0 in
    let v = get_or variants i 0 in
    cond (ltb kind 2) 0 (shape_place owner t v (others_of kind v) (arity_of first arities t v) (row_part kind parts fields i j) j)
