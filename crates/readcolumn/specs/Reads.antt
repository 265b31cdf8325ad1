-- What rows read, and the constants, place by place from the columns of a guard's tables; a number past the end of a
-- column counts as 0. Assumes nothing: definitions.
use Rattle.std.specs.Prelude.{cond, List, [], ◌∷◌, ℕ, ◌+◌, ◌*◌, ◌-◌, ◌/◌, ◌%◌, eqb, ltb, get_or}
use Rattle.guard.specs.Terms.{default_term}
use Rattle.columns.specs.Entries.{bit_of, plus_one_if}

-- one number for a field of a variant of a type; 0 is none
abbrev pub field_key : ℕ → ℕ → ℕ → ℕ
field_key t v p = 1 + 64 * t + 4 * v + p

-- place j of a read
unfoldable pub read_place : ℕ → ℕ → ℕ → ℕ → ℕ → ℕ → ℕ
read_place a t v p absent j = cond (eqb j 0) a (cond (eqb j 1) (field_key t v p) (cond (eqb j 2) (bit_of v) absent))

-- its four places
abbrev pub four_places : ℕ → ℕ → ℕ → ℕ → ℕ → ℕ
four_places a key bit absent j = get_or (a ∷ key ∷ bit ∷ absent ∷ []) j 0

-- place j of row i, which is a field read
abbrev pub row_read : List ℕ → List ℕ → List ℕ → ℕ → ℕ → ℕ
row_read types variants parts i j =
    let a = get_or parts (3 * i) 0 in
    read_place a (get_or types a 0) (get_or variants i 0) (get_or parts (3 * i + 1) 0) (default_term (get_or types i 0)) j

-- four places to a row
unfoldable pub read_entry : List ℕ → List ℕ → List ℕ → List ℕ → ℕ → ℕ
read_entry kinds types variants parts x = cond (eqb (get_or kinds (x / 4) 0) 3) (row_read types variants parts (x / 4) (x % 4)) 0

-- the type of the constant in slot i, plus one: 24 rows, then the defaults of `count` types
unfoldable pub constant_entry : ℕ → List ℕ → List ℕ → List ℕ → ℕ → ℕ
constant_entry count kinds types counts i =
    cond (ltb i 24) (plus_one_if (eqb (get_or kinds i 0) 1) (get_or types i 0)) (cond (eqb (get_or counts (i - 24) 0) 0) (plus_one_if (ltb (i - 24) count) (i - 24)) 0)
