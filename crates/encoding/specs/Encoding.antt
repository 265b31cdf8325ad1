-- How a number is written. Quoted sentences are document 01's. Assumes nothing.
use Rattle.std.specs.Prelude.{cond, List, [], ◌∷◌, ℕ, zero, suc, ◌+◌, ◌/◌, ◌%◌, ltb}
use Rattle.guard.specs.Number.{Width, value_width, width32}

-- "A number is written in groups of seven bits, low group first; bit 80 is set in every byte but the last."; "uses the
-- fewest bytes". At most so many bytes.
abbrev pub groups_of : ℕ → ℕ → List ℕ
groups_of zero n = []
groups_of (suc k) n = cond (ltb n 128) (n ∷ []) ((128 + n % 128) ∷ groups_of k (n / 128))

abbrev pub encoded_of : Width → ℕ → List ℕ
encoded_of w n = groups_of w.bytes n

-- "It has one to five bytes"
unfoldable pub encoded : ℕ → List ℕ
encoded n = encoded_of width32 n

-- the value of a constant, folded
unfoldable pub encoded_value : ℕ → List ℕ
encoded_value n = encoded_of value_width n
