-- The constants of a guard by their slots: 24 rows, then the defaults of number types. Assumes nothing: definitions.
use Rattle.std.specs.Prelude.{Bool, not, cond, List, ℕ, ◌+◌, eqb, ltb, ℤ, pos, get_or}

abbrev pub is_constant : List ℕ → ℕ → Bool
is_constant constants k = not (eqb (get_or constants k 0) 0)

unfoldable pub constant_term : ℕ → ℕ
constant_term k = cond (ltb k 24) k (k + 48)

unfoldable pub constant_value : List ℤ → ℕ → ℤ
constant_value values k = cond (ltb k 24) (get_or values k (pos 0)) (pos 0)
