-- The variants of the defaults as a column, the rounds that find them, and question 8. Assumes nothing.
use Rattle.std.specs.Prelude.{Bool, not, cond, List, [], ◌∷◌, map, ℕ, zero, suc, eqb, length, get_or}
use Rattle.std.proofs.Math.Option.{Option, none, some}
use Rattle.laws.specs.Lists.{all, from}
use Rattle.guard.specs.Message.{Message, Message.made, Message.number}
use Rattle.guard.specs.Types.{Defaults, Types, Variant, variants_of}
use Rattle.tables.specs.Layout.{pad}
use Rattle.finite.specs.TypeColumns.{column}

-- the variant of a type's default, 0 for a number type; 255 where there is no default yet
abbrev pub settled : Option Message → ℕ
settled none = 255
settled (some (number t z)) = 0
settled (some (made t v ms)) = v

unfoldable pub settled_column : Defaults → List ℕ
settled_column ds = pad 6 (map settled ds)

unfoldable pub is_settled : List ℕ → ℕ → Bool
is_settled ss t = not (eqb (get_or ss t 0) 255)

-- the lowest of these variants, counted from v, whose field types are all settled; 255 if there is none
unfoldable pub lowest_settled : List ℕ → ℕ → List Variant → ℕ
lowest_settled ss v [] = 255
lowest_settled ss v (fs ∷ vs) = cond (all (is_settled ss) fs) v (lowest_settled ss (suc v) vs)

-- a type keeps the default that it has
unfoldable pub next_settled : List ℕ → Types → ℕ → ℕ
next_settled ss ts t = cond (is_settled ss t) (get_or ss t 0) (lowest_settled ss 0 (variants_of ts t))

-- a number type has 0 before the first round
unfoldable pub first_settled : List ℕ → ℕ → ℕ
first_settled variants t = cond (eqb (get_or variants t 0) 0) 0 255

-- the rounds of `default_rounds`, on columns; the second argument has how many variants each type has
unfoldable pub settled_after : ℕ → List ℕ → Types → List ℕ
settled_after zero variants ts = column (first_settled variants) (length ts)
settled_after (suc k) variants ts = column (next_settled (settled_after k variants ts) ts) (length ts)

-- question 8, of the column of defaults
unfoldable pub all_settled : List ℕ → ℕ → Bool
all_settled ss n = all (is_settled ss) (from n 0)
