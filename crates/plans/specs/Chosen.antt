-- What is chosen for a class, from the arrays of an open node: its type, whether it is free, the variant that its message
-- starts with; and the highest rank of all classes that get a message. Assumes nothing: definitions.
use Rattle.std.specs.Prelude.{Bool, not, ◌&&◌, cond, List, ℕ, zero, suc, ◌+◌, max, eqb, leb, ltb, get_or, length}
use Rattle.laws.specs.Bits.{bit}
use Rattle.guard.specs.Closure.{State}
use Rattle.guard.specs.Types.{Types, fields_of, variants_of}
use Rattle.loops.specs.Lowest.{lowest}
use Rattle.arrays.specs.Slots.{sort_at}
use Rattle.kinds.specs.Found.{constant_of, shape_of, single_of}

-- ---- types

-- y is a term of class c
unfoldable pub is_member : List ℕ → List ℕ → ℕ → ℕ → Bool
is_member classes sorts c y = not (eqb (sort_at sorts y) 0) && eqb (get_or classes y 0) c

-- the lowest term of class c; 78 where there is none
unfoldable pub term_in : List ℕ → List ℕ → ℕ → ℕ
term_in classes sorts c = lowest (is_member classes sorts c) 78

-- the type of class c, plus one
unfoldable pub sort_in : List ℕ → List ℕ → ℕ → ℕ
sort_in classes sorts c = sort_at sorts (term_in classes sorts c)

-- ---- free classes

-- class c gets a message
unfoldable pub is_marked : List ℕ → ℕ → Bool
is_marked marks c = eqb (get_or marks c 0) 0

-- class c gets a message, and nothing fixes it
unfoldable pub free_at : List ℕ → List ℕ → List ℕ → List ℕ → List ℕ → State → ℕ → Bool
free_at shapes sorts fieldless constants marks s c =
    is_marked marks c && (leb 30 (shape_of shapes s c) && (leb 30 (constant_of constants s.classes c) && leb 78 (single_of sorts fieldless s c)))

-- ---- variants

-- the label holds variant v of type t, which has fields
unfoldable pub held_in : Types → ℕ → ℕ → ℕ → Bool
held_in ts label t v = not (eqb (bit label v) 0) && ltb 0 (length (fields_of ts t v))

-- the lowest variant of type t with fields in the label; the number of variants where there is none
unfoldable pub variant_in : Types → ℕ → ℕ → ℕ
variant_in ts label t = lowest (held_in ts label t) (length (variants_of ts t))

-- the same test by the columns of the table of types: the variants of a type stand from place `start` on
unfoldable pub held_at : List ℕ → ℕ → ℕ → ℕ → Bool
held_at arities start label v = not (eqb (bit label v) 0) && ltb 0 (get_or arities (start + v) 0)

-- and the same variant
unfoldable pub variant_entry : List ℕ → List ℕ → List ℕ → ℕ → ℕ → ℕ
variant_entry variants first arities label t = lowest (held_at arities (get_or first t 0) label) (get_or variants t 0)

-- ---- ranks

-- the higher of a number and the rank of class c, if that gets a message
unfoldable pub higher_at : List ℕ → List ℕ → ℕ → ℕ → ℕ
higher_at marks ranks c most = cond (is_marked marks c) (max most (get_or ranks c 0)) most

-- the highest rank of the classes below n that get a message; 0 where there is none
unfoldable pub highest_below : List ℕ → List ℕ → ℕ → ℕ
highest_below marks ranks zero = 0
highest_below marks ranks (suc c) = higher_at marks ranks c (highest_below marks ranks c)

-- of all classes that get a message: classes are numbers of terms, so below 78
unfoldable pub highest_of : List ℕ → List ℕ → ℕ
highest_of marks ranks = highest_below marks ranks 78
