-- The split of a node, by the slots of the problem's arrays. proofs/ shows that it is that of document 01. Assumes nothing: definitions.
use Rattle.std.specs.Prelude.{Bool, not, ◌&&◌, cond, List, ℕ, eqb, leb, ltb, length, get_or}
use Rattle.std.proofs.Math.Option.{Option, none, some}
use Rattle.std.specs.declared.option.Option as option
use Rattle.std.specs.declared.option.Option.TheVariants.{None, Some}
use Rattle.std.specs.Int.Bits.{bit_and}
use Rattle.guard.specs.Closure.{State, label_of}
use Rattle.guard.specs.Node.{Split}
use Rattle.labels.specs.Label.{variants_in}
use Rattle.loops.specs.Lowest.{lowest}
use Rattle.arrays.specs.Slots.{fieldless_at, read_bit, read_key, read_term}
use Rattle.splits.specs.declared.Choice.{Choice}

-- the lowest variant of a label
abbrev pub lowest_in : ℕ → ℕ
lowest_in label = get_or (variants_in label) 0 16

-- "First kind: .. field row whose read term's label holds its variant and another one": row k
unfoldable pub read_splits : List ℕ → State → ℕ → Bool
read_splits reads s k =
    not (eqb (read_key reads k) 0)
    && (not (eqb (bit_and (label_of s (read_term reads k)) (read_bit reads k)) 0) && not (eqb (label_of s (read_term reads k)) (read_bit reads k)))

-- "second kind: .. term whose label holds two or more variants, all fieldless": term x
unfoldable pub term_splits : List ℕ → List ℕ → State → ℕ → Bool
term_splits sorts fieldless s x = leb 2 (length (variants_in (label_of s x))) && eqb (bit_and (label_of s x) (fieldless_at sorts fieldless x)) (label_of s x)

abbrev pub on_read_at : List ℕ → ℕ → Split
on_read_at reads k = record { term = read_term reads k; variant = lowest_in (read_bit reads k) }

abbrev pub on_term_at : State → ℕ → Split
on_term_at s x = record { term = x; variant = lowest_in (label_of s x) }

-- the first kind at row k where there is one, else the second kind at term x
abbrev pub split_at : List ℕ → State → ℕ → ℕ → Option Split
split_at reads s k x = cond (ltb k 24) (some (on_read_at reads k)) (cond (ltb x 78) (some (on_term_at s x)) none)

unfoldable pub split_by : List ℕ → List ℕ → List ℕ → State → Option Split
split_by reads sorts fieldless s = split_at reads s (lowest (read_splits reads s) 24) (lowest (term_splits sorts fieldless s) 78)

-- whether it is of the first kind
unfoldable pub first_by : List ℕ → State → Bool
first_by reads s = ltb (lowest (read_splits reads s) 24) 24

-- a split as code returns it, with whether it is of the first kind
abbrev pub choice_of : Bool → Option Split → option.Option Choice
choice_of b none = None
choice_of b (some d) = Some (record { first = b; term = d.term; variant = d.variant })
