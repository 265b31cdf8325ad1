-- What an entry of a record claims of a node that it splits, by the slots of the arrays. Assumes nothing: definitions.
use Rattle.std.specs.Prelude.{◌≡◌, Bool, true, false, not, ◌&&◌, List, ℕ, ◌<◌, eqb, ltb}
use Rattle.std.specs.declared.option.Option.{Option}
use Rattle.std.specs.declared.option.Option.TheVariants.{None, Some}
use Rattle.guard.specs.Closure.{State}
use Rattle.guard.specs.Limits.{variant_limit}
use Rattle.guard.specs.Node.{holds_another}
use Rattle.arrays.specs.Slots.{sort_at}

-- there is a term of this number
unfoldable pub is_term : List ℕ → ℕ → Bool
is_term sorts x = ltb x 78 && not (eqb (sort_at sorts x) 0)

-- the term of this number, if there is one
abbrev pub TermOf : List ℕ → ℕ → Option ℕ → Type 0
TermOf sorts x None = is_term sorts x ≡ false
TermOf sorts x (Some term) = (term < 78) × (term ≡ x) × (is_term sorts x ≡ true)

-- there is a term x, and its label holds the variant and another one
unfoldable pub splits_by : List ℕ → State → ℕ → ℕ → Bool
splits_by sorts s x v = is_term sorts x && (ltb v variant_limit && holds_another s x v)
