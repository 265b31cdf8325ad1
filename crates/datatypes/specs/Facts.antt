-- The questions 8 and 9 about the declared types, and what is answered to them. Assumes nothing.
use Rattle.std.specs.Prelude.{Bool, not, ◌||◌, cond, List, ℕ, eqb, length, Result, Ok, Err}
use Rattle.laws.specs.Lists.{all, any}
use Rattle.guard.specs.Types.{Types, Variant, all_defaults, defaults, infinite_fields}
use Rattle.tables.specs.Layout.{default_column}
use Rattle.finite.specs.Finite.{flagged}
use Rattle.guard.specs.declared.Question.{Question}
use Rattle.guard.specs.declared.Question.TheVariants.{NoDefault, NoInfiniteField}

-- question 9 for one variant, of the column of finite types: a variant without fields passes
unfoldable pub growing : List ℕ → Variant → Bool
growing known fs = eqb (length fs) 0 || any (λ t. not (flagged known t)) fs

unfoldable pub all_growing : List ℕ → Types → Bool
all_growing known ts = all (all (growing known)) ts

-- question 8, then question 9, and the defaults where both get a yes
unfoldable pub type_facts : Types → Result (List ℕ) Question
type_facts ts = cond (all_defaults ts) (cond (infinite_fields ts) (Ok (default_column (defaults ts))) (Err NoInfiniteField)) (Err NoDefault)
