-- The answer to the questions about the types part, and number types in a table. Assumes nothing: definitions.
use Rattle.std.specs.Prelude.{◌≡◌, cond, List, ℕ, zero, suc, ◌+◌, eqb, get_or, Result, Ok, Err}
use Rattle.guard.specs.Number.{Parsed, Parsed.accepted, Parsed.refused}
use Rattle.guard.specs.Question.{number_of}
use Rattle.guard.specs.declared.Question.{Question}

-- every question got a yes
pub record Passed (p : Parsed (Unit {0})) : Type 0 where
  pub rest : List ℕ
  pub accepts : p ≡ accepted tt rest

-- nothing, or the question that refuses
abbrev pub Asks : Parsed (Unit {0}) → Result (Unit {0}) Question → Type 0
Asks p (Ok u) = Passed p
Asks p (Err q) = p ≡ refused (number_of q)

-- how many of the first n numbers are 0
abbrev pub zeroes : List ℕ → ℕ → ℕ
zeroes xs zero = 0
zeroes xs (suc n) = zeroes xs n + cond (eqb (get_or xs n 0) 0) 1 0
