-- What the check of a node gives, in terms of the checker of request #101. Assumes nothing: definitions.
use Rattle.std.specs.Prelude.{◌≡◌, List, ℕ, drop, Result, Ok, Err}
use Rattle.guard.specs.Closure.{State}
use Rattle.guard.specs.Guard.{Guard, Literal}
use Rattle.guard.specs.Number.{Parsed, Parsed.refused}
use Rattle.guard.specs.Question.{number_of}
use Rattle.guard.specs.declared.Question.{Question}
use Rattle.guard.specs.Terms.{table_of}
use Rattle.numbers.specs.Reader.{Found}
use Rattle.instance.specs.declared.Instance.{Instance}
use Rattle.search.specs.Nodes.{Accepted, ArraysOf, Begun}
use Rattle.refutations.specs.Checker.{check_from}

-- a reader of no value has a cursor to what its parser leaves, or the question that refuses
abbrev pub Passes : Parsed (Unit {0}) → List ℕ → Result ℕ Question → Type 0
Passes p bytes (Ok at) = Found p bytes tt at
Passes p bytes (Err q) = p ≡ refused (number_of q)

-- From a node that has begun: what the code finds from the cursor on is what the defined checker does.
unfoldable pub Checks : Instance → List ℕ → List ℕ → ℕ → State → Result ℕ Question → Type 0
Checks i reads bytes at s r =
    (g : Guard) (ls : List Literal) → Accepted g → ArraysOf g i reads → Begun g ls s
    → Passes (check_from (table_of g) g.literals ls (drop at bytes)) bytes r
