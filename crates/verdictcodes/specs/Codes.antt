-- The desk's verdict on a guard within a budget, as one number. Assumes nothing: definitions.
use Rattle.std.specs.Prelude.{List, ◌++◌, ℕ}
use Rattle.guard.specs.Answer.{Outcome, Outcome.refusal, Outcome.sat, Outcome.spent, Outcome.unsat, with_budget}
use Rattle.guard.specs.Guard.{Guard, Literal}
use Rattle.guard.specs.Search.{search_of}

-- document 02, #113: "1 SAT, 2 UNSAT, 3 SPENT"; a refusal, which no guard gets, would be 0
abbrev pub code_of : Outcome → ℕ
code_of (refusal q) = 0
code_of (sat c) = 1
code_of (unsat c) = 2
code_of (spent c) = 3

unfoldable pub code_for : ℕ → Guard → ℕ
code_for budget g = code_of (with_budget budget (search_of g))

-- a guard with lines behind its own
abbrev pub with_more : Guard → List Literal → Guard
with_more g more = record { types = g.types; rows = g.rows; literals = g.literals ++ more }
