-- The answer for a file, a budget and two buffers, and what each case of the code's answer stands for. Assumes nothing.
use Rattle.std.specs.Prelude.{Bool, true, false, ◌&&◌, cond, List, ℕ, leb, take}
use Rattle.guard.specs.Limits.{Limits, row_buffer, place_buffer}
use Rattle.guard.specs.Guard.{Guard}
use Rattle.guard.specs.Number.{Parsed, Parsed.refused, Parsed.accepted}
use Rattle.guard.specs.File.{file}
use Rattle.guard.specs.Search.{Counts, Visits, Visits.opened, Visits.closed, counts_of, visited, visits, search_of}
use Rattle.guard.specs.declared.Answer.{Answer}
use Rattle.guard.specs.declared.Answer.TheVariants.{Refused, Sat, Unsat, Spent}

-- "Out: REFUSED with a number; or SAT with the node count and the number of rows; or UNSAT with the node count; or SPENT
-- with the budget as node count." Document 02, #105: "SAT, UNSAT and SPENT each carry the counts of first-kind and of
-- second-kind splits". The number of rows is free, so it is not part of what is defined.
pub data Outcome : Type 0 where
  refusal : ℕ → Outcome
  sat : Counts → Outcome
  unsat : Counts → Outcome
  spent : Counts → Outcome

-- "Open means SAT; all closed means UNSAT."
abbrev pub verdict : Visits → Outcome
verdict (opened xs) = sat (counts_of xs)
verdict (closed xs) = unsat (counts_of xs)

-- "SPENT carries the budget." Its splits are those at the nodes within the budget, "those whose children the budget cut off
-- included".
abbrev pub cut_off : ℕ → Visits → Outcome
cut_off budget w = spent (counts_of (take budget (visited w)))

-- "SPENT is given precisely if the walk would visit more nodes than the budget."
abbrev pub with_budget : ℕ → Visits → Outcome
with_budget budget w = cond (leb (visits w) budget) (verdict w) (cut_off budget w)

-- question 1: "Are both buffers long enough? If no: 1. After it the file is read from its first byte."
abbrev pub after_buffers : Bool → Limits → List ℕ → Parsed Guard
after_buffers false limits bytes = refused 1
after_buffers true limits bytes = file limits bytes

-- the questions 1 to 10 in order, of a file and the lengths of the row buffer and the place buffer: the number of the
-- first that gets a no, or the guard
unfoldable pub questions : Limits → List ℕ → ℕ → ℕ → Parsed Guard
questions limits bytes row_length place_length = after_buffers (leb (row_buffer limits) row_length && leb (place_buffer limits) place_length) limits bytes

abbrev pub after_questions : ℕ → Parsed Guard → Outcome
after_questions budget (refused q) = refusal q
after_questions budget (accepted g rest) = with_budget budget (search_of g)

-- the answer for a file, a budget, and the lengths of the row buffer and the place buffer
unfoldable pub outcome : Limits → List ℕ → ℕ → ℕ → ℕ → Outcome
outcome limits bytes budget row_length place_length = after_questions budget (questions limits bytes row_length place_length)

-- ---- the code's answer

-- "a definition sets out this paper's number and values for each of its cases"
unfoldable pub outcome_of : Answer → Outcome
outcome_of (Refused q) = refusal q
outcome_of (Sat n f s r) = sat (record { nodes = n; first = f; second = s })
outcome_of (Unsat n f s) = unsat (record { nodes = n; first = f; second = s })
outcome_of (Spent b f s) = spent (record { nodes = b; first = f; second = s })

-- the number of rows shown; none but after SAT
unfoldable pub rows_of : Answer → ℕ
rows_of (Refused q) = 0
rows_of (Sat n f s r) = r
rows_of (Unsat n f s) = 0
rows_of (Spent b f s) = 0
