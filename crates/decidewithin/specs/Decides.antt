-- What the desk's one call says and leaves in the buffers. Assumes nothing: definitions.
-- Quoted sentences are document 01's.
use Rattle.std.specs.Prelude.{◌≡◌, List, ℕ, ℤ, pos, length, replicate}
use Rattle.guard.specs.Answer.{Outcome.sat, Outcome.unsat, outcome, outcome_of, questions, rows_of}
use Rattle.guard.specs.Guard.{Guard}
use Rattle.guard.specs.Limits.{Limits}
use Rattle.guard.specs.Meaning.{Satisfiable}
use Rattle.guard.specs.Number.{Parsed.accepted}
use Rattle.guard.specs.Search.{Counts}
use Rattle.guard.specs.Shown.{Shows}
use Rattle.guard.specs.declared.Answer.{Answer}

-- "for each file, budget and pair of buffers, the verdict, each number in it and each number left in the buffers": of the
-- answer r, and the buffers as they were and as they are left
pub record Decides (limits : Limits) (bytes : List ℕ) (budget : ℕ) (rows places : List ℤ) (r : Answer) (rows' places' : List ℤ) : Type 0 where
  -- "Out: REFUSED with a number; or SAT with the node count and the number of rows; or UNSAT with the node count; or SPENT
  -- with the budget as node count." Document 02, #105: "SAT, UNSAT and SPENT each carry the counts of first-kind and of
  -- second-kind splits".
  pub says : outcome_of r ≡ outcome limits bytes budget (length rows) (length places)
  -- "two lent buffers": they come back as long as they were
  pub long_rows : length rows' ≡ length rows
  pub long_places : length places' ≡ length places
  -- "The answer is then REFUSED with that number, and every number of both buffers is 0."; "After UNSAT or SPENT both
  -- buffers are all 0."
  pub cleared : ((c : Counts) → ¬ (outcome_of r ≡ sat c)) → (rows' ≡ replicate (length rows) (pos 0)) × (places' ≡ replicate (length places) (pos 0))
  -- "which messages a SAT shows, so also how many rows, and in what row order, all of them meeting demand 2 and the layout"
  pub shown : (g : Guard) (rest : List ℕ) → questions limits bytes (length rows) (length places) ≡ accepted g rest → (c : Counts) → outcome_of r ≡ sat c → Shows limits g (rows_of r) rows' places'
  -- "A guard holds under an assignment of messages to its variables when all its lines do": after UNSAT, under none
  pub dead : (g : Guard) (rest : List ℕ) → questions limits bytes (length rows) (length places) ≡ accepted g rest → (c : Counts) → outcome_of r ≡ unsat c → ¬ Satisfiable g
