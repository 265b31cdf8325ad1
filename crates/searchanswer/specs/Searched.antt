-- What the answer to the tables of a guard gives. Assumes nothing: definitions.
use Rattle.std.specs.Prelude.{◌≡◌, List, ℕ, ◌≤◌, ℤ, pos, length, replicate}
use Rattle.guard.specs.Answer.{Outcome.sat, outcome_of, rows_of, with_budget}
use Rattle.guard.specs.Guard.{Guard}
use Rattle.guard.specs.Limits.{Limits}
use Rattle.guard.specs.Search.{Counts, search_of}
use Rattle.guard.specs.Shown.{Shows}
use Rattle.guard.specs.declared.Answer.{Answer}
use Rattle.reader.specs.Reader.{guard_tables}
use Rattle.reader.specs.declared.Tables.{Tables}
use Rattle.search.specs.Nodes.{Accepted}
use Rattle.messages.specs.Messages.{rows_enough}

-- the answer to the tables of a guard that a reader took
pub record AnswersTables (tables : Tables) (budget : ℕ) (rows places : List ℤ) (r : Answer) (rows' places' : List ℤ) : Type 0 where
  pub says : (g : Guard) → Accepted g → tables ≡ guard_tables g → outcome_of r ≡ with_budget budget (search_of g)
  pub long_rows : length rows' ≡ length rows
  pub long_places : length places' ≡ length places
  pub cleared : ((n : Counts) → ¬ (outcome_of r ≡ sat n)) → (rows' ≡ replicate (length rows) (pos 0)) × (places' ≡ replicate (length places) (pos 0))
  pub shown : (g : Guard) → Accepted g → tables ≡ guard_tables g → (n : Counts) → outcome_of r ≡ sat n → (limits : Limits) → rows_enough (length g.types) (length g.rows) ≤ limits.rows → Shows limits g (rows_of r) rows' places'
