-- What the answer at an open node gives. Assumes nothing: definitions.
use Rattle.std.specs.Prelude.{◌≡◌, List, ◌≤◌, ℤ, length}
use Rattle.guard.specs.Answer.{Outcome.sat, outcome_of, rows_of}
use Rattle.guard.specs.Closure.{State}
use Rattle.guard.specs.Guard.{Guard}
use Rattle.guard.specs.Limits.{Limits}
use Rattle.guard.specs.Search.{Counts}
use Rattle.guard.specs.Shown.{Shows}
use Rattle.guard.specs.declared.Answer.{Answer}
use Rattle.reader.specs.Reader.{guard_tables}
use Rattle.reader.specs.declared.Tables.{Tables}
use Rattle.search.specs.Nodes.{Accepted, OpenLeaf}
use Rattle.messages.specs.Messages.{rows_enough}

-- at an open node: SAT with these counts, and the buffers show messages
pub record AnswersOpen (tables : Tables) (s : State) (c : Counts) (rows places : List ℤ) (r : Answer) (rows' places' : List ℤ) : Type 0 where
  pub says : outcome_of r ≡ sat c
  pub long_rows : length rows' ≡ length rows
  pub long_places : length places' ≡ length places
  pub shown : (g : Guard) → Accepted g → tables ≡ guard_tables g → OpenLeaf g s → (limits : Limits) → rows_enough (length g.types) (length g.rows) ≤ limits.rows → Shows limits g (rows_of r) rows' places'
