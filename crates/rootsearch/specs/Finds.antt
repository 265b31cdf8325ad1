-- What the search of a guard finds, by its tables. Assumes nothing: definitions.
use Rattle.std.specs.Prelude.{◌≡◌, ℕ}
use Rattle.guard.specs.Closure.{State}
use Rattle.guard.specs.Guard.{Guard}
use Rattle.guard.specs.Search.{search_of}
use Rattle.reader.specs.declared.Tables.{Tables}
use Rattle.reader.specs.Reader.{guard_tables}
use Rattle.tallies.specs.declared.Outcome as outcomes
use Rattle.tallies.specs.declared.Tally.{Tally}
use Rattle.tallies.specs.Outcome.{begin, outcome}
use Rattle.search.specs.Nodes.{Accepted, OpenLeaf}
use Rattle.rootsearch.specs.declared.Found.{Found}

-- how it ends, without the open node
abbrev pub outcome_in : Found → outcomes.Outcome
outcome_in (Found.Open s t) = outcomes.Outcome.Open t
outcome_in (Found.Closed t) = outcomes.Outcome.Closed t
outcome_in (Found.Spent t) = outcomes.Outcome.Spent t

-- The outcome is that of the defined search; with an open node comes its closure.
unfoldable pub Finds : Tables → ℕ → Found → Type 0
Finds tables budget r =
    (g : Guard) → Accepted g → tables ≡ guard_tables g
    → (outcome_in r ≡ outcome (search_of g) (begin budget)) × ((s : State) (t : Tally) → r ≡ Found.Open s t → OpenLeaf g s)
