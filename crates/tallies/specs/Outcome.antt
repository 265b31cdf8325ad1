-- What a search gives with so many nodes to visit. Assumes nothing: definitions.
use Rattle.std.specs.Prelude.{Bool, cond, false, true, List, ℕ, ◌+◌, ◌-◌, leb, length, take}
use Rattle.guard.specs.Node.{Kind, Kind.first, Kind.second}
use Rattle.guard.specs.Search.{Visit, Visits, Visits.closed, Visits.opened, is_split, splits_in, visited, visits}
use Rattle.tallies.specs.declared.Outcome.{Outcome}
use Rattle.tallies.specs.declared.Tally.{Tally}

-- a budget, before the first node
abbrev pub begin : ℕ → Tally
begin budget = record { left = budget; first = 0; second = 0 }

-- the kind of a split, from whether it is of the first
abbrev pub kind_by : Bool → Kind
kind_by true = first
kind_by false = second

-- the nodes left, and the splits made, after a visit; there is a node left for it
abbrev pub after_one : Visit → Tally → Tally
after_one x t = record { left = t.left - 1; first = t.first + is_split first x; second = t.second + is_split second x }

-- after visits in order, of which only so many are made as there are nodes left
abbrev pub after : List Visit → Tally → Tally
after xs t =
    record {
      left = t.left - length xs;
      first = t.first + splits_in first (take t.left xs);
      second = t.second + splits_in second (take t.left xs);
    }

abbrev pub ended : Visits → Tally → Outcome
ended (opened xs) t = Outcome.Open t
ended (closed xs) t = Outcome.Closed t

-- "SPENT is said exactly when the budget is below the file's node count"
unfoldable pub outcome : Visits → Tally → Outcome
outcome w t = cond (leb (visits w) t.left) (ended w (after (visited w) t)) (Outcome.Spent (after (visited w) t))

abbrev pub is_closed_outcome : Outcome → Bool
is_closed_outcome (Outcome.Open t) = false
is_closed_outcome (Outcome.Closed t) = true
is_closed_outcome (Outcome.Spent t) = false

abbrev pub is_open_outcome : Outcome → Bool
is_open_outcome (Outcome.Open t) = true
is_open_outcome (Outcome.Closed t) = false
is_open_outcome (Outcome.Spent t) = false

abbrev pub tally_of : Outcome → Tally
tally_of (Outcome.Open t) = t
tally_of (Outcome.Closed t) = t
tally_of (Outcome.Spent t) = t

-- Each visit takes a node and makes at most a split, so this never grows, and the counts have 32 bits as the budget has.
abbrev pub total : Tally → ℕ
total t = t.left + t.first + t.second
