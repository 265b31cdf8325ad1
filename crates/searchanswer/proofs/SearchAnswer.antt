-- From the outcome of the search to the answer: the nodes used are the budget without what is left. Assumes nothing.
use mathlib.Core.Path.{◌≡◌, ap, sym, ◌∙◌}
use mathlib.Core.List.{List}
use Prim.Native.Nat.{ℕ, ◌-◌, ◌≤◌}
use native.Mathlib.Omega.{arith}
use lib.IntN.{ℤ, pos}
use lib.ListN.{length, replicate}
use Rattle.guard.specs.Answer.{Outcome.sat, Outcome.spent, Outcome.unsat, outcome_of, rows_of, with_budget}
use Rattle.guard.specs.Guard.{Guard}
use Rattle.guard.specs.Search.{Counts, Visits.closed, Visits.opened, search_of, visited}
use Rattle.guard.specs.declared.Answer.{Answer}
use Rattle.guard.specs.declared.Answer.TheVariants.{Spent, Unsat}
use Rattle.guard.proofs.AnswerLaws.{enough, too_few}
use Rattle.guard.specs.Closure.{State}
use Rattle.reader.specs.Reader.{guard_tables}
use Rattle.reader.specs.declared.Tables.{Tables}
use Rattle.search.specs.Nodes.{Accepted, OpenLeaf}
use Rattle.roots.specs.Guards.{GuardsTables}
use Rattle.rootsearch.specs.declared.Found.{Found}
use Rattle.rootsearch.specs.Finds.{Finds, outcome_in}
use Rattle.tallies.specs.Outcome as found
use Rattle.tallies.specs.declared.Outcome.{Outcome}
use Rattle.tallies.specs.declared.Tally.{Tally}
use Rattle.tallies.proofs.Budgets.{closed-count, cut_counts, open_count, spent-count, within-counts}
use Rattle.messages.specs.Messages.{OpenTables}
use Rattle.openanswer.specs.Open.{AnswersOpen}
use Rattle.searchanswer.specs.Searched.{AnswersTables}
use Rattle.cleared.proofs.Cleared.{long_zero}

module _ (tables : Tables) (budget : ℕ) (r : Found) (finds : Finds tables budget r) where
  abbrev o : Outcome
  o = outcome_in r

  outcome-is : (g : Guard) → Accepted g → tables ≡ guard_tables g → o ≡ found.outcome (search_of g) (found.begin budget)
  unfolding Finds
  outcome-is g a is = (finds g a is).0

  leaf-is : (g : Guard) → Accepted g → tables ≡ guard_tables g → (s : State) (t : Tally) → r ≡ Found.Open s t → OpenLeaf g s
  unfolding Finds
  leaf-is g a is = (finds g a is).1

  -- ---- the nodes left are within the budget

  module _ (guards : GuardsTables tables) where
    ends : (o' : Outcome) → o ≡ o' → found.outcome (search_of guards.guard) (found.begin budget) ≡ o'
    ends o' e = sym (outcome-is guards.guard guards.accepted guards.is) ∙ e

    pub open_within : (s : State) (t : Tally) → r ≡ Found.Open s t → t.left ≤ budget
    open_within s t e = let (xs, _, w) = open_count guards.guard budget t (ends (Outcome.Open t) (ap outcome_in e)) in omega (arith, w.left)

    pub closed-within : (t : Tally) → r ≡ Found.Closed t → t.left ≤ budget
    closed-within t e = let (xs, _, w) = closed-count guards.guard budget t (ends (Outcome.Closed t) (ap outcome_in e)) in omega (arith, w.left)

    pub open_tables : (s : State) (t : Tally) → r ≡ Found.Open s t → OpenTables tables s
    open_tables s t e =
        record { guard = guards.guard; accepted = guards.accepted; is = guards.is; leaf = leaf-is guards.guard guards.accepted guards.is s t e }

  -- ---- the answer

  module _ (rows places : List ℤ) (rows' places' : List ℤ) (t : Tally) where
    -- the counts where the search has ended
    abbrev used : Counts
    used = record { nodes = budget - t.left; first = t.first; second = t.second }

    pub answered_open : (s : State) → r ≡ Found.Open s t → (x : Answer) → AnswersOpen tables s used rows places x rows' places' → AnswersTables tables budget rows places x rows' places'
    answered_open s e x a =
        record {
          says = λ g ok is.
              let (xs, w, h) = open_count g budget t (sym (outcome-is g ok is) ∙ ap outcome_in e) in
              a.says ∙ ap sat (within-counts budget xs t h) ∙ sym (ap (with_budget budget) w ∙ enough budget (opened xs) h.enough);
          long_rows = a.long_rows;
          long_places = a.long_places;
          cleared = λ f. absurd (f used a.says);
          shown = λ g ok is n h limits most. a.shown g ok is (leaf-is g ok is s t e) limits most;
        }

    module _ (rows_zero : rows' ≡ replicate (length rows) (pos 0)) (places_zero : places' ≡ replicate (length places) (pos 0)) where
      pub answered_closed : r ≡ Found.Closed t → AnswersTables tables budget rows places (Unsat (budget - t.left) t.first t.second) rows' places'
      unfolding outcome_of rows_of
      answered_closed e =
          record {
            says = λ g ok is.
                let (xs, w, h) = closed-count g budget t (sym (outcome-is g ok is) ∙ ap outcome_in e) in
                ap unsat (within-counts budget xs t h) ∙ sym (ap (with_budget budget) w ∙ enough budget (closed xs) h.enough);
            long_rows = long_zero rows rows' rows_zero;
            long_places = long_zero places places' places_zero;
            cleared = λ f. (rows_zero, places_zero);
            shown = λ g ok is n h limits most. let z : ◌≡◌ {A = ℕ} 0 1 = cc in absurd (omega arith);
          }

      pub answered_spent : r ≡ Found.Spent t → AnswersTables tables budget rows places (Spent budget t.first t.second) rows' places'
      unfolding outcome_of rows_of
      answered_spent e =
          record {
            says = λ g ok is.
                let (h, q) = spent-count g budget t (sym (outcome-is g ok is) ∙ ap outcome_in e) in
                ap spent (cut_counts budget (visited (search_of g)) t h q) ∙ sym (too_few budget (search_of g) h);
            long_rows = long_zero rows rows' rows_zero;
            long_places = long_zero places places' places_zero;
            cleared = λ f. (rows_zero, places_zero);
            shown = λ g ok is n h limits most. let z : ◌≡◌ {A = ℕ} 0 1 = cc in absurd (omega arith);
          }
