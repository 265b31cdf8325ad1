-- The answer and the budget: SPENT is said exactly if the budget is below the node count; else the verdict, with that
-- count. Assumes nothing.
use mathlib.Core.Path.{◌≡◌, ap, sym, ◌∙◌}
use mathlib.Core.Bool.{Bool}
use mathlib.Core.List.{List}
use Prim.Native.Nat.{ℕ, ◌≤◌, ◌<◌}
use native.Mathlib.Omega.{arith}
use lib.Dec.{leb}
use lib.ListN.{take}
use lib.Seq.{length-take-le}
use borrow.Author.Tests.{leb-true, leb-false, le-leb, lt-leb}
use mathlib.Core.Logic.{◌↔◌}
use Rattle.laws.proofs.Bools.{and_both, by_test}
use Rattle.guard.specs.Answer.{Outcome, Outcome.refusal, Outcome.spent, after_buffers, after_questions, cut_off, outcome, questions, verdict, with_budget}
use Rattle.guard.specs.File.{file}
use Rattle.guard.specs.Guard.{Guard}
use Rattle.guard.specs.Limits.{Limits, place_buffer, row_buffer}
use Rattle.guard.specs.Number.{Parsed.accepted, Parsed.refused}
use Rattle.guard.specs.Search.{Counts, Visits, Visits.closed, Visits.opened, counts_of, node_count, search_of, visited, visits}

pub enough : (budget : ℕ) (w : Visits) → visits w ≤ budget → with_budget budget w ≡ verdict w
enough budget w h = simp (le-leb (visits w) budget h)

pub too_few : (budget : ℕ) (w : Visits) → budget < visits w → with_budget budget w ≡ cut_off budget w
too_few budget w h = simp (lt-leb (visits w) budget h)

module _ (budget : ℕ) (w : Visits) where
  verdict_not_spent : (w : Visits) (c : Counts) → ¬ (verdict w ≡ spent c)
  verdict_not_spent (opened n) b e = let z : ◌≡◌ {A = ℕ} 0 1 = cc in omega arith
  verdict_not_spent (closed n) b e = let z : ◌≡◌ {A = ℕ} 0 1 = cc in omega arith

  pub spent_exactly : ((c : Counts) × (with_budget budget w ≡ spent c)) ↔ (budget < visits w)
  spent_exactly = (
    λ p. by_test (leb (visits w) budget) (λ e. absurd (verdict_not_spent w p.0 (sym (enough budget w (leb-true (visits w) budget e)) ∙ p.1))) (λ e. leb-false (visits w) budget e),
    λ h. (counts_of (take budget (visited w)), too_few budget w h),
  )

-- "SPENT carries the budget."
pub cut_nodes : (budget : ℕ) (w : Visits) → budget < visits w → (counts_of (take budget (visited w))).nodes ≡ budget
cut_nodes budget w h = length-take-le budget (visited w) (omega arith)

-- every larger budget brings the same verdict and counts
pub larger_budget : (budget larger : ℕ) (w : Visits) → visits w ≤ budget → budget ≤ larger → with_budget larger w ≡ with_budget budget w
larger_budget budget larger w h l = enough larger w (omega arith) ∙ sym (enough budget w h)

-- ---- the same of files

module _ (limits : Limits) (bytes : List ℕ) (row_length place_length : ℕ) (rows_fit : row_buffer limits ≤ row_length) (places_fit : place_buffer limits ≤ place_length) where
  abbrev answer : ℕ → Outcome
  answer budget = outcome limits bytes budget row_length place_length

  -- with buffers long enough the questions are the file's
  pub long_buffers : questions limits bytes row_length place_length ≡ file limits bytes
  unfolding questions
  long_buffers =
      ap (λ (b : Bool). after_buffers b limits bytes) (and_both (leb (row_buffer limits) row_length) (leb (place_buffer limits) place_length) (le-leb _ _ rows_fit) (le-leb _ _ places_fit))

  answer-after : (budget : ℕ) → answer budget ≡ after_questions budget (file limits bytes)
  unfolding outcome
  answer-after budget = ap (after_questions budget) long_buffers

  -- a refused file is refused with its question's number, whatever the budget
  pub refused_always : (q budget : ℕ) → file limits bytes ≡ refused q → answer budget ≡ refusal q
  refused_always q budget e = answer-after budget ∙ ap (after_questions budget) e

  module _ (g : Guard) (rest : List ℕ) (taken : file limits bytes ≡ accepted g rest) where
    pub accepted-answer : (budget : ℕ) → answer budget ≡ with_budget budget (search_of g)
    accepted-answer budget = answer-after budget ∙ ap (after_questions budget) taken

    -- "SPENT is given precisely if the walk would visit more nodes than the budget."
    pub spent-below-count : (budget : ℕ) → ((c : Counts) × (answer budget ≡ spent c)) ↔ (budget < node_count g)
    spent-below-count budget =
        (λ p. (spent_exactly budget (search_of g)).0 (p.0, sym (accepted-answer budget) ∙ p.1), λ h. (counts_of (take budget (visited (search_of g))), accepted-answer budget ∙ too_few budget (search_of g) h))

    pub verdict-from-count : (budget : ℕ) → node_count g ≤ budget → answer budget ≡ verdict (search_of g)
    verdict-from-count budget h = accepted-answer budget ∙ enough budget (search_of g) h
