-- "SPENT is given precisely if the walk would visit more nodes than the budget", and otherwise the nodes used are the
-- node count. Assumes nothing.
use mathlib.Core.Path.{◌≡◌, refl, ap, sym, ◌∙◌}
use mathlib.Core.List.{List}
use mathlib.Core.Logic.{◌⊎◌, inl, inr}
use Prim.Native.Nat.{ℕ, ◌+◌, ◌-◌, ◌≤◌, ◌<◌}
use native.Mathlib.Omega.{arith}
use lib.ListN.{length, take}
use lib.Seq.{length-take-le, take_all}
use Rattle.guard.specs.Guard.{Guard}
use Rattle.guard.specs.Node.{Kind.first, Kind.second}
use Rattle.guard.specs.Search.{Counts, Visit, Visits, Visits.closed, Visits.opened, counts_of, node_count, search_of, splits_in, visited, visits}
use Rattle.tallies.specs.declared.Outcome.{Outcome}
use Rattle.tallies.specs.declared.Tally.{Tally}
use Rattle.tallies.specs.Outcome.{after, begin, outcome}
use Rattle.tallies.proofs.OutcomeLaws.{either, enough-left, too_few_left}

-- how a search ended, and what it has left and has made, where all its visits were within the budget
pub record Within (budget : ℕ) (xs : List Visit) (t : Tally) : Type 0 where
  pub enough : visits (closed xs) ≤ budget
  pub left : t.left ≡ budget - visits (closed xs)
  pub first : t.first ≡ splits_in first xs
  pub second : t.second ≡ splits_in second xs

same-counts : {n n' f f' s s' : ℕ} → n ≡ n' → f ≡ f' → s ≡ s' → ◌≡◌ {A = Counts} (record { nodes = n; first = f; second = s }) (record { nodes = n'; first = f'; second = s' })
same-counts p q r = rw (p, q, r) refl

-- the counts of an answer, from what is left and what was made
module _ (budget : ℕ) (xs : List Visit) (t : Tally) where
  pub within-counts : Within budget xs t → record { nodes = budget - t.left; first = t.first; second = t.second } ≡ counts_of xs
  within-counts w =
      let nodes : budget - t.left ≡ length xs = omega (arith, w.enough, w.left) in
      same-counts nodes w.first w.second

  pub cut_counts : budget < length xs → t ≡ after xs (begin budget) → record { nodes = budget; first = t.first; second = t.second } ≡ counts_of (take budget xs)
  cut_counts h e =
      same-counts (sym (length-take-le budget xs (omega arith))) (ap (λ (u : Tally). u.first) e ∙ omega arith) (ap (λ (u : Tally). u.second) e ∙ omega arith)

module _ (budget : ℕ) where
  within : (xs : List Visit) (t : Tally) → visits (closed xs) ≤ budget → after xs (begin budget) ≡ t → Within budget xs t
  within xs t h e =
      let all : take budget xs ≡ xs = take_all budget xs h in
      record {
        enough = h;
        left = sym (ap (λ (u : Tally). u.left) e);
        first = sym (ap (λ (u : Tally). u.first) e) ∙ ap (λ (l : List Visit). 0 + splits_in first l) all ∙ omega arith;
        second = sym (ap (λ (u : Tally). u.second) e) ∙ ap (λ (l : List Visit). 0 + splits_in second l) all ∙ omega arith;
      }

  open_is : (w : Visits) (t : Tally) → outcome w (begin budget) ≡ Outcome.Open t → (xs : List Visit) × (w ≡ opened xs) × Within budget xs t
  open_is w t e = go w (either (visits w) budget) e
    where
      go : (w : Visits) → (visits w ≤ budget) ⊎ (budget < visits w) → outcome w (begin budget) ≡ Outcome.Open t → (xs : List Visit) × (w ≡ opened xs) × Within budget xs t
      go (opened xs) (inl h) e = let q : Outcome.Open (after xs (begin budget)) ≡ Outcome.Open t = sym (enough-left (opened xs) (begin budget) h) ∙ e in (xs, refl, within xs t h cc)
      go (closed xs) (inl h) e =
          let q : Outcome.Closed (after xs (begin budget)) ≡ Outcome.Open t = sym (enough-left (closed xs) (begin budget) h) ∙ e in let z : ◌≡◌ {A = ℕ} 0 1 = cc in absurd (omega arith)
      go w (inr h) e = let q : Outcome.Spent (after (visited w) (begin budget)) ≡ Outcome.Open t = sym (too_few_left w (begin budget) h) ∙ e in let z : ◌≡◌ {A = ℕ} 0 1 = cc in absurd (omega arith)

  closed_is : (w : Visits) (t : Tally) → outcome w (begin budget) ≡ Outcome.Closed t → (xs : List Visit) × (w ≡ closed xs) × Within budget xs t
  closed_is w t e = go w (either (visits w) budget) e
    where
      go : (w : Visits) → (visits w ≤ budget) ⊎ (budget < visits w) → outcome w (begin budget) ≡ Outcome.Closed t → (xs : List Visit) × (w ≡ closed xs) × Within budget xs t
      go (closed xs) (inl h) e = let q : Outcome.Closed (after xs (begin budget)) ≡ Outcome.Closed t = sym (enough-left (closed xs) (begin budget) h) ∙ e in (xs, refl, within xs t h cc)
      go (opened xs) (inl h) e =
          let q : Outcome.Open (after xs (begin budget)) ≡ Outcome.Closed t = sym (enough-left (opened xs) (begin budget) h) ∙ e in let z : ◌≡◌ {A = ℕ} 0 1 = cc in absurd (omega arith)
      go w (inr h) e = let q : Outcome.Spent (after (visited w) (begin budget)) ≡ Outcome.Closed t = sym (too_few_left w (begin budget) h) ∙ e in let z : ◌≡◌ {A = ℕ} 0 1 = cc in absurd (omega arith)

  spent-is : (w : Visits) (t : Tally) → outcome w (begin budget) ≡ Outcome.Spent t → (budget < visits w) × (t ≡ after (visited w) (begin budget))
  spent-is w t e = go w (either (visits w) budget) e
    where
      go : (w : Visits) → (visits w ≤ budget) ⊎ (budget < visits w) → outcome w (begin budget) ≡ Outcome.Spent t → (budget < visits w) × (t ≡ after (visited w) (begin budget))
      go (closed xs) (inl h) e =
          let q : Outcome.Closed (after xs (begin budget)) ≡ Outcome.Spent t = sym (enough-left (closed xs) (begin budget) h) ∙ e in let z : ◌≡◌ {A = ℕ} 0 1 = cc in absurd (omega arith)
      go (opened xs) (inl h) e =
          let q : Outcome.Open (after xs (begin budget)) ≡ Outcome.Spent t = sym (enough-left (opened xs) (begin budget) h) ∙ e in let z : ◌≡◌ {A = ℕ} 0 1 = cc in absurd (omega arith)
      go w (inr h) e = let q : Outcome.Spent (after (visited w) (begin budget)) ≡ Outcome.Spent t = sym (too_few_left w (begin budget) h) ∙ e in (h, sym cc)

-- ---- of a guard

module _ (g : Guard) (budget : ℕ) (t : Tally) where
  pub spent-count : outcome (search_of g) (begin budget) ≡ Outcome.Spent t → (budget < node_count g) × (t ≡ after (visited (search_of g)) (begin budget))
  spent-count = spent-is budget (search_of g) t

  pub open_count : outcome (search_of g) (begin budget) ≡ Outcome.Open t → (xs : List Visit) × (search_of g ≡ opened xs) × Within budget xs t
  open_count = open_is budget (search_of g) t

  pub closed-count : outcome (search_of g) (begin budget) ≡ Outcome.Closed t → (xs : List Visit) × (search_of g ≡ closed xs) × Within budget xs t
  closed-count = closed_is budget (search_of g) t

pub below-spent : (g : Guard) (budget : ℕ) → budget < node_count g → outcome (search_of g) (begin budget) ≡ Outcome.Spent (after (visited (search_of g)) (begin budget))
below-spent g budget h = too_few_left (search_of g) (begin budget) h
