-- What the contract says of an accepted file, for any limits: SPENT exactly below the node count, the node count in every
-- verdict, at most 2 × W − 1 of them, and a verdict that is true. Each follows from the contract alone. Assumes nothing.
use mathlib.Core.Path.{◌≡◌, refl, ap, sym, subst, ◌∙◌}
use mathlib.Core.List.{List}
use mathlib.Core.Logic.{◌↔◌}
use Prim.Native.Nat.{ℕ, ◌+◌, ◌*◌, ◌-◌, ◌≤◌, ◌<◌}
use native.Mathlib.Omega.{arith}
use lib.IntN.{ℤ}
use lib.ListN.{length, take}
use Rattle.guard.specs.Answer.{Outcome.refusal, Outcome.sat, Outcome.spent, Outcome.unsat, after_questions, cut_off, outcome, outcome_of, questions, rows_of, verdict, with_budget}
use Rattle.guard.specs.Guard.{Guard}
use Rattle.guard.specs.Limits.{Limits, Supported}
use Rattle.guard.specs.Meaning.{Satisfiable}
use Rattle.guard.specs.Number.{Parsed, Parsed.accepted, Parsed.refused}
use Rattle.guard.specs.Search.{Counts, Visits, Visits.closed, Visits.opened, W, counts_of, node_count, search_of, visited}
use Rattle.guard.specs.Shown.{shown}
use Rattle.guard.specs.declared.Answer.{Answer}
use Rattle.guard.specs.declared.Answer.TheVariants.{Refused, Sat, Unsat, Spent}
use Rattle.guard.proofs.AnswerLaws.{cut_nodes, enough, spent_exactly, too_few}
use Rattle.guard.proofs.SearchLaws.{closed_twice}
use Rattle.guard.proofs.Claims.{Accepts, accepts-all}
use Rattle.theory.proofs.Theorems.{count-at-most, open_exactly}
use Rattle.decidewithin.specs.Decides.{Decides}
use Rattle.decidewithin.proofs.Decided.{never_refused, questions-file, sat-opened, unsat-closed}

module _ (limits : Limits) (sup : Supported limits) (bytes : List ℕ) (budget : ℕ) (rows places : List ℤ) (r : Answer) (rows' places' : List ℤ) (d : Decides limits bytes budget rows places r rows' places') where
  -- a refused call says the question, and the other way round
  pub refused_exactly : (q : ℕ) → (outcome_of r ≡ refusal q) ↔ (questions limits bytes (length rows) (length places) ≡ refused q)
  unfolding outcome
  refused_exactly q = (λ e. go (questions limits bytes (length rows) (length places)) refl (sym d.says ∙ e), λ e. d.says ∙ ap (after_questions budget) e)
    where
      go : (p : Parsed Guard) → questions limits bytes (length rows) (length places) ≡ p → after_questions budget p ≡ refusal q → questions limits bytes (length rows) (length places) ≡ refused q
      go (refused k) e h = let s : k ≡ q = cc in e ∙ ap (λ (i : ℕ). refused i) s
      go (accepted g rest) e h = absurd (never_refused budget (search_of g) q h)

  -- "4,096 rows always suffice"; document 02, #110: "For these 1,024 rows always suffice."
  pub few-rows : rows_of r ≤ limits.rows
  unfolding outcome outcome_of rows_of
  few-rows = go r refl
    where
      shown-few : (n f s k : ℕ) → r ≡ Sat n f s k → (p : Parsed Guard) → questions limits bytes (length rows) (length places) ≡ p → after_questions budget p ≡ sat (record { nodes = n; first = f; second = s }) → k ≤ limits.rows
      shown-few n f s k e (refused q) t h = let z : ◌≡◌ {A = ℕ} 0 1 = cc in absurd (omega (arith, z))
      shown-few n f s k e (accepted g rest) t h = omega (arith, (d.shown g rest t (record { nodes = n; first = f; second = s }) (ap outcome_of e)).few, ap rows_of e)

      go : (a : Answer) → r ≡ a → rows_of a ≤ limits.rows
      go (Refused q) e = omega arith
      go (Sat n f s k) e = shown-few n f s k e (questions limits bytes (length rows) (length places)) refl (sym d.says ∙ ap outcome_of e)
      go (Unsat n f s) e = omega arith
      go (Spent b f s) e = omega arith

  -- ---- an accepted file

  module _ (g : Guard) (rest : List ℕ) (taken : questions limits bytes (length rows) (length places) ≡ accepted g rest) where
    accepts : Accepts limits bytes g
    accepts = accepts-all limits bytes g rest sup (questions-file limits bytes (length rows) (length places) g rest taken)

    answer-is : outcome_of r ≡ with_budget budget (search_of g)
    unfolding outcome
    answer-is = d.says ∙ ap (after_questions budget) taken

    -- "SPENT is given precisely if the walk would visit more nodes than the budget."
    pub spent-below-count : ((c : Counts) × (outcome_of r ≡ spent c)) ↔ (budget < node_count g)
    spent-below-count =
        (λ p. (spent_exactly budget (search_of g)).0 (p.0, sym answer-is ∙ p.1), λ h. (counts_of (take budget (visited (search_of g))), answer-is ∙ too_few budget (search_of g) h))

    -- SPENT carries the counts of the nodes within the budget
    pub spent_carries : (c : Counts) → outcome_of r ≡ spent c → c ≡ counts_of (take budget (visited (search_of g)))
    spent_carries c e =
        let s : outcome_of r ≡ cut_off budget (search_of g) = answer-is ∙ too_few budget (search_of g) (spent-below-count.0 (c, e)) in
        let t : spent c ≡ spent (counts_of (take budget (visited (search_of g)))) = sym e ∙ s in cc

    -- "SPENT carries the budget"
    pub spent_carries_budget : (c : Counts) → outcome_of r ≡ spent c → c.nodes ≡ budget
    spent_carries_budget c e = ap (λ (k : Counts). k.nodes) (spent_carries c e) ∙ cut_nodes budget (search_of g) (spent-below-count.0 (c, e))

    -- with a budget of the node count or more the answer is the walk's verdict, whatever the budget and the buffers
    pub verdict-from-count : node_count g ≤ budget → outcome_of r ≡ verdict (search_of g)
    verdict-from-count h = answer-is ∙ enough budget (search_of g) h

    -- "SAT and UNSAT carry it": the node count, and all splits of the search
    pub sat_carries : (c : Counts) → outcome_of r ≡ sat c → (c ≡ counts_of (visited (search_of g))) × (c.nodes ≤ budget)
    sat_carries c e =
        let ((xs, w, k), l) = sat-opened budget (search_of g) c (sym answer-is ∙ e) in
        let all : counts_of (visited (search_of g)) ≡ c = ap (λ (v : Visits). counts_of (visited v)) w ∙ k in
        (sym all, omega (arith, ap (λ (d : Counts). d.nodes) all, l))

    pub unsat_carries : (c : Counts) → outcome_of r ≡ unsat c → (c ≡ counts_of (visited (search_of g))) × (c.nodes ≤ budget)
    unsat_carries c e =
        let ((xs, w, k), l) = unsat-closed budget (search_of g) c (sym answer-is ∙ e) in
        let all : counts_of (visited (search_of g)) ≡ c = ap (λ (v : Visits). counts_of (visited v)) w ∙ k in
        (sym all, omega (arith, ap (λ (d : Counts). d.nodes) all, l))

    -- document 02, #105: "For UNSAT, nodes are twice the two counts together and one more."
    pub unsat_twice : (c : Counts) → outcome_of r ≡ unsat c → c.nodes ≡ 2 * (c.first + c.second) + 1
    unsat_twice c e =
        let ((xs, w, k), l) = unsat-closed budget (search_of g) c (sym answer-is ∙ e) in
        subst (λ (d : Counts). d.nodes ≡ 2 * (d.first + d.second) + 1) k (closed_twice g xs w)

    -- "at most 2 × W − 1 nodes", so a budget of that many always brings a verdict
    pub count-at-most_twice_w : node_count g ≤ 2 * W g - 1
    count-at-most_twice_w = count-at-most limits bytes g accepts

    pub enough-budget : 2 * W g - 1 ≤ budget → outcome_of r ≡ verdict (search_of g)
    enough-budget h = verdict-from-count (omega (arith, count-at-most_twice_w))

    -- ---- the verdict is true

    pub sat_satisfiable : (n : Counts) → outcome_of r ≡ sat n → Satisfiable g
    sat_satisfiable n e = record { assignment = shown g (rows_of r) rows' places'; holds = (d.shown g rest taken n e).holds }

    pub sat_exactly : node_count g ≤ budget → ((n : Counts) × (outcome_of r ≡ sat n)) ↔ Satisfiable g
    sat_exactly h =
        (λ p. sat_satisfiable p.0 p.1, λ s. let (xs, w) = (open_exactly limits bytes g accepts).1 s in (counts_of xs, verdict-from-count h ∙ ap verdict w))

    pub unsat_exactly : node_count g ≤ budget → ((n : Counts) × (outcome_of r ≡ unsat n)) ↔ (¬ Satisfiable g)
    unsat_exactly h = (λ p. d.dead g rest taken p.0 p.1, λ dead. go (search_of g) refl dead)
      where
        go : (w : Visits) → search_of g ≡ w → (¬ Satisfiable g) → (n : Counts) × (outcome_of r ≡ unsat n)
        go (opened n) e dead = absurd (dead (sat_satisfiable (counts_of n) (verdict-from-count h ∙ ap verdict e)))
        go (closed n) e dead = (counts_of n, verdict-from-count h ∙ ap verdict e)

-- "A file's node count and its walk's verdict belong to the file alone, not to the budget or the buffers": two calls on one
-- accepted file, neither SPENT, say the same. Document 02, #105: "The rule about larger budgets now covers these counts after a
-- verdict."
pub same-verdict : (limits : Limits) → Supported limits → (bytes : List ℕ) (g : Guard) (rest : List ℕ)
    → (budget : ℕ) (rows places : List ℤ) (r : Answer) (rows' places' : List ℤ) → Decides limits bytes budget rows places r rows' places' → questions limits bytes (length rows) (length places) ≡ accepted g rest
    → (budget₂ : ℕ) (rows₂ places₂ : List ℤ) (r₂ : Answer) (rows₂' places₂' : List ℤ) → Decides limits bytes budget₂ rows₂ places₂ r₂ rows₂' places₂' → questions limits bytes (length rows₂) (length places₂) ≡ accepted g rest
    → node_count g ≤ budget → node_count g ≤ budget₂ → outcome_of r ≡ outcome_of r₂
same-verdict limits sup bytes g rest budget rows places r rows' places' d q budget₂ rows₂ places₂ r₂ rows₂' places₂' d₂ q₂ h h₂ =
    verdict-from-count limits sup bytes budget rows places r rows' places' d g rest q h ∙ sym (verdict-from-count limits sup bytes budget₂ rows₂ places₂ r₂ rows₂' places₂' d₂ g rest q₂ h₂)
