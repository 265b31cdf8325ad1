-- The theorems about accepted files, for any limits up to 6 types, 24 terms and 64 lines. Each rests on the crates below:
-- `soundness` (a closed node has no model), `models` (an open one has), `trees` (any order of splitting). Assumes nothing.
use mathlib.Core.Path.{◌≡◌, refl, ◌∙◌, ap, subst}
use mathlib.Core.List.{List, []}
use Prim.Native.Nat.{ℕ, ◌+◌, ◌*◌, ◌≤◌, ◌-◌}
use native.Mathlib.Omega.{arith}
use mathlib.Core.Logic.{◌↔◌}
use mathlib.Core.Bool.{Bool, true, false, cond, ◌&&◌}
use lib.Dec.{leb}
use lib.ListN.{take}
use Rattle.guard.specs.Answer.{Outcome, Outcome.refusal, Outcome.sat, Outcome.spent, Outcome.unsat, after_buffers, after_questions, cut_off, outcome, questions, verdict}
use Rattle.guard.specs.File.{file}
use Rattle.guard.specs.Guard.{Guard, Literal}
use Rattle.guard.specs.Limits.{Limits, Supported, base, place_buffer, row_buffer}
use Rattle.guard.specs.Meaning.{Satisfiable}
use Rattle.guard.specs.Number.{Parsed, Parsed.accepted, Parsed.refused}
use Rattle.guard.specs.Search.{Counts, Visit, Visits, Visits.closed, Visits.opened, W, counts_of, node_count, search_of, visited}
use Rattle.guard.specs.WellFormed.{WellFormed}
use Rattle.guard.proofs.AnswerLaws.{verdict-from-count}
use Rattle.guard.proofs.SearchLaws.{closed_twice}
use Rattle.guard.proofs.Claims.{Accepts, accepts-all, well_formed_lem}
use Rattle.models.proofs.OpenModel.{FewRows, row_bound}
use Rattle.theory.specs.AnyOrder.{Settles}
use Rattle.theory.proofs.OpenLeaf.{open_messages}
use Rattle.theory.proofs.Satisfiable.{satisfiable_open}
use Rattle.trees.specs.Tree.{Finished, Tree}
use Rattle.trees.specs.Rule.{Chooses, Rule, counted, counted_tree, numbered, tree_by}
use Rattle.trees.proofs.Bound.{tree_bound}
use Rattle.trees.proofs.ByRule.{numbered-chooses, rule-finished}
use Rattle.trees.proofs.Counted.{count_bound, counted-chooses, counted-finished, counted-visit, visit-closed, visit-opened}

module _ (limits : Limits) (bytes : List ℕ) (g : Guard) (a : Accepts limits bytes g) where
  abbrev ok : WellFormed limits g
  ok = well_formed_lem limits bytes g a

  -- Whichever permitted split is taken at each node: once the tree is finished, it has an open leaf exactly if some
  -- messages of the right types make every line true, and it has at most 2 × W − 1 nodes.
  pub any_order : (tree : Tree) → Finished g [] tree → Settles g tree
  any_order tree f =
      record {
        finished = f;
        open_leaf = (
          λ o. let m = open_messages limits a.supported g ok tree f o in record { assignment = m.assignment; holds = m.holds },
          satisfiable_open limits a.supported g ok tree f,
        );
        few_nodes = tree_bound limits a.supported g ok tree f;
      }

  -- By any rule that chooses a permitted split at each node that is neither closed nor open. So every such rule comes to an end.
  pub any-rule : (rule : Rule) → Chooses rule g → Settles g (tree_by rule g)
  any-rule rule c = any_order (tree_by rule g) (rule-finished limits a.supported g ok rule c)

  -- Any numbers at all make such a rule, which takes the permitted splits by number; and the search's own is one.
  pub any-numbers : (n : Guard → List Literal → ℕ) → Settles g (tree_by (numbered n) g)
  any-numbers n = any-rule (numbered n) (numbered-chooses n g)

  pub own_rule : Settles g (counted_tree g)
  own_rule = any-rule counted (counted-chooses limits a.supported g ok)

  -- The counted search ends open exactly if some messages of the right types make every line true.
  pub opened_satisfiable : (xs : List Visit) → search_of g ≡ opened xs → FewRows g (row_bound limits)
  opened_satisfiable xs e =
      open_messages limits a.supported g ok (counted_tree g) finished (visit-opened g [] (counted_tree g) xs finished (counted-visit limits a.supported g ok ∙ e))
    where
      finished : Finished g [] (counted_tree g)
      finished = counted-finished limits a.supported g ok

  pub closed_unsatisfiable : (xs : List Visit) → search_of g ≡ closed xs → ¬ Satisfiable g
  closed_unsatisfiable xs e s =
      visit-closed g [] (counted_tree g) xs (counted-visit limits a.supported g ok ∙ e)
      (satisfiable_open limits a.supported g ok (counted_tree g) (counted-finished limits a.supported g ok) s)

  pub open_exactly : ((xs : List Visit) × (search_of g ≡ opened xs)) ↔ Satisfiable g
  open_exactly = (λ p. let m = opened_satisfiable p.0 p.1 in record { assignment = m.assignment; holds = m.holds }, λ s. go (search_of g) refl s)
    where
      go : (w : Visits) → search_of g ≡ w → Satisfiable g → (xs : List Visit) × (search_of g ≡ opened xs)
      go (opened xs) e s = (xs, e)
      go (closed xs) e s = absurd (closed_unsatisfiable xs e s)

  -- The search visits at most 2 × W − 1 nodes, so a budget of that many always brings a verdict.
  pub count-at-most : node_count g ≤ 2 * W g - 1
  count-at-most = count_bound limits a.supported g ok

  pub enough-budget : (row_length place_length budget : ℕ) → row_buffer limits ≤ row_length → place_buffer limits ≤ place_length → 2 * W g - 1 ≤ budget
      → outcome limits bytes budget row_length place_length ≡ verdict (search_of g)
  enough-budget row_length place_length budget hr hp h = verdict-from-count limits bytes row_length place_length hr hp g [] a.accepts budget (omega (arith, count-at-most))

-- ---- answers

-- the same from a verdict: the file is accepted, the counts are those of its search, and the verdict is true
pub record Verdict (limits : Limits) (bytes : List ℕ) (c : Counts) (P : Guard → Type 0) : Type 0 where
  pub guard : Guard
  pub accepts : Accepts limits bytes guard
  pub counts : counts_of (visited (search_of guard)) ≡ c
  pub holds : P guard

module _ (limits : Limits) (sup : Supported limits) (bytes : List ℕ) (budget row_length place_length : ℕ) (c : Counts) where
  -- an accepted call is one of an accepted file
  file-accepts : (b : Bool) (g : Guard) (rest : List ℕ) → after_buffers b limits bytes ≡ accepted g rest → file limits bytes ≡ accepted g rest
  file-accepts true g rest e = e
  file-accepts false g rest e = let z : ◌≡◌ {A = ℕ} 0 1 = cc in absurd (omega arith)

  -- from an answer that is neither a refusal nor SPENT to the end of the search
  from-search : (P : Guard → Type 0) (want : Outcome) → ((q : ℕ) → ¬ (refusal q ≡ want)) → ((b : Counts) → ¬ (spent b ≡ want))
      → ((g : Guard) → Accepts limits bytes g → verdict (search_of g) ≡ want → (counts_of (visited (search_of g)) ≡ c) × P g) → outcome limits bytes budget row_length place_length ≡ want → Verdict limits bytes c P
  unfolding outcome questions
  from-search P want not-refused not_spent f e = go (after_buffers (leb (row_buffer limits) row_length && leb (place_buffer limits) place_length) limits bytes) refl e
    where
      within : (b : Bool) (w : Visits) → cond b (verdict w) (cut_off budget w) ≡ want → verdict w ≡ want
      within true w h = h
      within false w h = absurd (not_spent (counts_of (take budget (visited w))) h)

      go : (p : Parsed Guard) → after_buffers (leb (row_buffer limits) row_length && leb (place_buffer limits) place_length) limits bytes ≡ p → after_questions budget p ≡ want → Verdict limits bytes c P
      go (refused q) r h = absurd (not-refused q h)
      go (accepted g rest) r h =
          let a : Accepts limits bytes g = accepts-all limits bytes g rest sup (file-accepts (leb (row_buffer limits) row_length && leb (place_buffer limits) place_length) g rest r) in
          let (k, p) = f g a (within (leb (node_count g) budget) (search_of g) h) in
          record { guard = g; accepts = a; counts = k; holds = p }

  -- "SAT comes with finite messages that make every line true", in few rows
  pub sat_true : outcome limits bytes budget row_length place_length ≡ sat c → Verdict limits bytes c (λ g. FewRows g (row_bound limits))
  sat_true =
      from-search (λ g. FewRows g (row_bound limits)) (sat c) (λ q e. let z : ◌≡◌ {A = ℕ} 0 1 = cc in omega arith) (λ b e. let z : ◌≡◌ {A = ℕ} 0 1 = cc in omega arith)
      (λ g a e. let (xs, q, k) = opened-by (search_of g) e in (ap (λ (w : Visits). counts_of (visited w)) q ∙ k, opened_satisfiable limits bytes g a xs q))
    where
      opened-by : (w : Visits) → verdict w ≡ sat c → (xs : List Visit) × (w ≡ opened xs) × (counts_of xs ≡ c)
      opened-by (opened xs) e = (xs, refl, cc)
      opened-by (closed xs) e = let z : ◌≡◌ {A = ℕ} 0 1 = cc in absurd (omega arith)

  closed-by : (w : Visits) → verdict w ≡ unsat c → (xs : List Visit) × (w ≡ closed xs) × (counts_of xs ≡ c)
  closed-by (closed xs) e = (xs, refl, cc)
  closed-by (opened xs) e = let z : ◌≡◌ {A = ℕ} 0 1 = cc in absurd (omega arith)

  -- "UNSAT is said only where none do"
  pub unsat_true : outcome limits bytes budget row_length place_length ≡ unsat c → Verdict limits bytes c (λ g. ¬ Satisfiable g)
  unsat_true =
      from-search (λ g. ¬ Satisfiable g) (unsat c) (λ q e. let z : ◌≡◌ {A = ℕ} 0 1 = cc in omega arith) (λ b e. let z : ◌≡◌ {A = ℕ} 0 1 = cc in omega arith)
      (λ g a e. let (xs, q, k) = closed-by (search_of g) e in (ap (λ (w : Visits). counts_of (visited w)) q ∙ k, closed_unsatisfiable limits bytes g a xs q))

  -- document 02, #105: "For UNSAT, nodes are twice the two counts together and one more."
  pub unsat_twice : outcome limits bytes budget row_length place_length ≡ unsat c → c.nodes ≡ 2 * (c.first + c.second) + 1
  unsat_twice e =
      let v = from-search (λ g. c.nodes ≡ 2 * (c.first + c.second) + 1) (unsat c) (λ q e. let z : ◌≡◌ {A = ℕ} 0 1 = cc in omega arith) (λ b e. let z : ◌≡◌ {A = ℕ} 0 1 = cc in omega arith)
      (λ g a e. let (xs, q, k) = closed-by (search_of g) e in (
        ap (λ (w : Visits). counts_of (visited w)) q ∙ k,
        subst (λ (d : Counts). d.nodes ≡ 2 * (d.first + d.second) + 1) k (closed_twice g xs q),
      )) e in
      v.holds

-- ---- rows

-- "Within these limits 4,096 rows always suffice"; and 1,024 for 3 types and 8 terms (document 02, #110)
pub rows_of-base : row_bound base ≤ 4096
rows_of-base = omega arith

pub rows_of-loader : row_bound (record { types = 3; terms = 8; lines = 8; rows = 1024 }) ≤ 1024
rows_of-loader = omega arith
