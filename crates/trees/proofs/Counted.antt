-- The counted search is the depth-first visit of one finished tree, the one that takes the defined split at each node. So
-- its node count is at most the tree's number of nodes, and it ends open exactly if the tree has an open leaf.
-- Assumes nothing.
use mathlib.Core.Path.{◌≡◌, refl, ap, sym, subst, ◌∙◌, ap₂}
use mathlib.Core.Bool.{Bool, true, false, false≢true}
use mathlib.Core.List.Memᴰ
use mathlib.Core.List.{List, [], ◌∷◌}
use mathlib.Core.Logic.{inl, inr, ◌↔◌}
use Prim.Native.Nat.{ℕ, zero, suc, ◌≤◌, ◌<◌, ◌*◌, ◌-◌}
use native.Mathlib.Omega.{arith}
use mathlib.Core.Option.{Option, none, some}
use Rattle.laws.specs.Lists.{find}
use Rattle.laws.proofs.Lists.{find_none, find-some, none-some}
use Rattle.guard.specs.Closure.{State}
use Rattle.guard.specs.Guard.{Guard, Literal, Literal.is, Literal.isnt}
use Rattle.guard.specs.Limits.{Limits, Supported}
use Rattle.guard.specs.Node.{Split, first_kind, kind_of, on_read, on_term, second_kind, split_of}
use Rattle.guard.specs.Search.{Visit, Visit.split, Visits, Visits.closed, Visits.opened, W, children, label_total, node_count, search, search_of, search_to, visits}
use Rattle.guard.specs.Terms.{Read, Term, table_of}
use Rattle.guard.specs.WellFormed.{WellFormed}
use Rattle.guard.proofs.ClosureBelow.{LiteralsInRange}
use Rattle.guard.proofs.NodeLaws.{SplitsAt, lowest-left, split-is}
use Rattle.guard.proofs.SearchLaws.{plus-visits}
use Rattle.trees.specs.Tree.{Finished, HasOpenLeaf, Permitted, Permitted.on_choice, Permitted.on_field, Tree, Tree.branch, Tree.leaf, closed_at, leaf_visit, literals_at, nodes, state_at, visit}
use Rattle.trees.specs.Rule.{Chooses, MaySay, OnTree, counted, counted_tree, tree_by, tree_to}
use Rattle.trees.proofs.Bound.{tree_bound}
use Rattle.trees.proofs.ByRule.{rule-finished}
use Rattle.trees.proofs.Choices.{choice_term, is_child, isnt_child, range, second_choice}

-- ---- visits
visits-nodes : (g : Guard) (ds : List Literal) (tree : Tree) → visits (visit g ds tree) ≤ nodes tree
visits-nodes g ds leaf = go (closed_at g ds)
  where
    go : (b : Bool) → visits (leaf_visit b) ≤ 1
    go true = omega arith
    go false = omega arith
visits-nodes g ds (branch d yes' no') =
    go (visit g (is d.term d.variant ∷ ds) yes') (visit g (isnt d.term d.variant ∷ ds) no') (visits-nodes g (is d.term d.variant ∷ ds) yes')
    (visits-nodes g (isnt d.term d.variant ∷ ds) no')
  where
    go : (a b : Visits) → visits a ≤ nodes yes' → visits b ≤ nodes no' → visits (children (kind_of (table_of g) (state_at g ds)) a (λ u. b)) ≤ nodes (branch d yes' no')
    go (opened n) b h k = omega arith
    go (closed n) b h k = omega (arith, plus-visits (split (kind_of (table_of g) (state_at g ds)) ∷ n) b)

-- a visit that ends open has found an open leaf
pub visit-opened : (g : Guard) (ds : List Literal) (tree : Tree) (n : List Visit) → Finished g ds tree → visit g ds tree ≡ opened n → HasOpenLeaf g ds tree
visit-opened g ds leaf n (inl c) e = let z : closed (Visit.leaf ∷ []) ≡ opened n = ap leaf_visit (sym c) ∙ e in let y : ◌≡◌ {A = ℕ} 0 1 = cc in absurd (omega arith)
visit-opened g ds leaf n (inr o) e = o
visit-opened g ds (branch d yes' no') n f e =
    go (visit g (is d.term d.variant ∷ ds) yes') (visit g (isnt d.term d.variant ∷ ds) no') (λ m. visit-opened g (is d.term d.variant ∷ ds) yes' m f.2)
    (λ m. visit-opened g (isnt d.term d.variant ∷ ds) no' m f.3) refl refl e
  where
    go : (a b : Visits)
        → ((m : List Visit) → visit g (is d.term d.variant ∷ ds) yes' ≡ opened m → HasOpenLeaf g (is d.term d.variant ∷ ds) yes')
        → ((m : List Visit) → visit g (isnt d.term d.variant ∷ ds) no' ≡ opened m → HasOpenLeaf g (isnt d.term d.variant ∷ ds) no')
        → visit g (is d.term d.variant ∷ ds) yes' ≡ a → visit g (isnt d.term d.variant ∷ ds) no' ≡ b → children (kind_of (table_of g) (state_at g ds)) a (λ u. b) ≡ opened n
        → HasOpenLeaf g ds (branch d yes' no')
    go (opened m) b hy hn p q r = inl (hy m p)
    go (closed m) (opened k) hy hn p q r = inr (hn k q)
    go (closed m) (closed k) hy hn p q r = let y : ◌≡◌ {A = ℕ} 0 1 = cc in absurd (omega arith)

-- a visit that ends closed has met no open leaf
pub visit-closed : (g : Guard) (ds : List Literal) (tree : Tree) (n : List Visit) → visit g ds tree ≡ closed n → ¬ HasOpenLeaf g ds tree
visit-closed g ds leaf n e o = let z : opened (Visit.leaf ∷ []) ≡ closed n = ap leaf_visit (sym o.0) ∙ e in let y : ◌≡◌ {A = ℕ} 0 1 = cc in omega arith
visit-closed g ds (branch d yes' no') n e o =
    go (visit g (is d.term d.variant ∷ ds) yes') (visit g (isnt d.term d.variant ∷ ds) no') (visit-closed g (is d.term d.variant ∷ ds) yes')
    (visit-closed g (isnt d.term d.variant ∷ ds) no') refl refl e o
  where
    go : (a b : Visits)
        → ((m : List Visit) → visit g (is d.term d.variant ∷ ds) yes' ≡ closed m → ¬ HasOpenLeaf g (is d.term d.variant ∷ ds) yes')
        → ((m : List Visit) → visit g (isnt d.term d.variant ∷ ds) no' ≡ closed m → ¬ HasOpenLeaf g (isnt d.term d.variant ∷ ds) no')
        → visit g (is d.term d.variant ∷ ds) yes' ≡ a → visit g (isnt d.term d.variant ∷ ds) no' ≡ b → children (kind_of (table_of g) (state_at g ds)) a (λ u. b) ≡ closed n
        → ¬ HasOpenLeaf g ds (branch d yes' no')
    go (opened m) b hy hn p q r o = let y : ◌≡◌ {A = ℕ} 0 1 = cc in omega arith
    go (closed m) (opened k) hy hn p q r o = let y : ◌≡◌ {A = ℕ} 0 1 = cc in omega arith
    go (closed m) (closed k) hy hn p q r (inl o) = hy m p o
    go (closed m) (closed k) hy hn p q r (inr o) = hn k q o

-- ---- the tree of the defined splits

module _ (limits : Limits) (sup : Supported limits) (g : Guard) (ok : WellFormed limits g) where
  -- the defined split is permitted
  defined_permitted : (ds : List Literal) → LiteralsInRange ds → (d : Split) → split_of (table_of g) (state_at g ds) ≡ some d → Permitted g ds d
  unfolding split_of
  defined_permitted ds r d e = go (find (first_kind s) (table_of g).reads) (find (second_kind (table_of g) s) (table_of g).terms) refl refl e
    where
      s : State
      s = state_at g ds

      go : (o : Option Read) (p : Option Term) → find (first_kind (state_at g ds)) (table_of g).reads ≡ o → find (second_kind (table_of g) (state_at g ds)) (table_of g).terms ≡ p
          → ◌≡◌ {A = Option Split} (elim o [ some q ↦ some (on_read q) | none ↦ elim p [ some x ↦ some (on_term (table_of g) (state_at g ds) x) | none ↦ none ] ]) (some d) → Permitted g ds d
      go (some q) p u w e =
          let z : on_read q ≡ d = cc in
          let (m, k) = find-some (first_kind (state_at g ds)) (table_of g).reads q u in
          on_field q m k (sym z)
      go none (some x) u w e =
          let z : on_term (table_of g) (state_at g ds) x ≡ d = cc in
          let (m, k) = find-some (second_kind (table_of g) (state_at g ds)) (table_of g).terms x w in
          let lowest = lowest-left (table_of g) (range limits sup g ok) (literals_at g ds) x k in
          on_choice x (on_term (table_of g) (state_at g ds) x).variant (second_choice limits sup g ok ds r x m k) k lowest (sym z)
      go none none u w e = absurd (none-some d e)

  -- where the defined search finds no split, none is permitted
  pub none_permitted : (ds : List Literal) → split_of (table_of g) (state_at g ds) ≡ none → (d : Split) → ¬ Permitted g ds d
  unfolding split_of
  none_permitted ds e d p = go (find (first_kind (state_at g ds)) (table_of g).reads) (find (second_kind (table_of g) (state_at g ds)) (table_of g).terms) refl refl e p
    where
      go : (o : Option Read) (q : Option Term) → find (first_kind (state_at g ds)) (table_of g).reads ≡ o → find (second_kind (table_of g) (state_at g ds)) (table_of g).terms ≡ q
          → ◌≡◌ {A = Option Split} (elim o [ some q ↦ some (on_read q) | none ↦ elim q [ some x ↦ some (on_term (table_of g) (state_at g ds) x) | none ↦ none ] ]) none → Permitted g ds d → ⊥
      go (some r) q u w e p = none-some (on_read r) (sym e)
      go none (some x) u w e p = none-some (on_term (table_of g) (state_at g ds) x) (sym e)
      go none none u w e (on_field r m k z) = false≢true (sym (find_none (first_kind (state_at g ds)) (table_of g).reads u r m) ∙ k)
      go none none u w e (on_choice x v m k mv z) = false≢true (sym (find_none (second_kind (table_of g) (state_at g ds)) (table_of g).terms w x (choice_term limits sup g ok x m)) ∙ k)

  -- "With nothing to split, the node is open": the search finds nothing exactly where nothing is permitted
  pub nothing_to_split : (ds : List Literal) → LiteralsInRange ds → (split_of (table_of g) (state_at g ds) ≡ none) ↔ ((d : Split) → ¬ Permitted g ds d)
  nothing_to_split ds r = (none_permitted ds, λ f. go f (split_of (table_of g) (state_at g ds)) refl)
    where
      go : ((d : Split) → ¬ Permitted g ds d) → (c : Option Split) → split_of (table_of g) (state_at g ds) ≡ c → c ≡ none
      go f none e = refl
      go f (some d) e = absurd (f d (defined_permitted ds r d e))

  split-here : (ds : List Literal) (d : Split) → split_of (table_of g) (state_at g ds) ≡ some d → SplitsAt (table_of g) (state_at g ds) d
  split-here ds = split-is (table_of g) (range limits sup g ok) (literals_at g ds)

  on-tree_in_range : (ds : List Literal) → OnTree counted g ds → LiteralsInRange ds
  on-tree_in_range [] o = λ l m. absurd (Memᴰ.not-nil m)
  on-tree_in_range (l ∷ ds) (o, e, d, q, inl z) = subst (λ (k : Literal). LiteralsInRange (k ∷ ds)) (sym z) (is_child limits sup g ok ds (on-tree_in_range ds o) d (split-here ds d q)).in_range
  on-tree_in_range (l ∷ ds) (o, e, d, q, inr z) = subst (λ (k : Literal). LiteralsInRange (k ∷ ds)) (sym z) (isnt_child limits sup g ok ds (on-tree_in_range ds o) d (split-here ds d q)).in_range

  -- the search's own rule chooses permitted splits, so its tree is finished
  pub counted-chooses : Chooses counted g
  counted-chooses ds o e = go (split_of (table_of g) (state_at g ds)) refl
    where
      go : (c : Option Split) → split_of (table_of g) (state_at g ds) ≡ c → MaySay g ds c
      go (some d) q = defined_permitted ds (on-tree_in_range ds o) d q
      go none q = none_permitted ds q

  pub counted-finished : Finished g [] (counted_tree g)
  counted-finished = rule-finished limits sup g ok counted counted-chooses

  -- the visit of its tree is the search
  visit_to : (k : ℕ) (ds : List Literal) → LiteralsInRange ds → label_total (table_of g) (state_at g ds) < k → visit g ds (tree_to counted k g ds) ≡ search_to k (table_of g) (literals_at g ds)
  unfolding tree_to search_to
  visit_to zero ds r h = absurd (omega arith)
  visit_to (suc k) ds r h = go (λ l rl lt. visit_to k (l ∷ ds) rl lt) (closed_at g ds) refl (split_of (table_of g) (state_at g ds)) refl
    where
      go : ((l : Literal) → LiteralsInRange (l ∷ ds) → label_total (table_of g) (state_at g (l ∷ ds)) < k → visit g (l ∷ ds) (tree_to counted k g (l ∷ ds)) ≡ search_to k (table_of g) (literals_at g (l ∷ ds)))
          → (b : Bool) → closed_at g ds ≡ b → (o : Option Split) → split_of (table_of g) (state_at g ds) ≡ o → visit g ds (tree_to counted (suc k) g ds) ≡ search_to (suc k) (table_of g) (literals_at g ds)
      go ih true e o q = rw e (ap leaf_visit e)
      go ih false e none q = rw (e, q) (ap leaf_visit e)
      go ih false e (some d) q =
          let yes' = is_child limits sup g ok ds r d (split-here ds d q) in
          let no' = isnt_child limits sup g ok ds r d (split-here ds d q) in
          rw (e, q) (ap₂ (λ (x y : Visits). children (kind_of (table_of g) (state_at g ds)) x (λ u. y)) (ih (is d.term d.variant) yes'.in_range (omega (arith, yes'.falls)))
          (ih (isnt d.term d.variant) no'.in_range (omega (arith, no'.falls))))

  pub counted-visit : visit g [] (counted_tree g) ≡ search_of g
  unfolding tree_by search_of search
  counted-visit = visit_to (suc (label_total (table_of g) (state_at g []))) [] (λ l m. absurd (Memᴰ.not-nil m)) (omega arith)

  -- "the node count .. is at most 2 × W − 1"
  pub count_bound : node_count g ≤ 2 * W g - 1
  count_bound = omega (arith, ap visits counted-visit, visits-nodes g [] (counted_tree g), tree_bound limits sup g ok (counted_tree g) counted-finished)
