-- The tree of every rule that chooses permitted splits is finished: a split makes the total of the label sizes fall, so no
-- branch reaches the depth at which the tree is cut. Which splits are permitted is computed (`permitted_in`), so a rule can
-- always choose, and any numbers make one. Assumes nothing.
use mathlib.Core.Path.{◌≡◌, refl, ap, sym, ◌∙◌, subst}
use mathlib.Core.Bool.{Bool, true, false, false≢true}
use mathlib.Core.List.Memᴰ
use mathlib.Core.List.{List, [], ◌∷◌, map, Memᴰ}
use mathlib.Core.Logic.{◌⊎◌, inl, inr, ◌↔◌}
use mathlib.Core.Option.{Option, none, some}
use Prim.Native.Nat.{ℕ, zero, suc, ◌<◌}
use native.Mathlib.Omega.{arith}
use Rattle.laws.specs.Lists.{concat_map, filter}
use Rattle.laws.proofs.Lists.{filter-is, filter_mem, map_inv, mem_concat_map, mem_concat_map_inv, mem_map, none-some}
use Rattle.guard.specs.Guard.{Guard, Literal, Literal.is, Literal.isnt}
use Rattle.guard.specs.Limits.{Limits, Supported}
use Rattle.guard.specs.Node.{Split, first_kind, on_read, second_kind, variants_left}
use Rattle.guard.specs.Search.{choices, label_total}
use Rattle.guard.specs.Terms.{table_of}
use Rattle.guard.specs.WellFormed.{WellFormed}
use Rattle.guard.proofs.ClosureBelow.{LiteralsInRange}
use Rattle.trees.specs.Tree.{Finished, HasOpenLeaf, Permitted, Permitted.on_choice, Permitted.on_field, Tree, Tree.branch, Tree.leaf, closed_at, state_at}
use Rattle.trees.specs.Rule.{Chooses, MaySay, OnTree, Rule, numbered, open_leaf, open_leaves, permitted_in, pick, splits_on, tree_by, tree_to}
use Rattle.trees.proofs.Choices.{is_child, isnt_child, permitted_splits}

-- ---- open leaves

-- in a finished tree the leaves that aren't closed are the open ones
pub open_counted : (g : Guard) (tree : Tree) (ds : List Literal) → Finished g ds tree → HasOpenLeaf g ds tree ↔ (0 < open_leaves g ds tree)
open_counted g leaf ds (inl c) = (λ o. absurd (false≢true (sym o.0 ∙ c)), λ h. absurd (omega (arith, h, ap open_leaf c)))
open_counted g leaf ds (inr o) = (λ p. omega (arith, ap open_leaf o.0), λ h. o)
open_counted g (branch d yes' no') ds f = go (open_counted g yes' (is d.term d.variant ∷ ds) f.2) (open_counted g no' (isnt d.term d.variant ∷ ds) f.3)
  where
    go : HasOpenLeaf g (is d.term d.variant ∷ ds) yes' ↔ (0 < open_leaves g (is d.term d.variant ∷ ds) yes')
        → HasOpenLeaf g (isnt d.term d.variant ∷ ds) no' ↔ (0 < open_leaves g (isnt d.term d.variant ∷ ds) no')
        → HasOpenLeaf g ds (branch d yes' no') ↔ (0 < open_leaves g ds (branch d yes' no'))
    go y n = (there, λ h. back (open_leaves g (is d.term d.variant ∷ ds) yes') refl h)
      where
        there : HasOpenLeaf g (is d.term d.variant ∷ ds) yes' ⊎ HasOpenLeaf g (isnt d.term d.variant ∷ ds) no' → 0 < open_leaves g ds (branch d yes' no')
        there (inl o) = omega (arith, y.0 o)
        there (inr o) = omega (arith, n.0 o)

        back : (k : ℕ) → open_leaves g (is d.term d.variant ∷ ds) yes' ≡ k → 0 < open_leaves g ds (branch d yes' no') → HasOpenLeaf g ds (branch d yes' no')
        back zero q h = inr (n.1 (omega (arith, q, h)))
        back (suc k) q h = inl (y.1 (omega (arith, q)))

-- ---- the tree of a rule

module _ (limits : Limits) (sup : Supported limits) (g : Guard) (ok : WellFormed limits g) (rule : Rule) (chooses : Chooses rule g) where
  finished_to : (k : ℕ) (ds : List Literal) → LiteralsInRange ds → OnTree rule g ds → label_total (table_of g) (state_at g ds) < k → Finished g ds (tree_to rule k g ds)
  unfolding tree_to
  finished_to zero ds r o h = absurd (omega arith)
  finished_to (suc k) ds r o h = go (λ l rl ol lt. finished_to k (l ∷ ds) rl ol lt) (closed_at g ds) refl (rule g ds) refl
    where
      go : ((l : Literal) → LiteralsInRange (l ∷ ds) → OnTree rule g (l ∷ ds) → label_total (table_of g) (state_at g (l ∷ ds)) < k → Finished g (l ∷ ds) (tree_to rule k g (l ∷ ds)))
          → (b : Bool) → closed_at g ds ≡ b → (c : Option Split) → rule g ds ≡ c → Finished g ds (tree_to rule (suc k) g ds)
      go ih true e c q = rw e (inl e)
      go ih false e none q = rw (e, q) (inr (e, subst (MaySay g ds) q (chooses ds o e)))
      go ih false e (some d) q =
          let p : Permitted g ds d = subst (MaySay g ds) q (chooses ds o e) in
          let sp = permitted_splits limits sup g ok ds d p in
          let yes' = is_child limits sup g ok ds r d sp in
          let no' = isnt_child limits sup g ok ds r d sp in
          rw (e, q) (e, p, ih (is d.term d.variant) yes'.in_range (o, e, d, q, inl refl) (omega (arith, yes'.falls)), ih (isnt d.term d.variant) no'.in_range (o, e, d, q, inr refl) (omega (arith, no'.falls)))

  pub rule-finished : Finished g [] (tree_by rule g)
  unfolding tree_by
  rule-finished = finished_to (suc (label_total (table_of g) (state_at g []))) [] (λ l m. absurd (Memᴰ.not-nil m)) tt (omega arith)

-- ---- the permitted splits of a node

pub permitted_listed : (g : Guard) (ds : List Literal) (d : Split) → Permitted g ds d ↔ Memᴰ d (permitted_in g (state_at g ds))
permitted_listed g ds d = (listed, λ m. found (Memᴰ.append_cases (map on_read (filter (first_kind (state_at g ds)) (table_of g).reads)) m))
  where
    listed : Permitted g ds d → Memᴰ d (permitted_in g (state_at g ds))
    listed (on_field r m k e) =
        Memᴰ.append_left (concat_map (splits_on (table_of g) (state_at g ds)) (filter (second_kind (table_of g) (state_at g ds)) (choices g)))
        (subst (λ (c : Split). Memᴰ c (map on_read (filter (first_kind (state_at g ds)) (table_of g).reads))) (sym e) (mem_map on_read (filter_mem (first_kind (state_at g ds)) (table_of g).reads r m k)))
    listed (on_choice x v m k mv e) =
        Memᴰ.append_right (map on_read (filter (first_kind (state_at g ds)) (table_of g).reads))
        (mem_concat_map (splits_on (table_of g) (state_at g ds)) (filter (second_kind (table_of g) (state_at g ds)) (choices g)) (filter_mem (second_kind (table_of g) (state_at g ds)) (choices g) x m k)
        (subst (λ (c : Split). Memᴰ c (splits_on (table_of g) (state_at g ds) x)) (sym e) (mem_map (λ v. record { term = x.term; variant = v }) mv)))

    found : Memᴰ d (map on_read (filter (first_kind (state_at g ds)) (table_of g).reads)) ⊎ Memᴰ d (concat_map (splits_on (table_of g) (state_at g ds)) (filter (second_kind (table_of g) (state_at g ds)) (choices g))) → Permitted g ds d
    found (inl m) =
        map_inv on_read (Permitted g ds) (filter (first_kind (state_at g ds)) (table_of g).reads)
        (λ r n. let (a, b) = filter-is (first_kind (state_at g ds)) (table_of g).reads r n in on_field r a b refl) d m
    found (inr m) =
        mem_concat_map_inv (splits_on (table_of g) (state_at g ds)) (Permitted g ds) (filter (second_kind (table_of g) (state_at g ds)) (choices g))
        (λ x n. map_inv (λ v. record { term = x.term; variant = v }) (Permitted g ds) (variants_left (table_of g) (state_at g ds) x)
        (λ v mv. let (a, b) = filter-is (second_kind (table_of g) (state_at g ds)) (choices g) x n in on_choice x v a b mv refl)) d m

-- ---- rules by numbers

picked : (n : ℕ) (ds : List Split) → pick n ds ≡ none → ds ≡ []
picked n [] e = refl
picked n (d ∷ []) e = absurd (none-some d (sym e))
picked zero (d ∷ c ∷ ds) e = absurd (none-some d (sym e))
picked (suc n) (d ∷ c ∷ ds) e = let z : c ∷ ds ≡ [] = picked n (c ∷ ds) e in let y : ◌≡◌ {A = ℕ} 0 1 = cc in absurd (omega arith)

pick_mem : (n : ℕ) (ds : List Split) (d : Split) → pick n ds ≡ some d → Memᴰ d ds
pick_mem n [] d e = absurd (none-some d e)
pick_mem n (c ∷ []) d e = let z : c ≡ d = cc in Memᴰ.head (sym z)
pick_mem zero (c ∷ b ∷ ds) d e = let z : c ≡ d = cc in Memᴰ.head (sym z)
pick_mem (suc n) (c ∷ b ∷ ds) d e = Memᴰ.tail (pick_mem n (b ∷ ds) d e)

-- whatever the numbers
pub numbered-chooses : (n : Guard → List Literal → ℕ) (g : Guard) → Chooses (numbered n) g
numbered-chooses n g ds o e = go (pick (n g ds) (permitted_in g (state_at g ds))) refl
  where
    go : (c : Option Split) → pick (n g ds) (permitted_in g (state_at g ds)) ≡ c → MaySay g ds c
    go (some d) q = (permitted_listed g ds d).1 (pick_mem (n g ds) (permitted_in g (state_at g ds)) d q)
    go none q = λ d p. Memᴰ.not-nil (subst (Memᴰ d) (picked (n g ds) (permitted_in g (state_at g ds)) q) ((permitted_listed g ds d).0 p))
