-- The search: its depth always suffices, it visits at least one node, and what a node's search is from its children's.
-- Assumes nothing.
use mathlib.Core.Path.{◌≡◌, refl, ap, sym, subst, ◌∙◌, ap₂}
use mathlib.Core.Bool.{Bool, true, false}
use mathlib.Core.List.{List, [], ◌∷◌, ◌++◌}
use Prim.Native.Nat.{ℕ, zero, suc, ◌+◌, ◌*◌, ◌≤◌, ◌<◌, ◌-◌}
use native.Mathlib.Omega.{arith}
use mathlib.Core.Option.{Option, none, some}
use native.Mathlib.Nat.{zero-add}
use lib.ListN.{length, length-append}
use Rattle.guard.specs.Closure.{closure_of}
use Rattle.guard.specs.Guard.{Guard, Literal, Literal.is, Literal.isnt}
use Rattle.guard.specs.Node.{Kind, Kind.first, Kind.second, Split, is_closed, kind_of, split_of}
use Rattle.guard.specs.Search.{Visit, Visit.leaf, Visit.split, Visits, Visits.closed, Visits.opened, children, is_split, label_total, node, node_count, plus, search, search_of, search_to, splits_in, visited, visits}
use Rattle.guard.specs.Terms.{Table, table_of}
use Rattle.guard.proofs.ClosureBelow.{InRange, LiteralsInRange}
use Rattle.guard.proofs.NodeLaws.{is-falls, is_in_range, isnt-falls, isnt_in_range, split-is}

-- two ways to search the children that agree where there is a split give the same
node-same : (b : Bool) (k : Kind) (d : Option Split) (c c' : Literal → Visits)
    → ((s : Split) → d ≡ some s → (c (is s.term s.variant) ≡ c' (is s.term s.variant)) × (c (isnt s.term s.variant) ≡ c' (isnt s.term s.variant)))
    → node b k d c ≡ node b k d c'
node-same true k d c c' h = refl
node-same false k none c c' h = refl
node-same false k (some s) c c' h = ap₂ (λ (x y : Visits). children k x (λ u. y)) (h s refl).0 (h s refl).1

module _ (t : Table) (range : InRange t) where
  one_deeper : (k : ℕ) (ls : List Literal) → LiteralsInRange ls → label_total t (closure_of t ls) < k → search_to k t ls ≡ search_to (suc k) t ls
  unfolding search_to
  one_deeper zero ls r h = absurd (omega arith)
  one_deeper (suc k) ls r h =
      node-same (is_closed t ls (closure_of t ls)) (kind_of t (closure_of t ls)) (split_of t (closure_of t ls)) (λ d. search_to k t (d ∷ ls)) (λ d. search_to (suc k) t (d ∷ ls))
      (λ d e. let sp = split-is t range ls d e in (
        one_deeper k (is d.term d.variant ∷ ls) (is_in_range t range ls r d sp) (omega (arith, is-falls t range ls r d sp)),
        one_deeper k (isnt d.term d.variant ∷ ls) (isnt_in_range t range ls r d sp) (omega (arith, isnt-falls t range ls r d sp)),
      ))

  much_deeper : (j k : ℕ) (ls : List Literal) → LiteralsInRange ls → label_total t (closure_of t ls) < k → search_to k t ls ≡ search_to (j + k) t ls
  much_deeper zero k ls r h = ap (λ (n : ℕ). search_to n t ls) (sym (zero-add k))
  much_deeper (suc j) k ls r h =
      let e : suc (j + k) ≡ suc j + k = omega arith in
      much_deeper j k ls r h ∙ one_deeper (j + k) ls r (omega arith) ∙ ap (λ (n : ℕ). search_to n t ls) e

  -- the depth given to the search suffices: any greater depth gives the same
  pub depth_suffices : (k : ℕ) (ls : List Literal) → LiteralsInRange ls → label_total t (closure_of t ls) < k → search_to k t ls ≡ search t ls
  unfolding search
  depth_suffices k ls r h =
      let m : ℕ = suc (label_total t (closure_of t ls)) in
      let e : (k - suc (label_total t (closure_of t ls))) + suc (label_total t (closure_of t ls)) ≡ k = omega arith in
      sym (much_deeper (k - suc (label_total t (closure_of t ls))) (suc (label_total t (closure_of t ls))) ls r (omega arith) ∙ ap (λ (n : ℕ). search_to n t ls) e)

  -- a node's search, from its children's
  pub search_step : (ls : List Literal) → LiteralsInRange ls → search t ls ≡ node (is_closed t ls (closure_of t ls)) (kind_of t (closure_of t ls)) (split_of t (closure_of t ls)) (λ d. search t (d ∷ ls))
  unfolding search search_to
  search_step ls r =
      node-same (is_closed t ls (closure_of t ls)) (kind_of t (closure_of t ls)) (split_of t (closure_of t ls)) (λ d. search_to (label_total t (closure_of t ls)) t (d ∷ ls)) (λ d. search t (d ∷ ls))
      (λ d e. let sp = split-is t range ls d e in (
        depth_suffices (label_total t (closure_of t ls)) (is d.term d.variant ∷ ls) (is_in_range t range ls r d sp) (is-falls t range ls r d sp),
        depth_suffices (label_total t (closure_of t ls)) (isnt d.term d.variant ∷ ls) (isnt_in_range t range ls r d sp) (isnt-falls t range ls r d sp),
      ))

-- ---- counts

pub plus-visited : (xs : List Visit) (w : Visits) → visited (plus xs w) ≡ xs ++ visited w
plus-visited xs (opened ys) = refl
plus-visited xs (closed ys) = refl

pub plus-visits : (xs : List Visit) (w : Visits) → visits (plus xs w) ≡ length xs + visits w
plus-visits xs w = ap length (plus-visited xs w) ∙ length-append xs (visited w)

children_pos : (k : Kind) (w : Visits) (next : Unit {0} → Visits) → 0 < visits (children k w next)
children_pos k (opened xs) next = omega arith
children_pos k (closed xs) next = omega (arith, plus-visits (split k ∷ xs) (next tt))

node_pos : (b : Bool) (k : Kind) (d : Option Split) (child : Literal → Visits) → 0 < visits (node b k d child)
node_pos true k d child = omega arith
node_pos false k none child = omega arith
node_pos false k (some d) child = children_pos k (child (is d.term d.variant)) (λ u. child (isnt d.term d.variant))

pub search_pos : (t : Table) (ls : List Literal) → 0 < visits (search t ls)
unfolding search search_to
search_pos t ls = node_pos (is_closed t ls (closure_of t ls)) (kind_of t (closure_of t ls)) (split_of t (closure_of t ls)) (λ d. search_to (label_total t (closure_of t ls)) t (d ∷ ls))

-- "A file's node count is .. at least 1."
pub node-count_pos : (g : Guard) → 0 < node_count g
unfolding search_of
node-count_pos g = search_pos (table_of g) g.literals

-- ---- splits

pub splits_append : (k : Kind) (xs ys : List Visit) → splits_in k (xs ++ ys) ≡ splits_in k xs + splits_in k ys
splits_append k [] ys = omega arith
splits_append k (x ∷ xs) ys = omega (arith, splits_append k xs ys)

-- both kinds together
abbrev all_splits : List Visit → ℕ
all_splits xs = splits_in first xs + splits_in second xs

all_append : (xs ys : List Visit) → all_splits (xs ++ ys) ≡ all_splits xs + all_splits ys
all_append xs ys = omega (arith, splits_append first xs ys, splits_append second xs ys)

-- a closed search has a leaf more than it has splits, so that its nodes are twice its splits and one
Paired : Visits → Type 0
Paired (opened xs) = Unit {0}
Paired (closed xs) = length xs ≡ 2 * all_splits xs + 1

one_split : (k : Kind) (xs : List Visit) → all_splits (split k ∷ xs) ≡ suc (all_splits xs)
one_split first xs = omega arith
one_split second xs = omega arith

children_paired : (k : Kind) (w w' : Visits) → Paired w → Paired w' → Paired (children k w (λ u. w'))
unfolding Paired
children_paired k (opened xs) w' p q = tt
children_paired k (closed xs) (opened ys) p q = tt
children_paired k (closed xs) (closed ys) p q = omega (arith, one_split k xs, all_append (split k ∷ xs) ys, length-append xs ys)

node_paired : (b : Bool) (k : Kind) (d : Option Split) (child : Literal → Visits) → ((l : Literal) → Paired (child l)) → Paired (node b k d child)
unfolding Paired
node_paired true k d child h = refl
node_paired false k none child h = tt
node_paired false k (some d) child h = children_paired k (child (is d.term d.variant)) (child (isnt d.term d.variant)) (h (is d.term d.variant)) (h (isnt d.term d.variant))

search_paired : (k : ℕ) (t : Table) (ls : List Literal) → Paired (search_to k t ls)
unfolding search_to Paired
search_paired zero t ls = tt
search_paired (suc k) t ls = node_paired (is_closed t ls (closure_of t ls)) (kind_of t (closure_of t ls)) (split_of t (closure_of t ls)) (λ d. search_to k t (d ∷ ls)) (λ d. search_paired k t (d ∷ ls))

-- document 02, #105: "For UNSAT, nodes are twice the two counts together and one more."
pub closed_twice : (g : Guard) (xs : List Visit) → search_of g ≡ closed xs → length xs ≡ 2 * (splits_in first xs + splits_in second xs) + 1
unfolding search_of search Paired
closed_twice g xs e = subst Paired e (search_paired (suc (label_total (table_of g) (closure_of (table_of g) g.literals))) (table_of g) g.literals)

-- no more splits than nodes
one-visit : (x : Visit) → is_split first x + is_split second x ≤ 1
one-visit (split first) = omega arith
one-visit (split second) = omega arith
one-visit leaf = omega arith

pub splits_few : (xs : List Visit) → splits_in first xs + splits_in second xs ≤ length xs
splits_few [] = omega arith
splits_few (x ∷ xs) = omega (arith, one-visit x, splits_few xs)
