-- The search that is counted, which document 01 calls the walk; and W. Assumes nothing.
use Rattle.std.specs.Prelude.{Bool, true, false, List, [], ◌∷◌, ◌++◌, map, ℕ, zero, suc, length}
use Rattle.std.proofs.Math.Option.{Option, none, some}
use Rattle.std.specs.Int.Count.{ones}
use Rattle.laws.specs.Lists.{concat_map, sum, product}
use Rattle.guard.specs.Types.{Types, Variant, variants_of, field_type}
use Rattle.guard.specs.Guard.{Row, Row.variable, Row.constant, Row.built, Row.field, Literal, Literal.is, Literal.isnt, Guard}
use Rattle.guard.specs.Terms.{Term, Table, table_of, from_rows, siblings_of}
use Rattle.guard.specs.Closure.{State, label_of, closure_of}
use Rattle.guard.specs.Node.{is_closed, Kind, Kind.first, Kind.second, Split, kind_of, split_of}

-- what a visited node does: it splits, or it is a leaf, closed or open
pub data Visit : Type 0 where
  split : Kind → Visit
  leaf : Visit

-- how a search ends, with the nodes that it visited, in order
pub data Visits : Type 0 where
  opened : List Visit → Visits
  closed : List Visit → Visits

-- these visits before the others
abbrev pub plus : List Visit → Visits → Visits
plus xs (opened ys) = opened (xs ++ ys)
plus xs (closed ys) = closed (xs ++ ys)

-- "The walk goes depth first, "is" before "isn't", from the root, and stops at the first open node." The second child is
-- visited only where the first ends closed.
abbrev pub children : Kind → Visits → (Unit {0} → Visits) → Visits
children k (opened xs) next = opened (split k ∷ xs)
children k (closed xs) next = plus (split k ∷ xs) (next tt)

-- a node, from whether it is closed, its split and the kind of it, and the search of a child. "The children are "is", then "isn't". With
-- nothing to split, the node is open."
abbrev pub node : Bool → Kind → Option Split → (Literal → Visits) → Visits
node true k d child = closed (leaf ∷ [])
node false k none child = opened (leaf ∷ [])
node false k (some d) child = children k (child (is d.term d.variant)) (λ u. child (isnt d.term d.variant))

-- the search from a node with its literals and decisions, at most so deep
unfoldable pub search_to : ℕ → Table → List Literal → Visits
search_to zero t ls = opened []
search_to (suc k) t ls = let s = closure_of t ls in node (is_closed t ls s) (kind_of t s) (split_of t s) (λ d. search_to k t (d ∷ ls))

-- the total of the label sizes of a node. It falls from a node to its children, so it is depth enough.
abbrev pub label_total : Table → State → ℕ
label_total t s = sum (map (λ x. ones (label_of s x.term)) t.terms)

unfoldable pub search : Table → List Literal → Visits
search t ls = search_to (suc (label_total t (closure_of t ls))) t ls

unfoldable pub search_of : Guard → Visits
search_of g = search (table_of g) g.literals

abbrev pub visited : Visits → List Visit
visited (opened xs) = xs
visited (closed xs) = xs

-- "Each node visited counts 1."
abbrev pub visits : Visits → ℕ
visits w = length (visited w)

-- "A file's node count is the number of nodes that this walk visits with no budget set, so at least 1."
abbrev pub node_count : Guard → ℕ
node_count g = visits (search_of g)

-- ---- splits

abbrev pub is_split : Kind → Visit → ℕ
is_split first (split first) = 1
is_split first (split second) = 0
is_split second (split first) = 0
is_split second (split second) = 1
is_split k leaf = 0

-- document 02, #105: "the counts of first-kind and of second-kind splits made at visited nodes"
abbrev pub splits_in : Kind → List Visit → ℕ
splits_in k xs = sum (map (is_split k) xs)

-- what an answer carries
pub record Counts : Type 0 where
  pub nodes : ℕ
  pub first : ℕ
  pub second : ℕ

abbrev pub counts_of : List Visit → Counts
counts_of xs = record { nodes = length xs; first = splits_in first xs; second = splits_in second xs }

-- ---- W

-- "one factor for each variable of variant type, each field row of variant type, .."
abbrev pub own_choice : Types → ℕ → Row → List Term
own_choice ts i (variable t) = record { term = i; type = t } ∷ []
own_choice ts i (constant t z) = []
own_choice ts i (built t v ps) = []
own_choice ts i (field t a v p) = record { term = i; type = field_type ts t v p } ∷ []

-- ".. and each sister field of variant type. A field read in two rows counts twice, with its sisters."
unfoldable pub choices : Guard → List Term
choices g = from_rows (own_choice g.types) 0 g.rows ++ concat_map (siblings_of g.types) (table_of g).reads

-- a factor: the number of a type's variants; a number type has none, and gives no factor
abbrev pub weight : List Variant → ℕ
weight [] = 1
weight (v ∷ vs) = suc (length vs)

-- "W is a product of variant counts"; "An empty product is 1."
unfoldable pub W : Guard → ℕ
W g = product (map (λ x. weight (variants_of g.types x.type)) (choices g))
