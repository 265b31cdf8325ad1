-- Rules that choose a split at each node, and the trees that they make. Assumes nothing.
use Rattle.std.specs.Prelude.{◌≡◌, Bool, true, false, List, [], ◌∷◌, ◌++◌, map, ◌⊎◌, ℕ, zero, suc, ◌+◌, length}
use Rattle.std.proofs.Math.Option.{Option, none, some}
use Rattle.laws.specs.Lists.{concat_map, filter}
use Rattle.guard.specs.Guard.{Literal, Literal.is, Literal.isnt, Guard}
use Rattle.guard.specs.Terms.{Term, Table, table_of}
use Rattle.guard.specs.Closure.{State}
use Rattle.guard.specs.Node.{Split, first_kind, second_kind, variants_left, on_read, split_of}
use Rattle.guard.specs.Search.{choices, label_total}
use Rattle.trees.specs.Tree.{Tree, Tree.leaf, Tree.branch, state_at, closed_at, Permitted}

-- "Whichever permitted split is chosen at each node, by any rule" (document 02, #108). A rule sees the guard and all decisions
-- above the node, the latest first, and says on what to split there: nothing, if there is nothing to split.
abbrev pub Rule : Type 0
Rule = Guard → List Literal → Option Split

-- a node of a rule's tree, from whether it is closed, what the rule says there, and the tree of a child
abbrev pub grow : Bool → Option Split → (Literal → Tree) → Tree
grow true d child = leaf
grow false none child = leaf
grow false (some d) child = branch d (child (is d.term d.variant)) (child (isnt d.term d.variant))

-- at most so deep
unfoldable pub tree_to : Rule → ℕ → Guard → List Literal → Tree
tree_to rule zero g ds = leaf
tree_to rule (suc k) g ds = grow (closed_at g ds) (rule g ds) (λ l. tree_to rule k g (l ∷ ds))

-- The tree that a rule makes. The total of the label sizes falls at every permitted split, so it is depth enough.
unfoldable pub tree_by : Rule → Guard → Tree
tree_by rule g = tree_to rule (suc (label_total (table_of g) (state_at g []))) g []

-- the decisions lead to a node of this tree: each is one of the two on the split that the rule chose at the node before
abbrev pub OnTree : Rule → Guard → List Literal → Type 0
OnTree rule g [] = Unit {0}
OnTree rule g (l ∷ ds) =
    OnTree rule g ds × (closed_at g ds ≡ false) × (d : Split) × (rule g ds ≡ some d) × ((l ≡ is d.term d.variant) ⊎ (l ≡ isnt d.term d.variant))

-- what a rule may say at a node that isn't closed: a permitted split, or nothing where none is permitted
abbrev pub MaySay : Guard → List Literal → Option Split → Type 0
MaySay g ds (some d) = Permitted g ds d
MaySay g ds none = (d : Split) → ¬ Permitted g ds d

-- the rule chooses a permitted split at each node of its tree that is neither closed nor open
abbrev pub Chooses : Rule → Guard → Type 0
Chooses rule g = (ds : List Literal) → OnTree rule g ds → closed_at g ds ≡ false → MaySay g ds (rule g ds)

-- the leaves that aren't closed: in a finished tree the open ones
abbrev pub open_leaf : Bool → ℕ
open_leaf true = 0
open_leaf false = 1

abbrev pub open_leaves : Guard → List Literal → Tree → ℕ
open_leaves g ds leaf = open_leaf (closed_at g ds)
open_leaves g ds (branch d yes' no') = open_leaves g (is d.term d.variant ∷ ds) yes' + open_leaves g (isnt d.term d.variant ∷ ds) no'

-- ---- rules

-- the counted search's own: "First kind: the lowest field row .. Otherwise second kind: the lowest term .. on its lowest variant."
abbrev pub counted : Rule
counted g ds = split_of (table_of g) (state_at g ds)

abbrev pub counted_tree : Guard → Tree
counted_tree g = tree_by counted g

-- all permitted splits of a node: field rows that qualify, then the choices that qualify, each with the variants left to it
abbrev pub splits_on : Table → State → Term → List Split
splits_on t s x = map (λ v. record { term = x.term; variant = v }) (variants_left t s x)

abbrev pub permitted_in : Guard → State → List Split
permitted_in g s = map on_read (filter (first_kind s) (table_of g).reads) ++ concat_map (splits_on (table_of g) s) (filter (second_kind (table_of g) s) (choices g))

-- the one with this number, or the last
abbrev pub pick : ℕ → List Split → Option Split
pick n [] = none
pick n (d ∷ []) = some d
pick zero (d ∷ e ∷ ds) = some d
pick (suc n) (d ∷ e ∷ ds) = pick n (e ∷ ds)

-- Any numbers make a rule: at each node the permitted split with that number is chosen, or the last.
abbrev pub numbered : (Guard → List Literal → ℕ) → Rule
numbered n g ds = pick (n g ds) (permitted_in g (state_at g ds))

-- the last permitted split: of the second kind wherever there is one, on the highest variant of the last choice
abbrev pub last_of : Rule
last_of = numbered (λ g ds. length (permitted_in g (state_at g ds)))

-- the first at the root, the second below it, and so on
abbrev pub by_depth : Rule
by_depth = numbered (λ g ds. length ds)
