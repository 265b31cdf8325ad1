-- Search trees of a guard in which each node splits as it likes, within what is permitted. Assumes nothing.
use Rattle.std.specs.Prelude.{◌≡◌, Bool, true, false, ◌⊎◌, ℕ, ◌+◌}
use mathlib.Core.List.{List, [], ◌∷◌, ◌++◌, Memᴰ}
use Rattle.guard.specs.Guard.{Literal, Literal.is, Literal.isnt, Guard}
use Rattle.guard.specs.Terms.{Term, Read, table_of}
use Rattle.guard.specs.Closure.{State, closure_of}
use Rattle.guard.specs.Node.{is_closed, Split, first_kind, kind_of, second_kind, variants_left, on_read}
use Rattle.guard.specs.Search.{Visit, Visits, Visits.opened, Visits.closed, children, choices}

pub data Tree : Type 0 where
  leaf : Tree
  -- the decision, the tree under "is", the tree under "isn't"
  branch : Split → Tree → Tree → Tree

-- A node is named by its decisions, the latest first. Its state is the closure of the guard's literals and these.
abbrev pub literals_at : Guard → List Literal → List Literal
literals_at g ds = ds ++ g.literals

abbrev pub state_at : Guard → List Literal → State
state_at g ds = closure_of (table_of g) (literals_at g ds)

abbrev pub closed_at : Guard → List Literal → Bool
closed_at g ds = is_closed (table_of g) (literals_at g ds) (state_at g ds)

-- "A permitted first-kind split is any field row that qualifies; a second-kind split is any variable, field row or sister
-- field that qualifies, with any of its messages left." (document 02, #108)
pub data Permitted (g : Guard) (ds : List Literal) (d : Split) : Type 0 where
  on_field : (r : Read) → Memᴰ r (table_of g).reads → first_kind (state_at g ds) r ≡ true → d ≡ on_read r → Permitted g ds d
  on_choice : (x : Term) (v : ℕ) → Memᴰ x (choices g) → second_kind (table_of g) (state_at g ds) x ≡ true → Memᴰ v (variants_left (table_of g) (state_at g ds) x)
      → d ≡ record { term = x.term; variant = v } → Permitted g ds d

-- a node that ends a branch: closed, or nothing is left to split
abbrev pub OpenAt : Guard → List Literal → Type 0
OpenAt g ds = (closed_at g ds ≡ false) × ((d : Split) → ¬ Permitted g ds d)

-- the tree is finished below the decisions: each inner node splits as permitted, each leaf is closed or open
abbrev pub Finished : Guard → List Literal → Tree → Type 0
Finished g ds leaf = (closed_at g ds ≡ true) ⊎ OpenAt g ds
Finished g ds (branch d yes' no') =
    (closed_at g ds ≡ false) × Permitted g ds d × Finished g (is d.term d.variant ∷ ds) yes' × Finished g (isnt d.term d.variant ∷ ds) no'

-- some leaf is open
abbrev pub HasOpenLeaf : Guard → List Literal → Tree → Type 0
HasOpenLeaf g ds leaf = OpenAt g ds
HasOpenLeaf g ds (branch d yes' no') = HasOpenLeaf g (is d.term d.variant ∷ ds) yes' ⊎ HasOpenLeaf g (isnt d.term d.variant ∷ ds) no'

abbrev pub nodes : Tree → ℕ
nodes leaf = 1
nodes (branch d yes' no') = 1 + (nodes yes' + nodes no')

-- the depth-first visit, "is" first, up to the first open leaf; a split is taken for one of the kind that the defined search makes
abbrev pub leaf_visit : Bool → Visits
leaf_visit true = closed (Visit.leaf ∷ [])
leaf_visit false = opened (Visit.leaf ∷ [])

abbrev pub visit : Guard → List Literal → Tree → Visits
visit g ds leaf = leaf_visit (closed_at g ds)
visit g ds (branch d yes' no') = children (kind_of (table_of g) (state_at g ds)) (visit g (is d.term d.variant ∷ ds) yes') (λ u. visit g (isnt d.term d.variant ∷ ds) no')
