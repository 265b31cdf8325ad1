-- Cases c and h of document 01, and two more, by other orders of splitting: the nodes of the whole tree, its open leaves, and W.
-- Assumes nothing.
use Rattle.std.specs.Prelude.{◌≡◌, refl, List, [], ◌∷◌, ◌++◌, map, ℕ}
use Rattle.std.specs.Int.Count.{ones, ones_in}
use Rattle.guard.specs.Cases.{X, file_c, file_h}
use Rattle.guard.specs.Closure.{closure_of, consequences, initial, saturate}
use Rattle.guard.specs.File.{file}
use Rattle.guard.specs.Guard.{Guard}
use Rattle.guard.specs.Limits.{base}
use Rattle.guard.specs.Node.{is_closed, split_of}
use Rattle.guard.specs.Number.{Parsed, Parsed.accepted, Parsed.refused}
use Rattle.guard.specs.Search.{W, choices}
use Rattle.guard.specs.Terms.{table_of}
use Rattle.trees.specs.Tree.{Tree, nodes}
use Rattle.trees.specs.Rule.{Rule, by_depth, counted, last_of, open_leaves, tree_by, tree_to}

-- nodes and open leaves of the tree that a rule makes, and W
abbrev size_of : Guard → Tree → List ℕ
size_of g tree = nodes tree ∷ open_leaves g [] tree ∷ W g ∷ []

abbrev pub size_by : Parsed Guard → Rule → List ℕ
size_by (refused q) rule = []
size_by (accepted g rest) rule = size_of g (tree_by rule g)

abbrev pub rules : List Rule
rules = counted ∷ last_of ∷ by_depth ∷ []

-- a list that differs from its third tail
abbrev pub file_tails : List ℕ
file_tails = X ++ (0x04 ∷ 0x00 ∷ 0x01 ∷ 0x03 ∷ 0x00 ∷ 0x01 ∷ 0x01 ∷ 0x03 ∷ 0x01 ∷ 0x01 ∷ 0x01 ∷ 0x03 ∷ 0x02 ∷ 0x01 ∷ 0x01 ∷ 0x01 ∷ 0x01 ∷ 0x00 ∷ 0x03 ∷ [])

-- two optional pairs with equal first parts, which differ: their second parts have two values each
abbrev pub file_pairs : List ℕ
file_pairs = 0x03 ∷ 0x00 ∷ 0x02 ∷ 0x00 ∷ 0x00 ∷ 0x02 ∷ 0x00 ∷ 0x02 ∷ 0x00 ∷ 0x01 ∷ 0x04 ∷ 0x00 ∷ 0x02 ∷ 0x00 ∷ 0x02 ∷ 0x03 ∷ 0x00 ∷ 0x01 ∷ 0x00 ∷ 0x03 ∷ 0x01 ∷ 0x01 ∷ 0x00 ∷ 0x02 ∷ 0x00 ∷ 0x02 ∷ 0x03 ∷ 0x01 ∷ 0x00 ∷ 0x01 ∷ []

-- Whether there is an open leaf never depends on the rule; the number of nodes may.
pub orders_right : map (λ f. map (size_by (file base f)) rules) (file_c ∷ file_h ∷ file_tails ∷ [])
    ≡ ((3 ∷ 1 ∷ 4 ∷ []) ∷ (3 ∷ 1 ∷ 4 ∷ []) ∷ (3 ∷ 1 ∷ 4 ∷ []) ∷ [])
    ∷ ((11 ∷ 0 ∷ 8 ∷ []) ∷ (11 ∷ 0 ∷ 8 ∷ []) ∷ (11 ∷ 0 ∷ 8 ∷ []) ∷ [])
    ∷ ((7 ∷ 3 ∷ 16 ∷ []) ∷ (13 ∷ 3 ∷ 16 ∷ []) ∷ (9 ∷ 3 ∷ 16 ∷ []) ∷ [])
    ∷ []
unfolding file table_of closure_of initial saturate consequences is_closed split_of choices W ones ones_in tree_to tree_by
orders_right = refl

-- 2 × W − 1 nodes, where the search's own tree has 25
pub most-reached : size_by (file base file_pairs) last_of ≡ 31 ∷ 10 ∷ 16 ∷ []
unfolding file table_of closure_of initial saturate consequences is_closed split_of choices W ones ones_in tree_to tree_by
most-reached = refl
