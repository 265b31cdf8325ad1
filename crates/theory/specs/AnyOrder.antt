-- What request #108 says of a finished tree. Assumes nothing.
use Rattle.std.specs.Prelude.{[], ◌↔◌, ◌*◌, ◌-◌, ◌≤◌}
use Rattle.guard.specs.Guard.{Guard}
use Rattle.guard.specs.Meaning.{Satisfiable}
use Rattle.guard.specs.Search.{W}
use Rattle.trees.specs.Tree.{Finished, HasOpenLeaf, Tree, nodes}

-- "the finished tree has an open leaf exactly when the guard can hold, and has at most 2 × W − 1 nodes" (document 02, #108)
pub record Settles (g : Guard) (tree : Tree) : Type 0 where
  pub finished : Finished g [] tree
  pub open_leaf : HasOpenLeaf g [] tree ↔ Satisfiable g
  pub few_nodes : nodes tree ≤ 2 * W g - 1
