-- An open leaf of a finished tree has messages that make the guard hold. What is left there is neither closed nor to be
-- split, so each class is built, one fieldless variant, a constant, or free; messages for all classes follow (crate
-- `models`). Assumes nothing.
use mathlib.Core.Path.{refl}
use mathlib.Core.List.Memᴰ
use mathlib.Core.List.{List, [], ◌∷◌}
use mathlib.Core.Logic.{inl, inr}
use Rattle.laws.proofs.Bools.{by_test}
use Rattle.guard.specs.Guard.{Guard, Literal, Literal.is, Literal.isnt}
use Rattle.guard.specs.Limits.{Limits, Supported}
use Rattle.guard.specs.Node.{first_kind, on_read, on_term, second_kind}
use Rattle.guard.specs.Terms.{table_of}
use Rattle.guard.specs.WellFormed.{WellFormed}
use Rattle.guard.proofs.ClosureBelow.{LiteralsInRange}
use Rattle.guard.proofs.NodeLaws.{cons_in_range, lowest-left}
use Rattle.guard.proofs.TableLaws.{literals_in_range_lem}
use Rattle.models.proofs.Nodes.{NodeOf, OpenNode, is-node, isnt-node, root-node}
use Rattle.models.proofs.OpenModel.{FewRows, open_few_rows, row_bound}
use Rattle.trees.specs.Tree.{Finished, HasOpenLeaf, OpenAt, Permitted.on_choice, Permitted.on_field, Tree, Tree.branch, Tree.leaf, literals_at, state_at}
use Rattle.trees.proofs.Choices.{node_in_range, range, second_choice, split_in_range}

module _ (limits : Limits) (sup : Supported limits) (g : Guard) (ok : WellFormed limits g) where
  -- a leaf that is open, as the models need it
  open_here : (ds : List Literal) → LiteralsInRange ds → OpenAt g ds → OpenNode (table_of g) (literals_at g ds)
  open_here ds r (nc, np) =
      record {
        not_closed = nc;
        no_read = λ q m. by_test (first_kind (state_at g ds) q) (λ e. absurd (np (on_read q) (on_field q m e refl))) (λ e. e);
        no_term = λ x m. by_test (second_kind (table_of g) (state_at g ds) x)
            (λ e. absurd (np (on_term (table_of g) (state_at g ds) x) (on_choice x (on_term (table_of g) (state_at g ds) x).variant (second_choice limits sup g ok ds r x m e) e (lowest-left (table_of g) (range limits sup g ok) (literals_at g ds) x e) refl))) (λ e. e);
      }

  below : (tree : Tree) (ds : List Literal) → LiteralsInRange ds → NodeOf g (literals_at g ds) → Finished g ds tree → HasOpenLeaf g ds tree → FewRows g (row_bound limits)
  below leaf ds r nd f o = open_few_rows limits sup g ok (literals_at g ds) nd (open_here ds r o)
  below (branch d yes' no') ds r nd f (inl o) =
      let small = split_in_range limits sup g ok ds r d f.1 in
      let rd : LiteralsInRange (is d.term d.variant ∷ ds) = cons_in_range (is d.term d.variant) ds small r in
      below yes' (is d.term d.variant ∷ ds) rd (is-node g d.term d.variant (literals_at g ds) (node_in_range limits sup g ok (is d.term d.variant ∷ ds) rd) nd) f.2 o
  below (branch d yes' no') ds r nd f (inr o) =
      let small = split_in_range limits sup g ok ds r d f.1 in
      let rd : LiteralsInRange (isnt d.term d.variant ∷ ds) = cons_in_range (isnt d.term d.variant) ds small r in
      below no' (isnt d.term d.variant ∷ ds) rd (isnt-node g d.term d.variant (literals_at g ds) (node_in_range limits sup g ok (isnt d.term d.variant ∷ ds) rd) nd) f.3 o

  -- whatever the order of splitting: messages that make the guard hold, in few rows
  pub open_messages : (tree : Tree) → Finished g [] tree → HasOpenLeaf g [] tree → FewRows g (row_bound limits)
  open_messages tree f o = below tree [] (λ l m. absurd (Memᴰ.not-nil m)) (root-node g (literals_in_range_lem limits sup g ok)) f o
