-- A satisfiable guard has an open leaf in every finished tree: a satisfying assignment makes the literals of the root
-- hold; every split keeps it in one child; it ends in a leaf, which is not closed, since closed nodes have no model.
-- Assumes nothing.
use mathlib.Core.List.Memᴰ
use mathlib.Core.List.{List, [], ◌∷◌}
use mathlib.Core.Logic.{inl, inr}
use Prim.Native.Nat.{ℕ}
use Rattle.laws.proofs.Bools.{either}
use Rattle.guard.specs.Guard.{Guard, Literal, Literal.is, Literal.isnt}
use Rattle.guard.specs.Limits.{Limits, Supported}
use Rattle.guard.specs.Meaning.{Assigns, Satisfiable}
use Rattle.guard.specs.Message.{Message}
use Rattle.guard.specs.WellFormed.{WellFormed}
use Rattle.guard.proofs.ClosureBelow.{LiteralsInRange}
use Rattle.guard.proofs.NodeLaws.{cons_in_range}
use Rattle.soundness.proofs.ClosedDead.{AllHoldAt, child_holds, closed-dead, root-holds, split_keeps}
use Rattle.soundness.proofs.TermValues.{term_value}
use Rattle.trees.specs.Tree.{Finished, HasOpenLeaf, Tree, Tree.branch, Tree.leaf, literals_at}
use Rattle.trees.proofs.Choices.{node_in_range, split_in_range}

module _ (limits : Limits) (sup : Supported limits) (g : Guard) (ok : WellFormed limits g) where
  module _ (ρ : ℕ → Message) (assigns : Assigns g ρ) where
    open_below : (tree : Tree) (ds : List Literal) → LiteralsInRange ds → AllHoldAt (term_value g ρ) (literals_at g ds) → Finished g ds tree → HasOpenLeaf g ds tree
    open_below leaf ds r h (inl c) = absurd (closed-dead limits sup g ok ρ assigns (literals_at g ds) (node_in_range limits sup g ok ds r) h c)
    open_below leaf ds r h (inr o) = o
    open_below (branch d yes' no') ds r h f =
        let small = split_in_range limits sup g ok ds r d f.1 in
        either
        (λ k. inl (open_below yes' (is d.term d.variant ∷ ds) (cons_in_range (is d.term d.variant) ds small r) (child_holds (term_value g ρ) (literals_at g ds) (is d.term d.variant) h k) f.2))
        (λ k. inr (open_below no' (isnt d.term d.variant ∷ ds) (cons_in_range (isnt d.term d.variant) ds small r) (child_holds (term_value g ρ) (literals_at g ds) (isnt d.term d.variant) h k) f.3))
        (split_keeps (term_value g ρ) d.term d.variant)

  -- whatever the order of splitting
  pub satisfiable_open : (tree : Tree) → Finished g [] tree → Satisfiable g → HasOpenLeaf g [] tree
  satisfiable_open tree f s =
      open_below s.assignment s.holds.assigns tree [] (λ l m. absurd (Memᴰ.not-nil m)) (root-holds limits sup g ok s.assignment s.holds) f
