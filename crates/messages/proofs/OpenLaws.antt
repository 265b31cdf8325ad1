-- An open node of an accepted guard: its free classes have types and variants to start with, and there are
-- messages that the leaf says, under which the guard holds. Assumes nothing.
use mathlib.Core.Path.{◌≡◌, ap, sym, subst}
use mathlib.Core.Bool.{true}
use mathlib.Core.List.{List, []}
use Prim.Native.Nat.{ℕ, ◌≤◌, ◌<◌}
use native.Mathlib.Omega.{arith}
use lib.Dec.{eqb, ltb}
use lib.ListN.{length, get_or, get_or-eq_default}
use borrow.Author.Tests.{eqb-true, eqb-false, ltb-false, ltb-true}
use Rattle.laws.proofs.Bools.{and_left, and_right, by_test}
use Rattle.guard.specs.Closure.{State, class_of}
use Rattle.guard.specs.Guard.{Guard, Literal}
use Rattle.guard.specs.Message.{Message}
use Rattle.guard.specs.Terms.{table_of}
use Rattle.guard.specs.Limits.{variant_limit}
use Rattle.guard.specs.Types.{variants_of}
use Rattle.guard.proofs.ClosureState.{Small}
use Rattle.models.proofs.Drawing.{Drawing}
use Rattle.models.proofs.Nodes.{NodeOf, OpenNode, is-node, isnt-node, open_node, root-node}
use Rattle.models.proofs.TypedTable.{table-typed}
use Rattle.tables.specs.Layout.{row_table}
use Rattle.classes.specs.Held.{Held}
use Rattle.arrays.specs.Arrays.{constants_of, fieldless_of, kind_number, shapes_of, sorts_of}
use Rattle.arrays.specs.Slots.{active, kind_at, many_at, part_at}
use Rattle.arrays.proofs.GuardSlots.{shape_slots}
use Rattle.arrays.proofs.TableSlots.{Shaped, Shaped.of_build, Shaped.of_read}
use Rattle.ranks.specs.Ranks.{ranking_of}
use Rattle.ranks.proofs.RankLaws.{ranks_fall}
use Rattle.search.specs.Nodes.{Accepted, NodeLiterals, NodeLiterals.at_is, NodeLiterals.at_isnt, NodeLiterals.at_root, OpenLeaf}
use Rattle.search.proofs.ClosedState.{literals_in_lem}
use Rattle.kinds.specs.Found.{is_shape}
use Rattle.needed.specs.Needed.{Needed}
use Rattle.plans.specs.Plans.{OpenState, highest_rank, is_free, open_of, plan_for}
use Rattle.plans.proofs.ClassLaws.{free-is-free, free_need, marked_need, need_class, need_marked, need_small, type_for_lem}
use Rattle.plans.proofs.PlanLaws.{falls, plans_drawing}
use Rattle.leaf.specs.declared.Leaf.{Leaf}
use Rattle.leaf.specs.Leaf.{open_state}
use Rattle.leaf.specs.Picture.{Pictured, Wanted}
use Rattle.leaf.proofs.Pictured.{pictured, val}
use Rattle.messages.specs.Rows.{LeafOf}

with_variant_lem : (g : Guard) (t v : ℕ) → v < length (variants_of (table_of g).types t) → t < length g.types
unfolding table_of
with_variant_lem g t v h =
    by_test (ltb t (length g.types)) (λ b. ltb-true t _ b)
    (λ b. let z : length (variants_of g.types t) ≡ 0 = ap length (get_or-eq_default g.types [] {n = t} (ltb-false t (length g.types) b)) in absurd (omega arith))

module _ (g : Guard) (ok : Accepted g) where
  node_of : {ls : List Literal} → NodeLiterals g ls → NodeOf g ls
  node_of at_root = root-node g (literals_in_lem g ok at_root)
  node_of (at_is {ls = ls} n i v hi hv) = is-node g i v ls (literals_in_lem g ok (at_is n i v hi hv)) (node_of n)
  node_of (at_isnt {ls = ls} n i v hi hv) = isnt-node g i v ls (literals_in_lem g ok (at_isnt n i v hi hv)) (node_of n)

  -- kinds are numbers of a type and a variant
  pub kinds-small : (k : ℕ) → k < 30 → kind_at (shapes_of g) k ≤ 256
  kinds-small k h =
      by_test (eqb (kind_at (shapes_of g) k) 0) (λ b. omega (arith, eqb-true (kind_at (shapes_of g) k) 0 b))
      (λ b. go ((shape_slots ok.limits ok.supported g ok.well_formed ok.total).found k h (eqb-false _ _ b)))
    where
      -- a type with a variant is one of at most six
      bound : (t v : ℕ) → kind_at (shapes_of g) k ≡ kind_number t v → v < variant_limit → v < length (variants_of (table_of g).types t) → kind_at (shapes_of g) k ≤ 256
      bound t v e hv hw = omega (arith, e, hv, with_variant_lem g t v hw, ok.well_formed.type_count, ok.supported.types)

      go : Shaped (table_of g) (shapes_of g) k → kind_at (shapes_of g) k ≤ 256
      go (of_build b m slot e) = bound b.type b.variant slot.kind slot.variant_fits ((table-typed ok.limits ok.supported g ok.well_formed).builds b m).variant
      go (of_read r m slot e) = bound r.type r.variant slot.kind slot.variant_fits ((table-typed ok.limits ok.supported g ok.well_formed).reads r m).variant

  module _ (s : State) (open' : OpenLeaf g s) (held : Held s.classes) (small : Small s) (leaf : Leaf) (is : LeafOf g s leaf) where
    abbrev ls : List Literal
    ls = open'.literals

    pub nd : NodeOf g open'.literals
    nd = node_of open'.node

    pub o : OpenNode (table_of g) open'.literals
    o = open_node (table_of g) ls open'.not_closed open'.no_split

    abbrev Need : ℕ → Type 0
    Need = Needed (shapes_of g) s (length g.rows)

    abbrev x : OpenState
    x = open_of g s leaf.marks

    pub is_open : open_state g.types leaf ≡ open_of g s leaf.marks
    is_open =
        let a : leaf.state.classes ≡ s.classes = ap (λ (t : State). t.classes) is.state in
        let b : leaf.state.labels ≡ s.labels = ap (λ (t : State). t.labels) is.state in
        let c : leaf.shapes.slots ≡ shapes_of g = is.shapes in
        let d : leaf.sorts.sorts ≡ sorts_of g = is.sorts in
        let e : leaf.sorts.fieldless ≡ fieldless_of g = is.fieldless in
        let f : leaf.constants.sorts ≡ constants_of g = is.constants in
        let h : leaf.constants.values ≡ (row_table g.types g.rows).values = is.values in
        let r : leaf.ranks ≡ (ranking_of (shapes_of g) s).ranks = is.ranks in
        cc

    abbrev pub rank : ℕ → ℕ
    rank c = get_or (ranking_of (shapes_of g) s).ranks c 0

    pub drawing : Drawing ok.limits ok.supported g ok.well_formed ls nd o Need (plan_for x) rank (highest_rank x)
    drawing = plans_drawing ok.limits ok.supported g ok.well_formed ok.total ls nd o s open'.agrees small leaf.marks is.marks held

    -- the message of each class
    unfoldable pub message : ℕ → Message
    message = val ok.limits ok.supported g ok.well_formed ok.total ls nd o s open'.agrees small leaf.marks (ranking_of (shapes_of g) s).ranks

    -- a class that gets a message is needed
    pub wanted_need : (c : ℕ) → Wanted x c → Need c
    wanted_need c (h, m) = marked_need ok.limits ok.supported g ok.well_formed ok.total ls nd o s open'.agrees small leaf.marks is.marks c (omega arith) m

    pub need_wanted : (c : ℕ) → Need c → Wanted x c
    need_wanted c n = (
      need_small ok.limits ok.supported g ok.well_formed ok.total ls nd o s open'.agrees small leaf.marks is.marks c n,
      need_marked ok.limits ok.supported g ok.well_formed ok.total ls nd o s open'.agrees small leaf.marks is.marks c n,
    )

    pub free_needed : (c : ℕ) → c < 78 → is_free x c ≡ true → Need c
    free_needed c h f = free_need ok.limits ok.supported g ok.well_formed ok.total ls nd o s open'.agrees small leaf.marks is.marks c (omega arith) f

    -- ranks fall from the class of a shape to its parts
    shape-falls : (k p : ℕ) → k < 30 → p < many_at (shapes_of g) k → (c : ℕ) → is_shape (shapes_of g) s c k ≡ true → rank (class_of s (part_at (shapes_of g) k p)) < rank c
    unfolding is_shape
    shape-falls k p h l c here =
        subst (λ (d : ℕ). rank (class_of s (part_at (shapes_of g) k p)) < rank d) (eqb-true _ _ (and_right (active (shapes_of g) s k) _ here))
        (ranks_fall (shapes_of g) s (falls ok.limits ok.supported g ok.well_formed ok.total ls nd o s open'.agrees small leaf.marks is.marks held) k p h l (and_left (active (shapes_of g) s k) _ here))

    pub message-pictured : Pictured (open_state g.types leaf) message
    unfolding message
    message-pictured =
        subst (λ (y : OpenState). Pictured y message) (sym is_open)
        (pictured ok.limits ok.supported g ok.well_formed ok.total ls nd o s open'.agrees small leaf.marks (ranking_of (shapes_of g) s).ranks
        wanted_need need_wanted (need_class ok.limits ok.supported g ok.well_formed ok.total ls nd o s open'.agrees small leaf.marks is.marks) shape-falls rank (highest_rank x) drawing
        (λ c h f. free-is-free ok.limits ok.supported g ok.well_formed ok.total ls nd o s open'.agrees small leaf.marks is.marks c f)
        (λ c h f. type_for_lem ok.limits ok.supported g ok.well_formed ok.total ls nd o s open'.agrees small leaf.marks is.marks c (free_needed c h f)))
