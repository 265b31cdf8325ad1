-- A finished tree has at most 2 × W − 1 nodes. For a node let P be the product, over the choices, of the number of
-- variants that the decisions on that very term leave. A split on a variant with another one beside it cuts P into two
-- positive parts that together are at most P; a leaf has P at least 1; and 1 + (2P₁ − 1) + (2P₂ − 1) = 2(P₁ + P₂) − 1.
-- At the root P is W. Assumes nothing.
use mathlib.Core.Path.{◌≡◌, refl, ap, sym, ◌∙◌, subst}
use mathlib.Core.Bool.{Bool, true, false, not, false≢true, ◌&&◌, ◌||◌}
use mathlib.Core.List.Memᴰ
use mathlib.Core.List.{List, [], ◌∷◌, Memᴰ, map}
use Prim.Native.Nat.{ℕ, suc, ◌+◌, ◌*◌, ◌≤◌, ◌<◌, ◌-◌}
use native.Mathlib.Omega.{arith}
use lib.Dec.{eqb}
use lib.ListN.{length}
use borrow.Author.Tests.{eqb-true, eqb-false, eq-eqb, ne_eqb}
use Rattle.laws.specs.Lists.{all, filter, from, product}
use Rattle.laws.proofs.Bools.{and_both, and_left, and_right, by_test, or_left, or_right}
use Rattle.laws.proofs.Lists.{all_true, filter-is, filter_mem, from_bounds, from-length, map_cong, mem_from}
use Rattle.laws.proofs.Members.{filter_le}
use Rattle.laws.proofs.Products.{filter-split, product_pos, product-split}
use Rattle.guard.specs.Closure.{LacksAt, SameAt}
use Rattle.guard.specs.Guard.{Guard, Literal, Literal.equal, Literal.is, Literal.isnt, Literal.unequal}
use Rattle.guard.specs.Limits.{Limits, Supported, variant_limit}
use Rattle.guard.specs.Node.{Split}
use Rattle.guard.specs.Rules.{ObeysLiterals}
use Rattle.guard.specs.Search.{W, choices, weight}
use Rattle.guard.specs.Terms.{Term, term_count}
use Rattle.guard.specs.Types.{Variant, variants_of}
use Rattle.guard.specs.WellFormed.{WellFormed}
use Rattle.guard.proofs.ClosureBelow.{LiteralsInRange}
use Rattle.guard.proofs.NodeLaws.{cons_in_range}
use Rattle.trees.specs.Tree.{Finished, Tree, Tree.branch, Tree.leaf, literals_at, nodes, state_at}
use Rattle.trees.proofs.Choices.{OnChoice, choice_term, label_variant, node_least, permitted_on_choice, range}

-- the decision leaves the variant to the term
abbrev permits : ℕ → ℕ → Literal → Bool
permits i v (equal j k) = true
permits i v (unequal j k) = true
permits i v (is j w) = not (eqb i j) || eqb v w
permits i v (isnt j w) = not (eqb i j && eqb v w)

abbrev leaves : List Literal → ℕ → ℕ → Bool
leaves ds i v = all (permits i v) ds

-- the number of variants that the decisions leave to a term; 1 for a term of number type
abbrev left : List Literal → List Variant → ℕ → ℕ
left ds [] i = 1
left ds (v ∷ vs) i = length (filter (leaves ds i) (from (suc (length vs)) 0))

left_to : Guard → List Literal → Term → ℕ
left_to g ds x = left ds (variants_of g.types x.type) x.term

P : Guard → List Literal → ℕ
P g ds = product (map (left_to g ds) (choices g))

-- ---- at the root

filter_true : (xs : List ℕ) → length (filter (λ v. true) xs) ≡ length xs
filter_true [] = refl
filter_true (x ∷ xs) = ap suc (filter_true xs)

root-left : (vs : List Variant) (i : ℕ) → left [] vs i ≡ weight vs
root-left [] i = refl
root-left (v ∷ vs) i = filter_true (from (suc (length vs)) 0) ∙ from-length (suc (length vs)) 0

root_p : (g : Guard) → P g [] ≡ W g
unfolding P W left_to
root_p g = ap product (map_cong (left_to g []) (λ x. weight (variants_of g.types x.type)) (choices g) (λ x m. root-left (variants_of g.types x.type) x.term))

-- ---- one variant left is enough

left_pos : (ds : List Literal) (vs : List Variant) (i u : ℕ) → u < length vs → leaves ds i u ≡ true → 1 ≤ left ds vs i
left_pos ds [] i u h e = omega arith
left_pos ds (v ∷ vs) i u h e = go (filter (leaves ds i) (from (suc (length vs)) 0)) (filter_mem (leaves ds i) (from (suc (length vs)) 0) u (mem_from (suc (length vs)) 0 u (omega arith) (omega arith)) e)
  where
    go : (xs : List ℕ) → Memᴰ u xs → 1 ≤ length xs
    go [] m = elim m [ ]
    go (x ∷ xs) m = omega arith

left_inv : (ds : List Literal) (v : Variant) (vs : List Variant) (i : ℕ) → 1 ≤ left ds (v ∷ vs) i → (u : ℕ) × (u < length (v ∷ vs)) × (leaves ds i u ≡ true)
left_inv ds v vs i h = go (filter (leaves ds i) (from (suc (length vs)) 0)) refl h
  where
    go : (xs : List ℕ) → filter (leaves ds i) (from (suc (length vs)) 0) ≡ xs → 1 ≤ length xs → (u : ℕ) × (u < length (v ∷ vs)) × (leaves ds i u ≡ true)
    go [] e l = absurd (omega arith)
    go (x ∷ xs) e l =
        let (a, b) = filter-is (leaves ds i) (from (suc (length vs)) 0) x (subst (Memᴰ x) (sym e) (Memᴰ.head refl)) in
        (x, omega (arith, (from_bounds (suc (length vs)) 0 x a).1), b)

-- a further decision leaves less
left_fewer : (l : Literal) (ds : List Literal) (vs : List Variant) (i : ℕ) → left (l ∷ ds) vs i ≤ left ds vs i
left_fewer l ds [] i = omega arith
left_fewer l ds (v ∷ vs) i = filter_le (leaves (l ∷ ds) i) (leaves ds i) (from (suc (length vs)) 0) (λ u m e. and_right (permits i u l) (leaves ds i u) e)

-- "is" leaves that variant alone and "isn't" leaves the others, so together no more than before
left_split : (ds : List Literal) (vs : List Variant) (i v : ℕ) → v < length vs → left (is i v ∷ ds) vs i + left (isnt i v ∷ ds) vs i ≤ left ds vs i
left_split ds [] i v h = absurd (omega arith)
left_split ds (x ∷ vs) i v h =
    filter-split (leaves ds i) (leaves (is i v ∷ ds) i) (leaves (isnt i v ∷ ds) i) (from (suc (length vs)) 0) (λ u e. and_right (permits i u (is i v)) (leaves ds i u) e)
    (λ u e. and_right (permits i u (isnt i v)) (leaves ds i u) e)
    (λ u e f. apart u (and_left (permits i u (is i v)) (leaves ds i u) e) (and_left (permits i u (isnt i v)) (leaves ds i u) f))
  where
    itself : eqb i i ≡ true
    itself = eq-eqb i i refl

    apart : (u : ℕ) → permits i u (is i v) ≡ true → permits i u (isnt i v) ≡ true → ⊥
    apart u e f = go (eqb i i) (eqb u v) itself e f
      where
        go : (a b : Bool) → a ≡ true → (not a || b) ≡ true → not (a && b) ≡ true → ⊥
        go true true q e f = false≢true f
        go true false q e f = false≢true e
        go false b q e f = false≢true q

module _ (limits : Limits) (sup : Supported limits) (g : Guard) (ok : WellFormed limits g) where
  -- what every node of a tree has: its decisions are in range and leave a variant to each choice
  record Node (ds : List Literal) : Type 0 where
    in_range : LiteralsInRange ds
    some_left : (x : Term) → Memᴰ x (choices g) → 1 ≤ left_to g ds x

  root : Node []
  unfolding left_to
  root =
      record {
        in_range = λ l m. absurd (Memᴰ.not-nil m);
        some_left = λ x m. go (variants_of g.types x.type) x.term;
      }
    where
      go : (vs : List Variant) (i : ℕ) → 1 ≤ left [] vs i
      go [] i = omega arith
      go (v ∷ vs) i = omega (arith, root-left (v ∷ vs) i)

  module _ (ds : List Literal) (nd : Node ds) where
    -- a variant that a label holds, the decisions leave
    held-left : (i v : ℕ) → i < term_count → v < variant_limit → ¬ LacksAt (state_at g ds) i v → leaves ds i v ≡ true
    held-left i v hi hv h = all_true (permits i v) ds (λ l m. go l m)
      where
        lits : ObeysLiterals (literals_at g ds) (SameAt (state_at g ds)) (LacksAt (state_at g ds))
        lits = (node_least limits sup g ok ds nd.in_range).literals

        go : (l : Literal) → Memᴰ l ds → permits i v l ≡ true
        go (equal j k) m = refl
        go (unequal j k) m = refl
        go (is j w) m = pick (eqb i j) (eqb v w) refl refl
          where
            pick : (a b : Bool) → eqb i j ≡ a → eqb v w ≡ b → (not a || b) ≡ true
            pick true true p q = refl
            pick true false p q =
                absurd (h (subst (λ (k : ℕ). LacksAt (state_at g ds) k v) (sym (eqb-true i j p)) (lits.is_literal j w (Memᴰ.append_left g.literals m) v hv (eqb-false v w q))))
            pick false b p q = refl
        go (isnt j w) m = pick (eqb i j) (eqb v w) refl refl
          where
            pick : (a b : Bool) → eqb i j ≡ a → eqb v w ≡ b → not (a && b) ≡ true
            pick true true p q =
                absurd (h (subst (λ (k : ℕ). LacksAt (state_at g ds) k v) (sym (eqb-true i j p))
                (subst (λ (u : ℕ). LacksAt (state_at g ds) j u) (sym (eqb-true v w q)) (lits.isnt_literal j w (Memᴰ.append_left g.literals m)))))
            pick true false p q = refl
            pick false b p q = refl

    module _ (d : Split) (oc : OnChoice limits sup g ok ds d) where
      small-term : d.term < term_count
      small-term = ((range limits sup g ok).terms (record { term = d.term; type = oc.type }) oc.in_table).0

      small : (v : ℕ) → v < length (variants_of g.types oc.type) → v < variant_limit
      small v h = omega (arith, ok.variant_counts oc.type)

      -- what a child leaves: to other terms what there was, to the split term the variant that it keeps
      child_left : (l : Literal) (u : ℕ) → ((i : ℕ) → ¬ (i ≡ d.term) → (w : ℕ) → permits i w l ≡ true) → permits d.term u l ≡ true → u < variant_limit → ¬ LacksAt (state_at g ds) d.term u
          → (x : Term) → Memᴰ x (choices g) → 1 ≤ left_to g (l ∷ ds) x
      unfolding left_to
      child_left l u others own hu lu x m = by_test (eqb x.term d.term) (λ e. same (eqb-true x.term d.term e)) (λ e. other (eqb-false x.term d.term e) (variants_of g.types x.type) (nd.some_left x m))
        where
          same : x.term ≡ d.term → 1 ≤ left (l ∷ ds) (variants_of g.types x.type) x.term
          same q =
              left_pos (l ∷ ds) (variants_of g.types x.type) x.term u
              (label_variant limits sup g ok ds nd.in_range x u (choice_term limits sup g ok x m) (subst (λ (i : ℕ). ¬ LacksAt (state_at g ds) i u) (sym q) lu))
              (subst (λ (i : ℕ). leaves (l ∷ ds) i u ≡ true) (sym q) (and_both (permits d.term u l) (leaves ds d.term u) own (held-left d.term u small-term hu lu)))

          other : ¬ (x.term ≡ d.term) → (vs : List Variant) → 1 ≤ left ds vs x.term → 1 ≤ left (l ∷ ds) vs x.term
          other ne [] h = omega arith
          other ne (v ∷ vs) h = let (w, hw, lw) = left_inv ds v vs x.term h in left_pos (l ∷ ds) (v ∷ vs) x.term w hw (and_both (permits x.term w l) (leaves ds x.term w) (others x.term ne w) lw)

      yes-node : Node (is d.term d.variant ∷ ds)
      yes-node =
          record {
            in_range = cons_in_range (is d.term d.variant) ds (small-term, small d.variant oc.variant) nd.in_range;
            some_left = child_left (is d.term d.variant) d.variant (λ i ne w. or_left (not (eqb i d.term)) (eqb w d.variant) (ap not (ne_eqb i d.term ne)))
                (or_right (not (eqb d.term d.term)) (eqb d.variant d.variant) (eq-eqb d.variant d.variant refl)) (small d.variant oc.variant) oc.holds;
          }

      no_node : Node (isnt d.term d.variant ∷ ds)
      no_node =
          record {
            in_range = cons_in_range (isnt d.term d.variant) ds (small-term, small d.variant oc.variant) nd.in_range;
            some_left = child_left (isnt d.term d.variant) oc.other (λ i ne w. differ (eqb i d.term) (eqb w d.variant) (ne_eqb i d.term ne))
                (kept (eqb d.term d.term) (eqb oc.other d.variant) (ne_eqb oc.other d.variant oc.other_differs)) (small oc.other oc.other_variant) oc.other_holds;
          }
        where
          differ : (a b : Bool) → a ≡ false → not (a && b) ≡ true
          differ true b e = absurd (false≢true (sym e))
          differ false b e = refl

          kept : (a b : Bool) → b ≡ false → not (a && b) ≡ true
          kept true true e = absurd (false≢true (sym e))
          kept true false e = refl
          kept false b e = refl

      -- the two parts of P
      parts_of_p : P g (is d.term d.variant ∷ ds) + P g (isnt d.term d.variant ∷ ds) ≤ P g ds
      unfolding P left_to
      parts_of_p =
          product-split (left_to g (is d.term d.variant ∷ ds)) (left_to g (isnt d.term d.variant ∷ ds)) (left_to g ds) (choices g)
          (λ x m. (left_fewer (is d.term d.variant) ds (variants_of g.types x.type) x.term, left_fewer (isnt d.term d.variant) ds (variants_of g.types x.type) x.term))
          (record { term = d.term; type = oc.type }) oc.choice (left_split ds (variants_of g.types oc.type) d.term d.variant oc.variant)

  below-node : (tree : Tree) (ds : List Literal) → Node ds → Finished g ds tree → nodes tree + 1 ≤ 2 * P g ds
  below-node leaf ds nd f = let h : 1 ≤ P g ds = positive in omega (arith, h)
    where
      positive : 1 ≤ P g ds
      positive = unfold P in product_pos (left_to g ds) (choices g) nd.some_left
  below-node (branch d yes' no') ds nd f =
      let oc = permitted_on_choice limits sup g ok ds nd.in_range d f.1 in
      omega (arith, parts_of_p ds nd d oc, below-node yes' (is d.term d.variant ∷ ds) (yes-node ds nd d oc) f.2, below-node no' (isnt d.term d.variant ∷ ds) (no_node ds nd d oc) f.3)

  -- Every finished tree, whatever splits it takes, has at most 2 × W − 1 nodes.
  pub tree_bound : (tree : Tree) → Finished g [] tree → nodes tree ≤ 2 * W g - 1
  tree_bound tree f = omega (arith, below-node tree [] root f, root_p g)
