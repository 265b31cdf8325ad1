-- A split cuts labels: from a node to each child every label stays or shrinks, and the label of the split term
-- shrinks. So the total of the label sizes falls. Assumes nothing.
use mathlib.Core.Path.{◌≡◌, refl, ap, sym, ◌∙◌, subst}
use mathlib.Core.Bool.{true, not}
use mathlib.Core.List.{List, [], ◌∷◌, Memᴰ}
use mathlib.Core.Logic.{◌⊎◌, inl, inr}
use Prim.Native.Nat.{ℕ, ◌≤◌, ◌<◌, ◌^◌}
use native.Mathlib.Omega.{arith}
use lib.ListN.{length, get_or}
use borrow.Author.Tests.{eqb-false, ne_eqb, leb-true, not-true, eqb-true}
use lib.Dec.{leb, eqb}
use mathlib.Core.Option.{Option, none, some}
use lib.Count.{ones}
use Rattle.laws.specs.Bits.{bit}
use Rattle.laws.specs.Lists.{find, from}
use Rattle.laws.proofs.Bits.{bit_pow, bit_zero, one_set, sub_less, sub_ones}
use Rattle.laws.proofs.Bools.{and_both, and_left, and_right, by_test}
use Rattle.laws.proofs.Lists.{filter-from_ordered, filter-is, find-some, from_bounds, none-some, sum-map_lt}
use Rattle.guard.specs.Closure.{LacksAt, SameAt, State, closure_of, label_of, lacks}
use Rattle.guard.specs.Guard.{Literal, Literal.is, Literal.isnt}
use Rattle.guard.specs.Limits.{variant_limit}
use Rattle.guard.specs.Node.{Split, first_kind, holds_another, on_read, on_term, second_kind, split_of, variants_left}
use Rattle.guard.specs.Rules.{LeastClosure, ObeysLiterals, Relation}
use Rattle.guard.specs.Search.{label_total}
use Rattle.guard.specs.Terms.{Read, Table, Term, term_count}
use Rattle.guard.specs.Types.{variants_of}
use Rattle.guard.proofs.ClosureBelow.{InRange, LiteralInRange, LiteralsInRange}
use Rattle.guard.proofs.ClosureState.{closure_small}
use Rattle.guard.proofs.LeastClosure.{closure_least}

-- more literals, fewer obey them
fewer : (d : Literal) (ls : List Literal) (Same Lacks : Relation) → ObeysLiterals (d ∷ ls) Same Lacks → ObeysLiterals ls Same Lacks
fewer d ls Same Lacks o =
    record {
      equal_literal = λ i j m. o.equal_literal i j (Memᴰ.tail m);
      is_literal = λ i v m. o.is_literal i v (Memᴰ.tail m);
      isnt_literal = λ i v m. o.isnt_literal i v (Memᴰ.tail m);
    }

pub cons_in_range : (l : Literal) (ls : List Literal) → LiteralInRange l → LiteralsInRange ls → LiteralsInRange (l ∷ ls)
cons_in_range l ls h hs k (Memᴰ.head e) = subst LiteralInRange (sym e) h
cons_in_range l ls h hs k (Memᴰ.tail m) = hs k m

-- what a split is: a term of the table whose label holds the variant and another one
pub record SplitsAt (t : Table) (s : State) (d : Split) : Type 0 where
  pub type : ℕ
  pub term : Memᴰ (record { term = d.term; type = type }) t.terms
  pub variant : d.variant < variant_limit
  pub another : holds_another s d.term d.variant ≡ true

-- the two halves of `another`
pub holds_it : (s : State) (i v : ℕ) → holds_another s i v ≡ true → ¬ LacksAt s i v
holds_it s i v e = eqb-false (bit (label_of s i) v) 0 (not-true _ (and_left (not (lacks s i v)) _ e))

pub not_alone : (s : State) (i v : ℕ) → holds_another s i v ≡ true → ¬ (label_of s i ≡ 2 ^ v)
not_alone s i v e = eqb-false (label_of s i) (2 ^ v) (not-true _ (and_right (not (lacks s i v)) _ e))

module _ (t : Table) (range : InRange t) where
  abbrev S : List Literal → State
  S ls = closure_of t ls

  least : (ls : List Literal) → LiteralsInRange ls → LeastClosure t ls (SameAt (S ls)) (LacksAt (S ls))
  least ls r = closure_least t ls range r

  -- ---- the split of a node

  -- a term of the second kind may be split on any variant left to it
  pub split-term : (ls : List Literal) (x : Term) (v : ℕ) → Memᴰ x t.terms → second_kind t (S ls) x ≡ true → Memᴰ v (variants_left t (S ls) x)
      → SplitsAt t (S ls) (record { term = x.term; variant = v })
  split-term ls x v m e mv = go (variants_left t (S ls) x) refl (leb-true 2 (length (variants_left t (S ls) x)) (and_left (leb 2 (length (variants_left t (S ls) x))) _ e))
    where
      many : ℕ
      many = length (variants_of t.types x.type)

      left : (w : ℕ) → Memᴰ w (variants_left t (S ls) x) → (w < variant_limit) × (not (lacks (S ls) x.term w) ≡ true)
      left w k = let (a, b) = filter-is (λ v. not (lacks (S ls) x.term v)) (from many 0) w k in (omega (arith, (from_bounds many 0 w a).1, (range.terms x m).1), b)

      -- with another variant left beside it
      beside : (w : ℕ) → Memᴰ w (variants_left t (S ls) x) → ¬ (w ≡ v) → SplitsAt t (S ls) (record { term = x.term; variant = v })
      beside w mw ne =
          let (hv, lv) = left v mv in
          let (hw, lw) = left w mw in
          record {
            type = x.type;
            term = m;
            variant = hv;
            another = and_both (not (lacks (S ls) x.term v)) _ lv
                (ap not (ne_eqb (label_of (S ls) x.term) (2 ^ v) (λ z. eqb-false (bit (label_of (S ls) x.term) w) 0 (not-true _ lw)
                (ap (λ (l : ℕ). bit l w) z ∙ bit_pow v w hv hw ne))));
          }

      go : (vs : List ℕ) → variants_left t (S ls) x ≡ vs → 2 ≤ length vs → SplitsAt t (S ls) (record { term = x.term; variant = v })
      go [] q h = absurd (omega arith)
      go (u ∷ []) q h = absurd (omega arith)
      go (u ∷ w ∷ us) q h =
          let less : u < w = filter-from_ordered (λ v. not (lacks (S ls) x.term v)) many 0 u w us q in
          by_test (eqb u v) (λ y. beside w (subst (Memᴰ w) (sym q) (Memᴰ.tail (Memᴰ.head refl))) (λ z. omega (arith, eqb-true u v y, z)))
          (λ y. beside u (subst (Memᴰ u) (sym q) (Memᴰ.head refl)) (eqb-false u v y))

  -- the lowest variant of a term of the second kind is left to it
  pub lowest-left : (ls : List Literal) (x : Term) → second_kind t (S ls) x ≡ true → Memᴰ (on_term t (S ls) x).variant (variants_left t (S ls) x)
  lowest-left ls x e = go (variants_left t (S ls) x) (leb-true 2 (length (variants_left t (S ls) x)) (and_left (leb 2 (length (variants_left t (S ls) x))) _ e))
    where
      go : (vs : List ℕ) → 2 ≤ length vs → Memᴰ (get_or vs 0 0) vs
      go [] h = absurd (omega arith)
      go (u ∷ us) h = Memᴰ.head refl

  pub split-is : (ls : List Literal) (d : Split) → split_of t (S ls) ≡ some d → SplitsAt t (S ls) d
  unfolding split_of
  split-is ls d e = go (find (first_kind (S ls)) t.reads) (find (second_kind t (S ls)) t.terms) refl refl e
    where
      go : (o : Option Read) (p : Option Term) → find (first_kind (S ls)) t.reads ≡ o → find (second_kind t (S ls)) t.terms ≡ p
          → ◌≡◌ {A = Option Split} (elim o [ some r ↦ some (on_read r) | none ↦ elim p [ some x ↦ some (on_term t (S ls) x) | none ↦ none ] ]) (some d) → SplitsAt t (S ls) d
      go (some r) p q q2 e =
          let z : on_read r ≡ d = cc in
          let (m, k) = find-some (first_kind (S ls)) t.reads r q in
          subst (SplitsAt t (S ls)) z (record { type = r.type; term = range.read_terms r m; variant = (range.reads r m).2; another = k })
      go none (some x) q q2 e =
          let z : on_term t (S ls) x ≡ d = cc in
          let (m, k) = find-some (second_kind t (S ls)) t.terms x q2 in
          subst (SplitsAt t (S ls)) z (split-term ls x (on_term t (S ls) x).variant m k (lowest-left ls x k))
      go none none q q2 e = absurd (none-some d e)

  -- ---- a child

  module _ (ls : List Literal) (rs : LiteralsInRange ls) (l : Literal) (rl : LiteralInRange l) where
    child_in_range : LiteralsInRange (l ∷ ls)
    child_in_range = cons_in_range l ls rl rs

    -- what a node says, its children say
    pub child_same : (i j : ℕ) → i < term_count → j < term_count → SameAt (S ls) i j → SameAt (S (l ∷ ls)) i j
    child_same =
        (least ls rs).least_same (SameAt (S (l ∷ ls))) (LacksAt (S (l ∷ ls))) (least (l ∷ ls) child_in_range).rules (fewer l ls _ _ (least (l ∷ ls) child_in_range).literals)

    pub child_lacks : (i v : ℕ) → i < term_count → v < variant_limit → LacksAt (S ls) i v → LacksAt (S (l ∷ ls)) i v
    child_lacks =
        (least ls rs).least_lacks (SameAt (S (l ∷ ls))) (LacksAt (S (l ∷ ls))) (least (l ∷ ls) child_in_range).rules (fewer l ls _ _ (least (l ∷ ls) child_in_range).literals)

    child_ones : (i : ℕ) → i < term_count → ones (label_of (S (l ∷ ls)) i) ≤ ones (label_of (S ls) i)
    child_ones i h = sub_ones variant_limit (label_of (S ls) i) (label_of (S (l ∷ ls)) i) (closure_small t (l ∷ ls) i) (λ v hv e. child_lacks i v h hv e)

    -- where some label changes, the total falls
    pub total_falls : (x : Term) → Memᴰ x t.terms → ¬ (label_of (S (l ∷ ls)) x.term ≡ label_of (S ls) x.term) → label_total t (S (l ∷ ls)) < label_total t (S ls)
    total_falls x m ne =
        sum-map_lt (λ y. ones (label_of (S (l ∷ ls)) y.term)) (λ y. ones (label_of (S ls) y.term)) t.terms (λ y n. child_ones y.term (range.terms y n).0) x m
        (pick (sub_less variant_limit (label_of (S ls) x.term) (label_of (S (l ∷ ls)) x.term) (closure_small t (l ∷ ls) x.term) (λ v hv e. child_lacks x.term v (range.terms x m).0 hv e) ne))
      where
        pick : ones (label_of (S (l ∷ ls)) x.term) < ones (label_of (S ls) x.term) ⊎ (2 ^ variant_limit ≤ label_of (S ls) x.term) → ones (label_of (S (l ∷ ls)) x.term) < ones (label_of (S ls) x.term)
        pick (inl h) = h
        pick (inr h) = absurd (omega (arith, closure_small t ls x.term, h))

  -- both children of a split: their literals are in range, and the total falls
  module _ (ls : List Literal) (rs : LiteralsInRange ls) (d : Split) (sp : SplitsAt t (S ls) d) where
    -- the decision, for "is" and "isn't" alike
    pub decision_in_range : (d.term < term_count) × (d.variant < variant_limit)
    decision_in_range = ((range.terms (record { term = d.term; type = sp.type }) sp.term).0, sp.variant)

    pub is_in_range : LiteralsInRange (is d.term d.variant ∷ ls)
    is_in_range = cons_in_range (is d.term d.variant) ls decision_in_range rs

    pub isnt_in_range : LiteralsInRange (isnt d.term d.variant ∷ ls)
    isnt_in_range = cons_in_range (isnt d.term d.variant) ls decision_in_range rs

    pub is-falls : label_total t (S (is d.term d.variant ∷ ls)) < label_total t (S ls)
    is-falls =
        total_falls ls rs (is d.term d.variant) decision_in_range (record { term = d.term; type = sp.type }) sp.term
        (λ e. go e (one_set variant_limit d.variant (label_of (S (is d.term d.variant ∷ ls)) d.term) (closure_small t (is d.term d.variant ∷ ls) d.term)
        ((least (is d.term d.variant ∷ ls) is_in_range).literals.is_literal d.term d.variant (Memᴰ.head refl))))
      where
        go : label_of (S (is d.term d.variant ∷ ls)) d.term ≡ label_of (S ls) d.term
            → (label_of (S (is d.term d.variant ∷ ls)) d.term ≡ 0) ⊎ (label_of (S (is d.term d.variant ∷ ls)) d.term ≡ 2 ^ d.variant) → ⊥
        go e (inl z) = holds_it (S ls) d.term d.variant sp.another (ap (λ (m : ℕ). bit m d.variant) (sym e ∙ z) ∙ bit_zero d.variant)
        go e (inr z) = not_alone (S ls) d.term d.variant sp.another (sym e ∙ z)

    pub isnt-falls : label_total t (S (isnt d.term d.variant ∷ ls)) < label_total t (S ls)
    isnt-falls =
        total_falls ls rs (isnt d.term d.variant) decision_in_range (record { term = d.term; type = sp.type }) sp.term
        (λ e. holds_it (S ls) d.term d.variant sp.another
        (ap (λ (m : ℕ). bit m d.variant) (sym e) ∙ (least (isnt d.term d.variant ∷ ls) isnt_in_range).literals.isnt_literal d.term d.variant (Memᴰ.head refl)))
