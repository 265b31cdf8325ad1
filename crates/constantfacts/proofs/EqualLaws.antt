-- The equal constants of the arrays of a well-formed guard are those that document 01 gives for it, up to the order of two: a claim about
-- two equal terms, in either order, that holds of the ones holds of the others. Assumes nothing.
use mathlib.Core.Path.{◌≡◌, ap, ap₂, sym, ◌∙◌, subst}
use mathlib.Core.Bool.{true, cond, not, ◌&&◌}
use mathlib.Core.List.{List, Memᴰ}
use Prim.Native.Nat.{ℕ, suc, ◌+◌, ◌≤◌, ◌<◌}
use native.Mathlib.Omega.{arith}
use lib.Dec.{eqb, ltb}
use lib.IntN.{ℤ}
use lib.ListN.{get_or, length}
use borrow.Author.Tests.{eq-eqb, eqb-true, ltb-false, ltb-true}
use Rattle.laws.specs.All.{All}
use Rattle.laws.proofs.Bools.{and_both, and_left, and_right, cond_ind}
use Rattle.guard.specs.Closure.{Fact, Fact.same, constants, eq_z, pairwise}
use Rattle.guard.specs.Guard.{Guard}
use Rattle.guard.specs.Limits.{Limits, Supported, total_variant_limit}
use Rattle.guard.specs.Terms.{Const, Table, table_of}
use Rattle.guard.specs.WellFormed.{WellFormed}
use Rattle.guard.proofs.ClosureBelow.{all-pairwise, eq_z_true}
use Rattle.guard.proofs.LeastClosure.{Either, Either.after, Either.before, Either.identical, eq_z_of, pairwise_inv}
use Rattle.tables.specs.Layout.{flat, row_table}
use Rattle.arrays.specs.Arrays.{constants_of}
use Rattle.arrays.proofs.DueLaws.{either_order, is_nonzero, nonzero_is, slots_at}
use Rattle.facts.proofs.FactLists.{all_one, one-all, slots_all}
use Rattle.constants.specs.Constants.{constant_term, constant_value}
use Rattle.constants.proofs.ConstantSlots.{ConstantSlot, ConstantSlots, constant_slots}
use Rattle.constantfacts.specs.Equal.{constants_at, constants_by, constants_meet, same_constant}

-- the places of constants are different terms
term-apart : (j k : ℕ) → j < k → k < 30 → ¬ (constant_term j ≡ constant_term k)
unfolding constant_term
term-apart j k l h e =
    cond_ind (λ x. x ≡ cond (ltb k 24) k (k + 48) → ⊥) (ltb j 24) j (j + 48)
    (λ a. cond_ind (λ y. j ≡ y → ⊥) (ltb k 24) k (k + 48) (λ b q. omega arith) (λ b q. omega arith))
    (λ a. cond_ind (λ y. j + 48 ≡ y → ⊥) (ltb k 24) k (k + 48) (λ b q. omega (arith, ltb-false j 24 a, ltb-true k 24 b)) (λ b q. omega arith)) e

module _ (limits : Limits) (sup : Supported limits) (g : Guard) (ok : WellFormed limits g) (total : length (flat g.types) ≤ total_variant_limit) (P : Fact → Type 0) where
  abbrev t : Table
  t = table_of g

  abbrev values : List ℤ
  values = (row_table g.types g.rows).values

  consts : ConstantSlots t (constants_of g) values
  consts = constant_slots limits sup g ok total

  -- the slots of two constants of one type and one value
  module _ (k j : ℕ) (a b : Const) (x : ConstantSlot (constants_of g) values k a) (y : ConstantSlot (constants_of g) values j b) where
    alike : (a.type ≡ b.type) × (a.value ≡ b.value) → same_constant (constants_of g) values k j ≡ true
    unfolding same_constant
    alike (e, v) =
        and_both _ _ (is_nonzero (get_or (constants_of g) k 0) (λ z. omega (arith, z, x.type)))
        (and_both _ _ (eq-eqb _ _ (y.type ∙ ap suc (sym e) ∙ sym x.type)) (eq_z_of _ _ (y.value ∙ sym v ∙ sym x.value)))

    are-alike : get_or (constants_of g) j 0 ≡ get_or (constants_of g) k 0 → constant_value values j ≡ constant_value values k → (a.type ≡ b.type) × (a.value ≡ b.value)
    are-alike e v = (omega (arith, e, x.type, y.type), sym x.value ∙ sym v ∙ y.value)

  -- what the test of two slots says
  test_is : (k j : ℕ) → same_constant (constants_of g) values k j ≡ true
      → (¬ (get_or (constants_of g) k 0 ≡ 0)) × (get_or (constants_of g) j 0 ≡ get_or (constants_of g) k 0) × (constant_value values j ≡ constant_value values k)
  unfolding same_constant
  test_is k j e =
      let r = and_right (not (eqb (get_or (constants_of g) k 0) 0)) _ e in (
        nonzero_is _ (and_left (not (eqb (get_or (constants_of g) k 0) 0)) _ e),
        eqb-true _ _ (and_left (eqb (get_or (constants_of g) j 0) (get_or (constants_of g) k 0)) _ r),
        eq_z_true _ _ (and_right (eqb (get_or (constants_of g) j 0) (get_or (constants_of g) k 0)) _ r),
      )

  -- a claim about two equal terms, in either order
  module _ (turn : (i j : ℕ) → P (same i j) → P (same j i)) where
    pub constants_to : All P (pairwise constants t.consts) → All P (constants_by (constants_of g) values)
    unfolding constants_by constants_at constants_meet
    constants_to h = slots_all P 30 (constants_at (constants_of g) values) (λ k l. slots_all P k (constants_meet (constants_of g) values k) (λ j i.
        one-all P (same_constant (constants_of g) values k j) (same (constant_term j) (constant_term k)) (λ e. let (n, q, v) = test_is k j e in
        met k j l i q v (consts.found k l n) (consts.found j (omega arith) (λ z. n (sym q ∙ z))))))
      where
        two : (a b : Const) → (a.type ≡ b.type) × (a.value ≡ b.value) → All P (constants a b) → P (same a.term b.term)
        two a b (e, v) q = all_one P (eqb a.type b.type && eq_z a.value b.value) (same a.term b.term) q (and_both _ _ (eq-eqb _ _ e) (eq_z_of _ _ v))

        met : (k j : ℕ) → k < 30 → j < k → get_or (constants_of g) j 0 ≡ get_or (constants_of g) k 0 → constant_value values j ≡ constant_value values k
            → (a : Const) × Memᴰ a t.consts × ConstantSlot (constants_of g) values k a → (b : Const) × Memᴰ b t.consts × ConstantSlot (constants_of g) values j b
            → P (same (constant_term j) (constant_term k))
        met k j l i e v (a, ma, x) (b, mb, y) =
            subst P (ap₂ same (sym y.term) (sym x.term)) (go (are-alike k j a b x y e v) (pairwise_inv P constants t.consts h a b ma mb))
          where
            go : (a.type ≡ b.type) × (a.value ≡ b.value) → Either P constants a b → P (same b.term a.term)
            go w (before q) = turn a.term b.term (two a b w q)
            go w (after q) = two b a (sym w.0, sym w.1) q
            go w (identical q) = absurd (term-apart j k i l (y.term ∙ ap (λ (c : Const). c.term) (sym q) ∙ sym x.term))

    pub constants-from : ((i : ℕ) → P (same i i)) → All P (constants_by (constants_of g) values) → All P (pairwise constants t.consts)
    unfolding constants_by constants_at constants_meet
    constants-from itself h = all-pairwise constants t.consts (λ a b ma mb. one-all P (eqb a.type b.type && eq_z a.value b.value) (same a.term b.term) (λ e.
        let (k, l, x) = consts.slot a ma in
        let (j, i, y) = consts.slot b mb in
        subst P (ap₂ same x.term y.term) (met j k i l b a y x (sym (eqb-true _ _ (and_left (eqb a.type b.type) _ e))) (sym (eq_z_true _ _ (and_right (eqb a.type b.type) _ e))))))
      where
        Met : ℕ → ℕ → Type 0
        Met k j = (a b : Const) → ConstantSlot (constants_of g) values k a → ConstantSlot (constants_of g) values j b → a.type ≡ b.type → a.value ≡ b.value → P (same (constant_term j) (constant_term k))

        met : (k j : ℕ) → k < 30 → j < 30 → Met k j
        met =
            either_order 30 Met (λ k j l i m a b x y e v. turn (constant_term j) (constant_term k) (m b a y x (sym e) (sym v))) (λ k a b x y e v. itself (constant_term k))
            (λ k j l i a b x y e v. all_one P (same_constant (constants_of g) values k j) (same (constant_term j) (constant_term k))
            (slots_at k (constants_meet (constants_of g) values k) (slots_at 30 (constants_at (constants_of g) values) h k l) j i) (alike k j a b x y (e, v)))
