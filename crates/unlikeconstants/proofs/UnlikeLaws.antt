-- For a guard's arrays: a class has a constant that differs from its first exactly if it holds two constants of different value.
-- Assumes nothing.
use mathlib.Core.Path.{◌≡◌, ap, sym, ◌∙◌}
use mathlib.Core.Bool.{Bool, true, not, false≢true, ◌&&◌}
use mathlib.Core.List.{List, Memᴰ}
use Prim.Native.Nat.{ℕ, ◌≤◌, ◌<◌}
use native.Mathlib.Omega.{arith}
use lib.IntN.{ℤ}
use lib.ListN.{length, get_or}
use borrow.Author.Tests.{eq-eqb, eqb-true, ltb-true, not-true}
use Rattle.laws.specs.Lists.{any, from}
use Rattle.laws.proofs.Bools.{and_both, and_left, and_right, by_test}
use Rattle.laws.proofs.Lists.{any_of, any_some, from_bounds}
use Rattle.laws.proofs.Positions.{least_passes}
use Rattle.guard.specs.Closure.{State, class_of, eq_z, same_class}
use Rattle.guard.specs.Guard.{Guard}
use Rattle.guard.specs.Limits.{Limits, Supported, total_variant_limit}
use Rattle.guard.specs.Node.{unlike_constants}
use Rattle.guard.specs.Terms.{Const, Table, Term, table_of}
use Rattle.guard.specs.WellFormed.{WellFormed}
use Rattle.guard.proofs.ClosureBelow.{eq_z_true}
use Rattle.guard.proofs.LeastClosure.{eq_z_of}
use Rattle.tables.specs.Layout.{flat, row_table}
use Rattle.loops.specs.Lowest.{lowest}
use Rattle.loops.proofs.Loops.{any_here, both, lowest-any}
use Rattle.arrays.specs.Arrays.{constants_of}
use Rattle.arrays.proofs.DueLaws.{is_nonzero, nonzero_is}
use Rattle.constants.specs.Constants.{constant_value, is_constant}
use Rattle.constants.proofs.ConstantSlots.{ConstantSlot, ConstantSlots, constant_slots}
use Rattle.reasons.specs.Reasons.{constant_class}
use Rattle.unlikeconstants.specs.Unlike.{has_other, is_constant_of, other_constant, unlike_in}

module _ (limits : Limits) (sup : Supported limits) (g : Guard) (ok : WellFormed limits g) (total : length (flat g.types) ≤ total_variant_limit) (s : State) (x : Term) where
  abbrev t : Table
  t = table_of g

  abbrev values : List ℤ
  values = (row_table g.types g.rows).values

  slots : ConstantSlots (table_of g) (constants_of g) values
  slots = constant_slots limits sup g ok total

  -- slot k has a constant of the class
  abbrev of : ℕ → Bool
  of = is_constant_of (constants_of g) s.classes (class_of s x.term)

  abbrev first : ℕ
  first = lowest of 30

  abbrev other : ℕ → Bool
  other = other_constant (constants_of g) values s.classes (class_of s x.term) first

  -- two constants of the table
  abbrev differ : Const → Const → Bool
  differ a b = same_class s x.term a.term && (same_class s x.term b.term && not (eq_z a.value b.value))

  first-is : (k : ℕ) → k < 30 → of k ≡ true → (first < 30) × (of first ≡ true)
  unfolding lowest
  first-is k h e = let l : first < 30 = ltb-true first 30 (lowest-any of 30 ∙ sym (any_here of 30 k h e)) in (l, least_passes of 30 l)

  -- a slot's constant
  record At (k : ℕ) : Type 0 where
    const : Const
    among : Memᴰ const t.consts
    class : same_class s x.term const.term ≡ true
    value : constant_value values k ≡ const.value

  at : (k : ℕ) → k < 30 → of k ≡ true → At k
  unfolding is_constant_of
  at k h e = go (slots.found k h (nonzero_is _ (and_left (is_constant (constants_of g) k) _ e)))
    where
      go : (c : Const) × Memᴰ c t.consts × ConstantSlot (constants_of g) values k c → At k
      go (c, m, p) =
          record {
            const = c;
            among = m;
            class = eq-eqb _ _ (sym (eqb-true (constant_class s.classes k) (class_of s x.term) (and_right (is_constant (constants_of g) k) _ e)) ∙ ap (class_of s) p.term);
            value = p.value;
          }

  of_slot : (k : ℕ) (c : Const) → ConstantSlot (constants_of g) values k c → same_class s x.term c.term ≡ true → of k ≡ true
  unfolding is_constant_of
  of_slot k c p e = and_both _ _ (is_nonzero (get_or (constants_of g) k 0) (λ z. omega (arith, z, p.type))) (eq-eqb _ _ (ap (class_of s) p.term ∙ sym (eqb-true (class_of s x.term) (class_of s c.term) e)))

  there : any other (from 30 0) ≡ true → unlike_constants t s x ≡ true
  unfolding other_constant
  there e =
      let (k, m, q) = any_some other (from 30 0) e in
      let h : k < 30 = omega (arith, (from_bounds 30 0 k m).1) in
      let (l, p) = first-is k h (and_left (of k) _ q) in
      let a : At first = at first l p in
      let b : At k = at k h (and_left (of k) _ q) in
      let n : eq_z b.const.value a.const.value ≡ true → ⊥ = λ z. false≢true (sym (not-true _ (and_right (of k) _ q)) ∙ eq_z_of _ _ (b.value ∙ eq_z_true _ _ z ∙ sym a.value)) in
      any_of (λ c. any (differ c) t.consts) t.consts b.const b.among (any_of (differ b.const) t.consts a.const a.among
      (and_both _ _ b.class (and_both _ _ a.class (by_test (eq_z b.const.value a.const.value) (λ z. absurd (n z)) (λ z. ap not z)))))

  back : unlike_constants t s x ≡ true → any other (from 30 0) ≡ true
  unfolding other_constant
  back e =
      let (a, ma, p) = any_some (λ a. any (differ a) t.consts) t.consts e in
      let (b, mb, q) = any_some (differ a) t.consts p in
      let r : (same_class s x.term b.term && not (eq_z a.value b.value)) ≡ true = and_right (same_class s x.term a.term) _ q in
      let (j, hj, sj) = slots.slot a ma in
      let (k, hk, sk) = slots.slot b mb in
      let oj : of j ≡ true = of_slot j a sj (and_left (same_class s x.term a.term) _ q) in
      let ok : of k ≡ true = of_slot k b sk (and_left (same_class s x.term b.term) _ r) in
      let n : ¬ (a.value ≡ b.value) = λ z. false≢true (sym (not-true _ (and_right (same_class s x.term b.term) _ r)) ∙ eq_z_of _ _ z) in
      by_test (eq_z (constant_value values j) (constant_value values first))
      (λ y. by_test (eq_z (constant_value values k) (constant_value values first)) (λ z. absurd (n (sym sj.value ∙ eq_z_true _ _ y ∙ sym (eq_z_true _ _ z) ∙ sk.value))) (λ z. sym (any_here other 30 k hk (and_both _ _ ok (ap not z)))))
      (λ y. sym (any_here other 30 j hj (and_both _ _ oj (ap not y))))

  pub unlike-same : unlike_in (constants_of g) (row_table g.types g.rows).values s.classes (class_of s x.term) ≡ unlike_constants (table_of g) s x
  unfolding unlike_in has_other
  unlike-same = both (any other (from 30 0)) (unlike_constants t s x) there back
