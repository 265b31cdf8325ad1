-- Terms of one fieldless variant: what is due by an array of sorts and one of masks is what the rules give for the terms of a table,
-- and where all that is due holds, all that they give holds. The arrays and the table are any with `SortSlots`. Assumes nothing.
use mathlib.Core.Path.{◌≡◌, refl, ap, sym, ◌∙◌, subst}
use mathlib.Core.Bool.{Bool, true, not, ◌&&◌}
use mathlib.Core.List.{List, Memᴰ}
use Prim.Native.Nat.{ℕ, zero, suc, ◌<◌}
use native.Mathlib.Omega.{arith}
use lib.Dec.{eqb}
use lib.ListN.{get_or}
use borrow.Author.Tests.{eq-eqb, eqb-true}
use Rattle.laws.specs.All.{All}
use Rattle.laws.specs.Bits.{bit}
use Rattle.laws.specs.Lists.{any}
use Rattle.laws.proofs.Bits.{bit_zero}
use Rattle.laws.proofs.Bools.{and_both, and_left, and_right}
use Rattle.laws.proofs.Lists.{any_of, any_some}
use Rattle.guard.specs.Closure.{Fact, Fact.same, SameAt, State, alone, holds, single}
use Rattle.guard.specs.Limits.{variant_limit}
use Rattle.guard.specs.Terms.{Table, Term, fieldless}
use Rattle.guard.specs.Types.{variants_of}
use Rattle.guard.proofs.AnyOrder.{Follows, Follows.by-single}
use Rattle.guard.proofs.TableLaws.{fieldless-is}
use Rattle.arrays.specs.Arrays.{mask_of}
use Rattle.arrays.specs.Slots.{fieldless_at, only_is, sort_at}
use Rattle.arrays.proofs.TableSlots.{SortSlots}
use Rattle.arrays.proofs.DueLaws.{either_order, is_nonzero, mem_one, nonzero_is, one-is, one-quiet, quiet_one, slots_are, slots_at}
use Rattle.arrays.proofs.MaskLaws.{bit-fieldless, fieldless-bit}
use Rattle.singles.specs.Due.{single_due, singles_due, singles_for, singles_of}

module _ (t : Table) (sorts masks : List ℕ) (slots : SortSlots t sorts masks) (s : State) where
  -- terms x and y of one type, both of its fieldless variant v alone
  record Twins (x v y : ℕ) : Type 0 where
    sort : sort_at sorts y ≡ sort_at sorts x
    fieldless_one : ¬ (bit (fieldless_at sorts masks x) v ≡ 0)
    first : alone s x v ≡ true
    second : alone s y v ≡ true

  twin_test : ℕ → ℕ → ℕ → Bool
  twin_test x v y = eqb (sort_at sorts y) (sort_at sorts x) && (only_is sorts masks s x v && only_is sorts masks s y v)

  twins_of : (x v y : ℕ) → twin_test x v y ≡ true → Twins x v y
  unfolding twin_test only_is
  twins_of x v y e =
      let r = and_right (eqb (sort_at sorts y) (sort_at sorts x)) _ e in
      let p : only_is sorts masks s x v ≡ true = and_left (only_is sorts masks s x v) _ r in
      let q : only_is sorts masks s y v ≡ true = and_right (only_is sorts masks s x v) _ r in
      record {
        sort = eqb-true _ _ (and_left (eqb (sort_at sorts y) (sort_at sorts x)) _ e);
        fieldless_one = nonzero_is (bit (fieldless_at sorts masks x) v) (and_left (not (eqb (bit (fieldless_at sorts masks x) v) 0)) _ p);
        first = and_right (not (eqb (bit (fieldless_at sorts masks x) v) 0)) _ p;
        second = and_right (not (eqb (bit (fieldless_at sorts masks y) v) 0)) _ q;
      }

  masks_are : (x y : ℕ) → sort_at sorts y ≡ sort_at sorts x → fieldless_at sorts masks y ≡ fieldless_at sorts masks x
  masks_are x y e = ap (λ (n : ℕ). get_or masks n 0) e

  turned : (x v y : ℕ) → Twins x v y → Twins y v x
  turned x v y w = record { sort = sym w.sort; fieldless_one = λ z. w.fieldless_one (ap (λ (m : ℕ). bit m v) (sym (masks_are x y w.sort)) ∙ z); first = w.second; second = w.first }

  of_twins : (x v y : ℕ) → Twins x v y → twin_test x v y ≡ true
  unfolding twin_test only_is
  of_twins x v y w =
      and_both _ _ (eq-eqb _ _ w.sort) (and_both _ _ (and_both _ _ (is_nonzero (bit (fieldless_at sorts masks x) v) w.fieldless_one) w.first)
      (and_both _ _ (is_nonzero (bit (fieldless_at sorts masks y) v) (turned x v y w).fieldless_one) w.second))

  -- the rule's own test
  single_test : Term → Term → Bool
  single_test a b = eqb a.type b.type && any (λ v. alone s a.term v && alone s b.term v) (fieldless 0 (variants_of t.types a.type))

  mask_of_lem : (x u : ℕ) → sort_at sorts x ≡ suc u → fieldless_at sorts masks x ≡ mask_of (fieldless 0 (variants_of t.types u))
  mask_of_lem x u e = ap (λ (n : ℕ). get_or masks n 0) e ∙ slots.mask u

  twins_follow : (x v y : ℕ) → x < 78 → y < x → Twins x v y → Follows t s (same y x)
  unfolding single_test
  twins_follow x v y hx hy w = go (sort_at sorts x) refl
    where
      go : (n : ℕ) → sort_at sorts x ≡ n → Follows t s (same y x)
      go zero e = absurd (w.fieldless_one (ap (λ (m : ℕ). bit m v) (ap (λ (n : ℕ). get_or masks n 0) e ∙ slots.no_mask) ∙ bit_zero v))
      go (suc u) e =
          let a : Term = record { term = y; type = u } in
          let b : Term = record { term = x; type = u } in
          by-single a b (slots.found y u (omega arith) (w.sort ∙ e)) (slots.found x u hx e)
          (mem_one (single_test a b) y x (and_both (eqb u u) _ (eq-eqb u u refl)
          (any_of (λ v. alone s y v && alone s x v) (fieldless 0 (variants_of t.types u)) v
          (bit-fieldless (variants_of t.types u) v (λ z. w.fieldless_one (ap (λ (m : ℕ). bit m v) (mask_of_lem x u e) ∙ z))) (and_both _ _ w.second w.first))) refl)

  pub terms_follow : (f : Fact) → Memᴰ f (singles_due sorts masks s) → Follows t s f
  unfolding singles_due singles_of singles_for single_due twin_test
  terms_follow = slots_are 78 (singles_of sorts masks s) (λ x hx. slots_are variant_limit (singles_for sorts masks s x) (λ v hv. slots_are x (single_due sorts masks s x v) (go x hx v)))
    where
      go : (x : ℕ) → x < 78 → (v y : ℕ) → y < x → (f : Fact) → Memᴰ f (single_due sorts masks s x v y) → Follows t s f
      go x hx v y hy f m = let (e, q) = one-is (twin_test x v y) y x m in subst (Follows t s) (sym q) (twins_follow x v y hx hy (twins_of x v y e))

  pub terms-quiet : All (λ f. holds s f ≡ true) (singles_due sorts masks s) → (a b : Term) → Memᴰ a t.terms → Memᴰ b t.terms → All (λ f. holds s f ≡ true) (single t.types s a b)
  unfolding singles_due singles_of singles_for single_due twin_test single_test
  terms-quiet h a b ma mb = quiet_one (single_test a b) a.term b.term s twins
    where
      joined : (x y : ℕ) → x < 78 → y < 78 → (v : ℕ) → v < variant_limit → Twins x v y → SameAt s y x
      joined =
          either_order 78 (λ x y. (v : ℕ) → v < variant_limit → Twins x v y → SameAt s y x) (λ x y hx hy j v hv w. sym (j v hv (turned y v x w))) (λ x v hv w. refl)
          (λ x y hx hy v hv w. one-quiet (twin_test x v y) y x s
          (slots_at x (single_due sorts masks s x v) (slots_at variant_limit (singles_for sorts masks s x) (slots_at 78 (singles_of sorts masks s) h x hx) v hv) y hy) (of_twins x v y w))

      twins : single_test a b ≡ true → SameAt s a.term b.term
      twins e =
          let (ha, x) = slots.slot a ma in
          let (hb, y) = slots.slot b mb in
          let types : a.type ≡ b.type = eqb-true _ _ (and_left (eqb a.type b.type) _ e) in
          let vs = variants_of t.types a.type in
          let (v, m, q) = any_some (λ v. alone s a.term v && alone s b.term v) (fieldless 0 vs) (and_right (eqb a.type b.type) _ e) in
          let (k, z, l, d) = fieldless-is 0 v vs m in
          joined b.term a.term hb ha v (omega (arith, z, l, slots.few_variants a.type))
          (turned a.term v b.term (record {
            sort = y ∙ ap suc (sym types) ∙ sym x;
            fieldless_one = λ z. omega (arith, z, ap (λ (m : ℕ). bit m v) (mask_of_lem a.term a.type x), fieldless-bit vs v m);
            first = and_left (alone s a.term v) _ q;
            second = and_right (alone s a.term v) _ q;
          }))
