-- What two shapes pass, and one that is not active: nothing where a test fails, the facts that are due where it holds. Assumes nothing.
use mathlib.Core.Path.{◌≡◌, refl, ap, sym, ◌∙◌, subst}
use mathlib.Core.Bool.{Bool, true, false, not, ◌&&◌}
use mathlib.Core.Logic.{⊎_elim}
use mathlib.Core.List.{List, [], ◌∷◌}
use Prim.Native.Nat.{ℕ, ◌^◌, ◌<◌}
use native.Mathlib.Omega.{arith}
use lib.Bits.{bit_and, and_le_r}
use lib.Dec.{eqb}
use borrow.Author.Tests.{eq-eqb, eqb-true}
use Rattle.laws.specs.All.{All.more, All.none}
use Rattle.laws.specs.Bits.{bit}
use Rattle.laws.specs.Lists.{concat_map, from, when}
use Rattle.laws.proofs.Bits.{and_missing, bit_and_lem, bit_zero, sub_le}
use Rattle.laws.proofs.Bools.{and_both, and_left, and_right, by_test}
use Rattle.laws.proofs.Lists.{all-concat_map, all_true_inv, all-when}
use Rattle.guard.specs.Closure.{Fact.same, State, add, holds, label_of, same_class}
use Rattle.guard.specs.Limits.{variant_limit}
use Rattle.guard.proofs.ClosureState.{Keeps}
use Rattle.loops.proofs.Tests.{second_decides}
use Rattle.passes.specs.Pass.{Pass}
use Rattle.passes.proofs.PassLaws.{first_changed, none-due, not_due, second-tells, settled, skipped, steps_keep, united}
use Rattle.arrays.specs.Slots.{ShapesFit, active, kind_at, many_at, others_at, owner_at, part_at}
use Rattle.congruence.specs.Due.{alike, owners_due, part_due, parts_due, same_owners, same_parts, shape_due, shapes_meet}
use Rattle.congruence.proofs.Tests.{inactive, unlike}

-- ---- shapes: what is known of two of them stays so

module _ (shapes : List ℕ) (fit : ShapesFit shapes) {s s' : State} (keeps : Keeps s s') where
  active-kept : (k : ℕ) → k < 30 → active shapes s k ≡ true → active shapes s' k ≡ true
  unfolding active
  active-kept k h e = and_both _ _ (and_left (not (eqb (kind_at shapes k) 0)) _ e) (eq-eqb (bit_and (label_of s' (owner_at shapes k)) (others_at shapes k)) 0 (omega (arith, sub_le variant_limit 0 (bit_and (label_of s' (owner_at shapes k)) (others_at shapes k)) small (λ v hv z. gone v))))
    where
      small : bit_and (label_of s' (owner_at shapes k)) (others_at shapes k) < 2 ^ variant_limit
      small = omega (arith, and_le_r (label_of s' (owner_at shapes k)) (others_at shapes k), fit.others k h)

      before : bit_and (label_of s (owner_at shapes k)) (others_at shapes k) ≡ 0
      before = eqb-true _ _ (and_right (not (eqb (kind_at shapes k) 0)) _ e)

      gone : (v : ℕ) → bit (bit_and (label_of s' (owner_at shapes k)) (others_at shapes k)) v ≡ 0
      gone v =
          ⊎_elim (λ q. omega (arith, keeps.label (owner_at shapes k) v q, bit_and_lem (label_of s' (owner_at shapes k)) (others_at shapes k) v))
          (λ q. omega (arith, q, bit_and_lem (label_of s' (owner_at shapes k)) (others_at shapes k) v))
          (and_missing (label_of s (owner_at shapes k)) (others_at shapes k) v (ap (λ (m : ℕ). bit m v) before ∙ bit_zero v))

  pub alike-kept : (k i : ℕ) → k < 30 → i < 30 → alike shapes s k i ≡ true → alike shapes s' k i ≡ true
  unfolding alike
  alike-kept k i hk hi e =
      let both = and_right (eqb (kind_at shapes k) (kind_at shapes i)) _ e in
      and_both _ _ (and_left (eqb (kind_at shapes k) (kind_at shapes i)) _ e) (and_both _ _ (active-kept k hk (and_left (active shapes s k) _ both)) (active-kept i hi (and_right (active shapes s k) _ both)))

  pub same_kept : (x y : ℕ) → same_class s x y ≡ true → same_class s' x y ≡ true
  same_kept x y e = eq-eqb _ _ (keeps.class x y (eqb-true _ _ e))

-- ---- two shapes

module _ (shapes : List ℕ) (fit : ShapesFit shapes) (k i : ℕ) (hk : k < 30) (hi : i < 30) (s : State) where
  -- shapes that are not of one variant
  pub unlike_pass : alike shapes s k i ≡ false → Pass (λ x. shapes_meet shapes x k i) s s false
  unlike_pass e = skipped (λ x. shapes_meet shapes x k i) s (unlike shapes s k i e)

  module _ (like : alike shapes s k i ≡ true) where
    -- equal terms: a part more, after steps that keep what is known
    pub part_joined : same_owners shapes s k i ≡ true → (x : State) → Keeps s x → (p : ℕ) (y : State) (r : Bool) (a b : ℕ) → a ≡ part_at shapes i p → b ≡ part_at shapes k p
        → y ≡ add x (same a b) → r ≡ not (holds x (same a b)) → Pass (λ z. part_due shapes z k i p) x y r
    unfolding part_due
    part_joined e x keeps p y r a b ea eb es er =
        united (λ z. alike shapes z k i && same_owners shapes z k i) (part_at shapes i p) (part_at shapes k p) x
        (and_both _ _ (alike-kept shapes fit keeps k i hk hi like) (same_kept shapes fit keeps (owner_at shapes i) (owner_at shapes k) e)) y r (rw (sym ea, sym eb) es) (rw (sym ea, sym eb) er)

    -- equal terms: their owners need nothing, and their parts are joined
    pub owners_equal : same_owners shapes s k i ≡ true → {s' : State} (r : Bool) → Pass (λ x. parts_due shapes x k i) s s' r → Pass (λ x. shapes_meet shapes x k i) s s' r
    unfolding shapes_meet owners_due
    owners_equal e r p =
        second-tells false r (settled (λ x. when (alike shapes x k i && same_parts shapes x k i) (same (owner_at shapes i) (owner_at shapes k) ∷ [])) s (all-when (alike shapes s k i && same_parts shapes s k i) (same (owner_at shapes i) (owner_at shapes k) ∷ []) (λ t. more e none))) p refl

    -- neither the terms nor their parts are equal
    pub nothing_equal : same_owners shapes s k i ≡ false → same_parts shapes s k i ≡ false → Pass (λ x. shapes_meet shapes x k i) s s false
    unfolding shapes_meet owners_due parts_due part_due
    nothing_equal e f =
        second-tells false false (not_due (λ x. alike shapes x k i && same_parts shapes x k i) (owner_at shapes i) (owner_at shapes k) s (second_decides _ _ _ like f))
        (skipped (λ x. parts_due shapes x k i) s (none-due (λ p x. part_due shapes x k i p) (from (many_at shapes k) 0) s (λ p m. ap (λ (b : Bool). when b (same (part_at shapes i p) (part_at shapes k p) ∷ [])) (second_decides _ _ _ like e)))) refl

    -- equal parts: the terms are joined, and their parts need nothing
    pub parts-equal : same_parts shapes s k i ≡ true → (s' : State) (r : Bool) (a b : ℕ) → a ≡ owner_at shapes i → b ≡ owner_at shapes k
        → s' ≡ add s (same a b) → r ≡ not (holds s (same a b)) → Pass (λ x. shapes_meet shapes x k i) s s' r
    unfolding shapes_meet owners_due parts_due part_due same_parts
    parts-equal e s' r a b ea eb es er = by_test r (λ t. first_changed r false joined rest t) (λ t. subst (Pass (λ x. shapes_meet shapes x k i) s s') (sym t) (second-tells r false joined rest t))
      where
        joined : Pass (λ x. when (alike shapes x k i && same_parts shapes x k i) (same (owner_at shapes i) (owner_at shapes k) ∷ [])) s s' r
        joined =
            united (λ x. alike shapes x k i && same_parts shapes x k i) (owner_at shapes i) (owner_at shapes k) s (second_decides _ _ _ like e) s' r (rw (sym ea, sym eb) es) (rw (sym ea, sym eb) er)

        keeps : Keeps s s'
        keeps = steps_keep joined.steps

        rest : Pass (λ x. concat_map (λ p. when (alike shapes x k i && same_owners shapes x k i) (same (part_at shapes i p) (part_at shapes k p) ∷ [])) (from (many_at shapes k) 0)) s' s' false
        rest =
            settled (λ x. concat_map (λ p. when (alike shapes x k i && same_owners shapes x k i) (same (part_at shapes i p) (part_at shapes k p) ∷ [])) (from (many_at shapes k) 0)) s'
            (all-concat_map (λ p. when (alike shapes s' k i && same_owners shapes s' k i) (same (part_at shapes i p) (part_at shapes k p) ∷ [])) (from (many_at shapes k) 0)
            (λ p m. all-when (alike shapes s' k i && same_owners shapes s' k i) (same (part_at shapes i p) (part_at shapes k p) ∷ []) (λ t. more (same_kept shapes fit keeps (part_at shapes i p) (part_at shapes k p) (all_true_inv (λ p. same_class s (part_at shapes i p) (part_at shapes k p)) (from (many_at shapes k) 0) e p m)) none)))

-- a shape that is not active says nothing
pub inactive_pass : (shapes : List ℕ) (s : State) (k : ℕ) → active shapes s k ≡ false → Pass (λ x. shape_due shapes x k) s s false
inactive_pass shapes s k e = skipped (λ x. shape_due shapes x k) s (inactive shapes s k e)
