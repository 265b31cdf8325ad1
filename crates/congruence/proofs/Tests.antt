-- What the tests of the code say: two shapes of one variant, the same parts. Assumes nothing.
use mathlib.Core.Path.{◌≡◌, refl, ap, sym, ◌∙◌}
use mathlib.Core.Bool.{Bool, false, ◌&&◌}
use mathlib.Core.List.{List, [], ◌∷◌}
use Prim.Native.Nat.{ℕ, zero, suc}
use lib.Dec.{eqb}
use Rattle.std.specs.List.{list_all, range_with_len}
use native.Mathlib.Numerals.{add-one}
use Rattle.laws.specs.Lists.{all, from, when}
use Rattle.laws.proofs.Bools.{by_test}
use Rattle.guard.specs.Closure.{Fact.same, State, same_class}
use Rattle.loops.proofs.Tests.{no_and, yes_and}
use Rattle.passes.proofs.PassLaws.{none-due}
use Rattle.arrays.specs.Slots.{active, kind_at, many_at, owner_at, part_at}
use Rattle.congruence.specs.Due.{alike, owners_due, part_due, parts_due, same_parts, shape_due, shapes_meet}

walked : (test : ℕ → Bool) (n a : ℕ) → list_all test (range_with_len a n) ≡ all test (from n a)
walked test zero a = refl
walked test (suc n) a = ap (λ (b : Bool). test a && b) (ap (λ (m : ℕ). list_all test (range_with_len m n)) (add-one a) ∙ walked test n (suc a))

module _ (shapes : List ℕ) (s : State) (k : ℕ) where
  module _ (i : ℕ) where
    pub inactive_alike : active shapes s k ≡ false → alike shapes s k i ≡ false
    unfolding alike
    inactive_alike n = by_test (eqb (kind_at shapes k) (kind_at shapes i)) (λ e. sym (yes_and _ e) ∙ sym (no_and _ n)) (λ e. sym (no_and _ e))

    -- the same as a walk over the places of parts says it
    pub parts_walked : (r : Bool) → r ≡ list_all (λ p. same_class s (part_at shapes i p) (part_at shapes k p)) (range_with_len 0 (many_at shapes k)) → r ≡ same_parts shapes s k i
    unfolding same_parts
    parts_walked r e = e ∙ walked (λ p. same_class s (part_at shapes i p) (part_at shapes k p)) (many_at shapes k) 0

    -- shapes that are not of one variant say nothing of each other
    pub unlike_owners : alike shapes s k i ≡ false → owners_due shapes s k i ≡ []
    unfolding owners_due
    unlike_owners e = ap (λ (b : Bool). when b (same (owner_at shapes i) (owner_at shapes k) ∷ [])) (sym (no_and _ e))

    pub unlike-parts : alike shapes s k i ≡ false → parts_due shapes s k i ≡ []
    unfolding parts_due part_due
    unlike-parts e = none-due (λ p x. part_due shapes x k i p) (from (many_at shapes k) 0) s (λ p m. ap (λ (b : Bool). when b (same (part_at shapes i p) (part_at shapes k p) ∷ [])) (sym (no_and _ e)))

    pub unlike : alike shapes s k i ≡ false → shapes_meet shapes s k i ≡ []
    unfolding shapes_meet
    unlike e = rw (unlike_owners e, unlike-parts e) refl

  pub inactive : active shapes s k ≡ false → shape_due shapes s k ≡ []
  unfolding shape_due
  inactive e = none-due (λ i x. shapes_meet shapes x k i) (from k 0) s (λ i m. unlike i (inactive_alike i e))
