-- The numbers that choices go by, counted as the classes are passed in order. Assumes nothing.
use mathlib.Core.Path.{◌≡◌, refl}
use mathlib.Core.Bool.{not, ◌&&◌}
use Prim.Native.Nat.{ℕ, suc, ◌+◌, ◌≤◌, ◌<◌}
use lib.Dec.{eqb}
use Rattle.growth.proofs.ClosedPlans.{root_index}
use Rattle.plans.specs.Plans.{OpenState, circled_before, circling, ends_before, free_classes, is_free, root_of_class, type_for, variant_for}
use Rattle.plans.proofs.Counting.{count-few, count_next, count_none, one}

module _ (x : OpenState) where
  -- ---- classes that end in a number

  pub ends-none : ends_before x 0 ≡ 0
  unfolding ends_before free_classes
  ends-none = count_none (λ y. not (circling x y)) (is_free x) 78

  pub ends_next : (c : ℕ) → c < 78 → ends_before x (suc c) ≡ ends_before x c + one (is_free x c && not (circling x c))
  unfolding ends_before free_classes
  ends_next c h = count_next (λ y. not (circling x y)) (is_free x) 78 c h

  pub ends-few : (c : ℕ) → ends_before x c ≤ c
  unfolding ends_before free_classes
  ends-few c = count-few (λ y. not (circling x y)) (is_free x) 78 c

  -- ---- classes that go round a cycle, by root

  pub circled_none : (r : ℕ) → circled_before x 0 r ≡ 0
  unfolding circled_before free_classes
  circled_none r = count_none (λ y. circling x y && eqb (root_of_class x y) r) (is_free x) 78

  pub circled_next : (c r : ℕ) → c < 78 → circled_before x (suc c) r ≡ circled_before x c r + one (is_free x c && (circling x c && eqb (root_of_class x c) r))
  unfolding circled_before free_classes
  circled_next c r h = count_next (λ y. circling x y && eqb (root_of_class x y) r) (is_free x) 78 c h

  pub circled_few : (c r : ℕ) → circled_before x c r ≤ c
  unfolding circled_before free_classes
  circled_few c r = count-few (λ y. circling x y && eqb (root_of_class x y) r) (is_free x) 78 c

  -- the index of a class among those of its root
  pub root_index_lem : (c : ℕ) → root_index x.types (type_for x) (variant_for x) (free_classes x) c ≡ suc (circled_before x c (root_of_class x c))
  unfolding root_index circled_before circling root_of_class
  root_index_lem c = refl
