-- The plan of a class, case by case: at a number type the fresh number; else into a number type, or round a cycle for as many
-- laps as the class's place among those of its root. And what each case does to the counts. Assumes nothing.
use mathlib.Core.Path.{◌≡◌, refl, ap, ◌∙◌}
use mathlib.Core.Bool.{Bool, true, false, cond, not, ◌&&◌}
use mathlib.Core.List.{List}
use Prim.Native.Nat.{ℕ, zero, suc, ◌+◌, ◌*◌, ◌≤◌, ◌<◌, max}
use native.Mathlib.Nat.{add-zero}
use native.Mathlib.Numerals.{add-one}
use native.Mathlib.Omega.{arith}
use lib.Dec.{eqb, ltb}
use lib.ListN.{get_or, length}
use borrow.Author.Tests.{eq-eqb, le-ltb, lt-ltb, ne_eqb}
use Rattle.laws.proofs.Bools.{and_both}
use Rattle.guard.specs.Closure.{State}
use Rattle.guard.specs.Guard.{Guard}
use Rattle.guard.specs.Types.{is_number}
use Rattle.growth.proofs.ClosedPlans.{closed_plan, closed_steps, lap, start_of}
use Rattle.growth.proofs.Growth.{distance_of, steps_to_number}
use Rattle.growth.proofs.Plans.{Plan, Plan.around, Plan.at_once, Plan.into}
use Rattle.arrays.specs.Arrays.{shapes_of}
use Rattle.ranks.proofs.RankLaws.{ranks-small}
use Rattle.plans.specs.Chosen.{higher_at, highest_below, highest_of, is_marked}
use Rattle.plans.specs.Fresh.{fresh_after}
use Rattle.plans.specs.Plans.{OpenState, circled_before, circling, end_for, ends_before, free_classes, highest_rank, is_free, open_of, plan_for, root_of_class, type_for, variant_for}
use Rattle.plans.proofs.Counting.{one}
use Rattle.plans.proofs.CountLaws.{circled_next, ends-few, ends_next, root_index_lem}
use Rattle.plans.proofs.FreshLaws.{fresh-few}

and_no : (b : Bool) → (b && false) ≡ false
and_no true = refl
and_no false = refl

module _ (x : OpenState) (c : ℕ) where
  -- the type where growth goes on from
  abbrev pub start_for : ℕ
  start_for = start_of x.types (type_for x) (variant_for x) c

  -- the steps that a class goes for, to its root and round it
  unfoldable pub steps_for : ℕ
  steps_for = distance_of x.types start_for + suc (circled_before x c (root_of_class x c)) * lap x.types (highest_rank x) (root_of_class x c)

  -- ---- at a number type

  pub plan_number : is_number x.types (type_for x c) ≡ true → plan_for x c ≡ at_once (end_for x c)
  unfolding plan_for closed_plan
  plan_number e = ap (λ (b : Bool). cond b (at_once (end_for x c)) after) e
    where
      after : Plan
      after =
          cond (ltb (steps_to_number x.types start_for) (length x.types)) (into (variant_for x c) (steps_to_number x.types start_for) (end_for x c))
          (around (variant_for x c) (closed_steps x.types (type_for x) (variant_for x) (free_classes x) (highest_rank x) c))

  pub number-ends : is_number x.types (type_for x c) ≡ true → circling x c ≡ false
  unfolding circling
  number-ends e = ap (λ (b : Bool). not b && not (ltb (steps_to_number x.types start_for) (length x.types))) e

  -- ---- at a variant type

  module _ (variants : is_number x.types (type_for x c) ≡ false) where
    pub plan_into : steps_to_number x.types start_for < length x.types → plan_for x c ≡ into (variant_for x c) (steps_to_number x.types start_for) (end_for x c)
    unfolding plan_for closed_plan
    plan_into h = ap (λ (b : Bool). cond b (at_once (end_for x c)) after) variants ∙ ap (λ (b : Bool). cond b (into (variant_for x c) (steps_to_number x.types start_for) (end_for x c)) rest) (lt-ltb _ _ h)
      where
        rest : Plan
        rest = around (variant_for x c) (closed_steps x.types (type_for x) (variant_for x) (free_classes x) (highest_rank x) c)

        after : Plan
        after = cond (ltb (steps_to_number x.types start_for) (length x.types)) (into (variant_for x c) (steps_to_number x.types start_for) (end_for x c)) rest

    pub into_ends : steps_to_number x.types start_for < length x.types → circling x c ≡ false
    unfolding circling
    into_ends h = ap (λ (b : Bool). not (is_number x.types (type_for x c)) && not b) (lt-ltb _ _ h) ∙ and_no (not (is_number x.types (type_for x c)))

    steps-are : closed_steps x.types (type_for x) (variant_for x) (free_classes x) (highest_rank x) c ≡ steps_for
    unfolding closed_steps steps_for root_of_class
    steps-are = ap (λ (i : ℕ). distance_of x.types start_for + i * lap x.types (highest_rank x) (root_of_class x c)) (root_index_lem x c)

    pub plan_around : length x.types ≤ steps_to_number x.types start_for → plan_for x c ≡ around (variant_for x c) steps_for
    unfolding plan_for closed_plan
    plan_around h =
        ap (λ (b : Bool). cond b (at_once (end_for x c)) after) variants
        ∙ ap (λ (b : Bool). cond b (into (variant_for x c) (steps_to_number x.types start_for) (end_for x c)) rest) (le-ltb _ _ h) ∙ ap (around (variant_for x c)) steps-are
      where
        rest : Plan
        rest = around (variant_for x c) (closed_steps x.types (type_for x) (variant_for x) (free_classes x) (highest_rank x) c)

        after : Plan
        after = cond (ltb (steps_to_number x.types start_for) (length x.types)) (into (variant_for x c) (steps_to_number x.types start_for) (end_for x c)) rest

    pub around_circles : length x.types ≤ steps_to_number x.types start_for → circling x c ≡ true
    unfolding circling
    around_circles h = and_both (not (is_number x.types (type_for x c))) _ (ap not variants) (ap not (le-ltb _ _ h))

  -- ---- counts

  module _ (inside : c < 78) where
    more : (n : ℕ) {b : Bool} → b ≡ true → n + one b ≡ suc n
    more n e = ap (λ (b : Bool). n + one b) e ∙ add-one n

    same : (n : ℕ) {b : Bool} → b ≡ false → n + one b ≡ n
    same n e = ap (λ (b : Bool). n + one b) e ∙ add-zero n

    pub ends_more : is_free x c ≡ true → circling x c ≡ false → ends_before x (suc c) ≡ suc (ends_before x c)
    ends_more f e = ends_next x c inside ∙ more (ends_before x c) (and_both (is_free x c) _ f (ap not e))

    pub ends_fixed : is_free x c ≡ false → ends_before x (suc c) ≡ ends_before x c
    ends_fixed f = ends_next x c inside ∙ same (ends_before x c) (ap (λ (b : Bool). b && not (circling x c)) f)

    pub ends-circling : circling x c ≡ true → ends_before x (suc c) ≡ ends_before x c
    ends-circling e = ends_next x c inside ∙ same (ends_before x c) (ap (λ (b : Bool). is_free x c && not b) e ∙ and_no (is_free x c))

    pub circled_more : (r : ℕ) → is_free x c ≡ true → circling x c ≡ true → root_of_class x c ≡ r → circled_before x (suc c) r ≡ suc (circled_before x c r)
    circled_more r f e q = circled_next x c r inside ∙ more (circled_before x c r) (and_both (is_free x c) _ f (and_both (circling x c) _ e (eq-eqb _ _ q)))

    pub circled_fixed : (r : ℕ) → is_free x c ≡ false → circled_before x (suc c) r ≡ circled_before x c r
    circled_fixed r f = circled_next x c r inside ∙ same (circled_before x c r) (ap (λ (b : Bool). b && (circling x c && eqb (root_of_class x c) r)) f)

    pub circled_ends : (r : ℕ) → circling x c ≡ false → circled_before x (suc c) r ≡ circled_before x c r
    circled_ends r e = circled_next x c r inside ∙ same (circled_before x c r) (ap (λ (b : Bool). is_free x c && (b && eqb (root_of_class x c) r)) e ∙ and_no (is_free x c))

    pub circled_other : (r : ℕ) → ¬ (root_of_class x c ≡ r) → circled_before x (suc c) r ≡ circled_before x c r
    circled_other r n =
        circled_next x c r inside ∙ same (circled_before x c r) (ap (λ (b : Bool). is_free x c && (circling x c && b)) (ne_eqb _ _ n) ∙ ap (λ (b : Bool). is_free x c && b) (and_no (circling x c)) ∙ and_no (is_free x c))

  -- the last fresh number that is used below a class
  pub fresh-small : c ≤ 78 → fresh_after x.constants x.values (ends_before x c) ≤ 2418
  fresh-small h = omega (arith, fresh-few x.constants x.values (ends_before x c), ends-few x c)

-- ---- the highest rank

highest-most : (marks ranks : List ℕ) (m : ℕ) → ((c : ℕ) → get_or ranks c 0 ≤ m) → (n : ℕ) → highest_below marks ranks n ≤ m
unfolding highest_below higher_at
highest-most marks ranks m h zero = omega arith
highest-most marks ranks m h (suc n) = go (is_marked marks n) (highest-most marks ranks m h n)
  where
    go : (b : Bool) → highest_below marks ranks n ≤ m → cond b (max (highest_below marks ranks n) (get_or ranks n 0)) (highest_below marks ranks n) ≤ m
    go true l = omega (arith, h n)
    go false l = l

-- no higher than all ranks
pub highest-small : (x : OpenState) (m : ℕ) → ((c : ℕ) → get_or x.ranks c 0 ≤ m) → highest_rank x ≤ m
unfolding highest_rank highest_of
highest-small x m h = highest-most x.marks x.ranks m h 78

-- ranks found in rounds are at most 31
pub highest-found : (g : Guard) (s : State) (marks : List ℕ) → highest_rank (open_of g s marks) ≤ 31
highest-found g s marks = highest-small (open_of g s marks) 31 (ranks-small (shapes_of g) s)
