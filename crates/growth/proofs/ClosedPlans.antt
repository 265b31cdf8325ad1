-- Plans in closed form. Each of a list of classes comes with a type, with a variant with fields if that is a variant type,
-- and with a number for its end if growth leads to one. The classes that grow round a cycle are
-- counted by root: the i-th goes down to the root and then round it for i laps, a lap being the least whole number of
-- rounds that is longer than every rank and every distance together. So growths of one root differ by more than every rank,
-- even where one class starts farther from the root than another. Assumes nothing.
use mathlib.Core.Path.{◌≡◌, refl, ap, sym, ◌∙◌, subst}
use mathlib.Core.Bool.{Bool, true, false, cond, not, ◌&&◌, false≢true}
use Prim.Native.Nat.{ℕ, suc, ◌+◌, ◌*◌, ◌≤◌, ◌<◌, ◌-◌, ◌/◌}
use native.Mathlib.Omega.{arith}
use lib.Dec.{eqb, ltb}
use lib.ListN.{length}
use borrow.Author.Tests.{eqb-true, eq-eqb, ltb-true, ltb-false, lt-ltb, le-ltb}
use mathlib.Core.List.{[], List, Memᴰ}
use mathlib.Core.Option.{some}
use lib.IntN.{ℤ, pos}
use native.Mathlib.Nat.{mul-le-mul_right, div-add-mod', mod-lt}
use Rattle.laws.specs.Lists.{filter}
use Rattle.laws.proofs.Bools.{and_both, and_left, and_right, cond_ind}
use Rattle.laws.proofs.Lists.{none-some}
use Rattle.laws.proofs.Members.{filter_lt}
use Rattle.laws.proofs.Positions.{least_first, least_passes}
use Rattle.guard.specs.Meaning.{IsVariant}
use Rattle.guard.specs.Message.{Message, Message.made, Message.number, Parts.nil}
use Rattle.guard.specs.Types.{Types, fields_of, is_number}
use Rattle.growth.proofs.Growth.{TypesAccepted, chosen-infinite, chosen_type, distance_of, next-less, next_type, period_of, root_of, steps_to_number}
use Rattle.growth.proofs.Injective.{Kind, Kind.const, Kind.free, Kind.node}
use Rattle.growth.proofs.Orbit.{distance-less, distance-root, iterate, iterate_add, iterate_rounds, period-most, period_positive, period-root}
use Rattle.growth.proofs.Plans.{Plan, Plan.around, Plan.at_once, Plan.into, PlanFits, Planned, end_number, planned_message, root_by}

-- i laps and j laps with less than a lap's difference: i is j
same_lap : (i j lap k x y most far : ℕ) → x + i * lap ≡ k + (y + j * lap) → k ≤ most → x ≤ far → y ≤ far → most + far < lap → i ≡ j
same_lap i j lap k x y most far e hk hx hy hl = go (ltb i j) (ltb j i) refl refl
  where
    go : (p q : Bool) → ltb i j ≡ p → ltb j i ≡ q → i ≡ j
    go true q r s = let h : suc i * lap ≤ j * lap = mul-le-mul_right lap (ltb-true i j r) in absurd (omega arith)
    go false true r s = let h : suc j * lap ≤ i * lap = mul-le-mul_right lap (ltb-true j i s) in absurd (omega arith)
    go false false r s = omega (arith, ltb-false i j r, ltb-false j i s)

-- ---- laps round a cycle

module _ (ts : Types) (most : ℕ) where
  -- the least number of whole rounds from a root that is longer than every rank and every distance together
  unfoldable pub lap : ℕ → ℕ
  lap r = suc ((most + (length ts - 1)) / period_of ts r) * period_of ts r

  pub lap_long : (r : ℕ) → most + (length ts - 1) < lap r
  unfolding lap
  lap_long r = go (most + (length ts - 1)) (period_of ts r) (period_positive (next_type ts) (length ts) r)
    where
      go : (m p : ℕ) → 0 < p → m < suc (m / p) * p
      go m p h = omega (arith, div-add-mod' m p, mod-lt m h)

  pub lap_most_lem : (r : ℕ) → 0 < length ts → lap r ≤ most + (length ts - 1) + length ts
  unfolding lap
  lap_most_lem r h = go (most + (length ts - 1)) (period_of ts r) (period_positive (next_type ts) (length ts) r) (period-most (next_type ts) (length ts) r h)
    where
      go : (m p : ℕ) → 0 < p → p ≤ length ts → suc (m / p) * p ≤ m + length ts
      go m p h q = omega (arith, div-add-mod' m p, mod-lt m h)

  -- laps lead from a root back to it
  pub laps_back : TypesAccepted ts → (t k : ℕ) → t < length ts → iterate (next_type ts) (k * lap (root_of ts t)) (root_of ts t) ≡ root_of ts t
  unfolding lap
  laps_back accepted t k h =
      iterate_rounds (next_type ts) k (suc ((most + (length ts - 1)) / period_of ts (root_of ts t)) * period_of ts (root_of ts t)) (root_of ts t)
      (iterate_rounds (next_type ts) (suc ((most + (length ts - 1)) / period_of ts (root_of ts t))) (period_of ts (root_of ts t)) (root_of ts t)
      (period-root (next_type ts) (length ts) (next-less ts accepted) t h))

-- ---- the plans

module _ (ts : Types) (type variant_for : ℕ → ℕ) where
  -- the type where growth goes on from, and its root
  abbrev pub start_of : ℕ → ℕ
  start_of c = chosen_type ts (type c) (variant_for c)

  abbrev pub root_for : ℕ → ℕ
  root_for c = root_by ts (type c) (variant_for c)

  -- the class grows round a cycle
  abbrev pub circles : ℕ → Bool
  circles c = not (is_number ts (type c)) && not (ltb (steps_to_number ts (start_of c)) (length ts))

  module _ (classes : List ℕ) where
    -- the class is the i-th of those that grow round its root's cycle
    unfoldable pub root_index : ℕ → ℕ
    root_index c = suc (length (filter (λ x. ltb x c && (circles x && eqb (root_for x) (root_for c))) classes))

    index_positive : (c : ℕ) → 0 < root_index c
    unfolding root_index
    index_positive c = positive (length (filter (λ x. ltb x c && (circles x && eqb (root_for x) (root_for c))) classes))
      where
        positive : (n : ℕ) → 0 < suc n
        positive n = omega arith

    index_less : (u w : ℕ) → u < w → Memᴰ u classes → circles u ≡ true → root_for u ≡ root_for w → root_index u < root_index w
    unfolding root_index
    index_less u w h hu p e =
        suc_less (filter_lt (λ x. ltb x u && (circles x && eqb (root_for x) (root_for u))) (λ x. ltb x w && (circles x && eqb (root_for x) (root_for w))) classes
        (λ x m q. and_both (ltb x w) (circles x && eqb (root_for x) (root_for w)) (lt-ltb x w (omega (arith, ltb-true x u (and_left (ltb x u) _ q))))
        (and_both (circles x) (eqb (root_for x) (root_for w)) (and_left (circles x) _ (and_right (ltb x u) _ q))
        (eq-eqb (root_for x) (root_for w) (eqb-true (root_for x) (root_for u) (and_right (circles x) _ (and_right (ltb x u) _ q)) ∙ e))))
        u hu
        (ap (λ (b : Bool). b && (circles u && eqb (root_for u) (root_for u))) (le-ltb u u (omega arith)))
        (and_both (ltb u w) (circles u && eqb (root_for u) (root_for w)) (lt-ltb u w h) (and_both (circles u) (eqb (root_for u) (root_for w)) p (eq-eqb (root_for u) (root_for w) e))))
      where
        suc_less : {a b : ℕ} → a < b → suc a < suc b
        suc_less h = omega arith

    -- classes of one root have different indices
    index_once : (u w : ℕ) → Memᴰ u classes → Memᴰ w classes → circles u ≡ true → circles w ≡ true → root_for u ≡ root_for w → root_index u ≡ root_index w → w ≡ u
    index_once u w hu hw pu pw e q = go (ltb u w) (ltb w u) refl refl
      where
        go : (a b : Bool) → ltb u w ≡ a → ltb w u ≡ b → w ≡ u
        go true b r s = absurd (omega (arith, index_less u w (ltb-true u w r) hu pu e))
        go false true r s = absurd (omega (arith, index_less w u (ltb-true w u s) hw pw (sym e)))
        go false false r s = omega (arith, ltb-false u w r, ltb-false w u s)

    module _ (most : ℕ) where
      -- the steps that a class goes round for
      abbrev pub laps_of : ℕ → ℕ
      laps_of c = root_index c * lap ts most (root_for c)

      unfoldable pub closed_steps : ℕ → ℕ
      closed_steps c = distance_of ts (start_of c) + laps_of c

      pub laps_long : (c : ℕ) → most < laps_of c
      laps_long c =
          let h : 1 * lap ts most (root_for c) ≤ root_index c * lap ts most (root_for c) = mul-le-mul_right (lap ts most (root_for c)) (index_positive c) in
          omega (arith, lap_long ts most (root_for c))

      steps-long : (c : ℕ) → most < closed_steps c
      unfolding closed_steps
      steps-long c = omega (arith, laps_long c)

      module _ (accepted : TypesAccepted ts) where
        pub distance_to_root : (c : ℕ) → start_of c < length ts → iterate (next_type ts) (distance_of ts (start_of c)) (start_of c) ≡ root_for c
        distance_to_root c h = distance-root (next_type ts) (length ts) (next-less ts accepted) (start_of c) h

        steps_to_root : (c : ℕ) → start_of c < length ts → iterate (next_type ts) (closed_steps c) (start_of c) ≡ root_for c
        unfolding closed_steps
        steps_to_root c h =
            iterate_add (next_type ts) (distance_of ts (start_of c)) (laps_of c) (start_of c)
            ∙ ap (iterate (next_type ts) (laps_of c)) (distance_to_root c h) ∙ laps_back ts most accepted (start_of c) (root_index c) h

        pub distance_far : (c : ℕ) → start_of c < length ts → distance_of ts (start_of c) ≤ length ts - 1
        distance_far c h = omega (arith, distance-less (next_type ts) (length ts) (next-less ts accepted) (start_of c) h)

        steps_apart : (u w k : ℕ) → start_of u < length ts → start_of w < length ts → root_for u ≡ root_for w → closed_steps u ≡ k + closed_steps w → k ≤ most → root_index u ≡ root_index w
        unfolding closed_steps
        steps_apart u w k hu hw e q hk =
            same_lap (root_index u) (root_index w) (lap ts most (root_for u)) k (distance_of ts (start_of u)) (distance_of ts (start_of w)) most (length ts - 1)
            (q ∙ ap (λ (r : ℕ). k + (distance_of ts (start_of w) + root_index w * lap ts most r)) (sym e)) hk (distance_far u hu) (distance_far w hw) (lap_long ts most (root_for u))

      module _ (end_for : ℕ → ℤ) where
        unfoldable pub closed_plan : ℕ → Plan
        closed_plan c =
            cond (is_number ts (type c)) (at_once (end_for c))
            (cond (ltb (steps_to_number ts (start_of c)) (length ts)) (into (variant_for c) (steps_to_number ts (start_of c)) (end_for c)) (around (variant_for c) (closed_steps c)))

        pub closed_plan_ind : (P : Plan → Type 0) (c : ℕ) → (is_number ts (type c) ≡ true → P (at_once (end_for c)))
            → (is_number ts (type c) ≡ false → steps_to_number ts (start_of c) < length ts → P (into (variant_for c) (steps_to_number ts (start_of c)) (end_for c)))
            → (is_number ts (type c) ≡ false → circles c ≡ true → length ts ≤ steps_to_number ts (start_of c) → P (around (variant_for c) (closed_steps c))) → P (closed_plan c)
        unfolding closed_plan
        closed_plan_ind P c f g h =
            cond_ind P (is_number ts (type c)) _ _ f
            (λ e. cond_ind P (ltb (steps_to_number ts (start_of c)) (length ts)) _ _ (λ q. g e (ltb-true _ _ q))
            (λ q. h e (and_both (not (is_number ts (type c))) (not (ltb (steps_to_number ts (start_of c)) (length ts))) (ap not e) (ap not q)) (ltb-false _ _ q)))

        -- a message of a variant type has the variant given
        pub closed-variant : (c : ℕ) → is_number ts (type c) ≡ false → IsVariant (planned_message ts (type c) (closed_plan c)) (variant_for c)
        closed-variant c e = closed_plan_ind (λ p. IsVariant (planned_message ts (type c) p) (variant_for c)) c (λ n. absurd (false≢true (sym e ∙ n))) (λ n h. refl) (λ n h l. refl)

        -- a plan with a number at its end has the one given, and goes round no cycle
        closed_end : (c : ℕ) (z : ℤ) → end_number (closed_plan c) ≡ some z → (z ≡ end_for c) × (circles c ≡ false)
        closed_end c z =
            closed_plan_ind (λ p. end_number p ≡ some z → (z ≡ end_for c) × (circles c ≡ false)) c (λ n e. ((cc), ap (λ (b : Bool). not b && not (ltb (steps_to_number ts (start_of c)) (length ts))) n))
            (λ n h e. ((cc), ap (λ (b : Bool). not (is_number ts (type c)) && not b) (lt-ltb _ _ h) ∙ and_no (not (is_number ts (type c))))) (λ n h l e. absurd (none-some z e))
          where
            and_no : (b : Bool) → (b && false) ≡ false
            and_no true = refl
            and_no false = refl

        record Around (c v n : ℕ) : Type 0 where
          variant : v ≡ variant_for c
          number : n ≡ closed_steps c
          circling : circles c ≡ true
          variant_type : is_number ts (type c) ≡ false

        closed_around : (c v n : ℕ) → closed_plan c ≡ around v n → Around c v n
        closed_around c v n =
            closed_plan_ind (λ p. p ≡ around v n → Around c v n) c (λ e q. let y : ◌≡◌ {A = ℕ} 0 1 = cc in absurd (omega arith)) (λ e h q. let y : ◌≡◌ {A = ℕ} 0 1 = cc in absurd (omega arith))
            (λ e h l q. record { variant = (cc); number = (cc); circling = h; variant_type = e })

        closed-fits : TypesAccepted ts → (c : ℕ) → (is_number ts (type c) ≡ false → 0 < length (fields_of ts (type c) (variant_for c))) → PlanFits ts (type c) (closed_plan c)
        closed-fits accepted c wide =
            closed_plan_ind (PlanFits ts (type c)) c (λ e. e)
            (λ e h. (wide e, λ j l. least_first (λ k. is_number ts (iterate (next_type ts) k (start_of c))) (length ts) j l, least_passes (λ k. is_number ts (iterate (next_type ts) k (start_of c))) (length ts) h))
            (λ e h l. (
              wide e,
              λ j m. least_first (λ k. is_number ts (iterate (next_type ts) k (start_of c))) (length ts) j (omega arith),
              steps_to_root accepted c (chosen-infinite ts accepted (type c) (variant_for c) (wide e)).0,
            ))

        -- ---- what has to be shown of the classes for plans in closed form
        module _ (In : ℕ → Type 0) (kind : ℕ → Kind) (val : ℕ → Message) where
          pub record Choices : Type 0 where
            pub few : (c : ℕ) → In c → kind c ≡ free → Memᴰ c classes
            pub wide : (c : ℕ) → In c → kind c ≡ free → is_number ts (type c) ≡ false → 0 < length (fields_of ts (type c) (variant_for c))
            -- numbers at ends: no constants, different, not 0
            pub fresh : (u w : ℕ) → In u → kind u ≡ free → circles u ≡ false → In w → ¬ (kind w ≡ const (end_for u))
            pub own : (u w : ℕ) → In u → kind u ≡ free → circles u ≡ false → In w → kind w ≡ free → circles w ≡ false → end_for u ≡ end_for w → w ≡ u
            pub nonzero : (u : ℕ) → In u → kind u ≡ free → circles u ≡ false → ¬ (end_for u ≡ pos 0)
            -- messages
            pub free-val : (c : ℕ) → In c → kind c ≡ free → val c ≡ planned_message ts (type c) (closed_plan c)
            pub node-val : (c v : ℕ) → In c → kind c ≡ node v [] → val c ≡ made (type c) v nil
            pub const-val : (c : ℕ) (z : ℤ) → In c → kind c ≡ const z → val c ≡ number (type c) z

          pub closed_planned : TypesAccepted ts → Choices → Planned ts In type kind val most closed_plan
          closed_planned accepted ch =
              record {
                fits = λ c i f. closed-fits accepted c (ch.wide c i f);
                free-val = ch.free-val;
                node-val = ch.node-val;
                const-val = ch.const-val;
                fresh = λ u w z i f e iw k. ch.fresh u w i f (closed_end u z e).1 iw (k ∙ ap const (closed_end u z e).0);
                own = λ u w z i f e iw fw ew. ch.own u w i f (closed_end u z e).1 iw fw (closed_end w z ew).1 (sym (closed_end u z e).0 ∙ (closed_end w z ew).0);
                nonzero = λ u i f e. ch.nonzero u i f (closed_end u (pos 0) e).1 (sym (closed_end u (pos 0) e).0);
                long = λ u v n i f e. subst (λ (k : ℕ). most < k) (sym (closed_around u v n e).number) (steps-long u);
                gap = λ u w v x n k i f e iw fw ew r hk. close u w v x n k i f iw fw (closed_around u v (k + n) e) (closed_around w x n ew) r hk;
              }
            where
              start-less : (c : ℕ) → In c → kind c ≡ free → is_number ts (type c) ≡ false → start_of c < length ts
              start-less c i f e = (chosen-infinite ts accepted (type c) (variant_for c) (ch.wide c i f e)).0

              close : (u w v x n k : ℕ) → In u → kind u ≡ free → In w → kind w ≡ free → Around u v (k + n) → Around w x n → root_by ts (type u) v ≡ root_by ts (type w) x → k ≤ most → w ≡ u
              close u w v x n k i f iw fw a b r hk =
                  let e : root_for u ≡ root_for w = ap (root_by ts (type u)) (sym a.variant) ∙ r ∙ ap (root_by ts (type w)) b.variant in
                  let q : closed_steps u ≡ k + closed_steps w = sym a.number ∙ ap (λ (m : ℕ). k + m) b.number in
                  index_once u w (ch.few u i f) (ch.few w iw fw) a.circling b.circling e
                  (steps_apart accepted u w k (start-less u i f a.variant_type) (start-less w iw fw b.variant_type) e q hk)
