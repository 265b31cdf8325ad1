-- Plans: which message a free class gets. A class of a number type gets a number. Any other gets a variant with fields,
-- and from its chosen field growth goes on into a number type, to a number, or round a cycle of types, to the default of the
-- cycle's root. `Planned` says what has to be shown of the plans of all free classes, however they are found: numbers at
-- ends are no constants, nobody else's and not 0, since paths of defaults may end in 0; growth round a cycle ends at the
-- root, is longer than any rank, and differs from that of another class with the same root by more than any rank. Then all
-- messages belong to their types and lie apart. Assumes nothing.
use mathlib.Core.Path.{◌≡◌, refl, ap, sym, ◌∙◌, subst}
use mathlib.Core.Bool.{true, false, false≢true}
use Prim.Native.Nat.{ℕ, ◌+◌, ◌≤◌, ◌<◌}
use native.Mathlib.Omega.{arith}
use lib.ListN.{length}
use mathlib.Core.List.{[]}
use mathlib.Core.Option.{Option, none, some}
use lib.IntN.{ℤ, pos}
use Rattle.guard.specs.Meaning.{Belongs, IsVariant}
use Rattle.guard.specs.Message.{Message, Message.made, Message.number, Parts.nil}
use Rattle.guard.specs.Types.{Types, default_of, fields_of, is_number}
use Rattle.growth.proofs.Grow.{Grown, How, How.ending, How.turning, apart}
use Rattle.growth.proofs.Growth.{Cyclic, GrowsBy, TypesAccepted, chosen-infinite, chosen-inside, chosen_field, chosen_type, cyclic_grows, cyclic_growth, cyclic_less, cyclic_of, cyclic_rooted, cyclic_stays, default-ends_in_zero, default_of-belongs, grow-belongs, grow_from, growing_variant, growth-before, next-less, next_type, path_end_grow, path_end_wrap, root_of, wrap_belongs, wrap_in}
use Rattle.growth.proofs.Injective.{Kind, Kind.const, Kind.free, Kind.node, Leaf}
use Rattle.growth.proofs.Orbit.{iterate, root-less}
use Rattle.growth.proofs.Paths.{down, end}

pub data Plan : Type 0 where
  -- the number itself, at a number type
  at_once : ℤ → Plan
  -- by a variant, and after so many steps the number
  into : ℕ → ℕ → ℤ → Plan
  -- by a variant, and after so many steps the default of the root
  around : ℕ → ℕ → Plan

-- the number at the end, where growth ends in one
abbrev pub end_number : Plan → Option ℤ
end_number (at_once z) = some z
end_number (into v d z) = some z
end_number (around v n) = none

-- the variant that the message has, where it has one
abbrev pub plan_variant : Plan → Option ℕ
plan_variant (at_once z) = none
plan_variant (into v d z) = some v
plan_variant (around v n) = some v

module _ (ts : Types) where
  -- the root of growth from a type by a variant
  abbrev pub root_by : ℕ → ℕ → ℕ
  root_by t v = root_of ts (chosen_type ts t v)

  -- the message of a plan at a type
  abbrev pub planned_message : ℕ → Plan → Message
  planned_message t (at_once z) = number t z
  planned_message t (into v d z) = wrap_in ts t v (grow_from ts d (chosen_type ts t v) (number (iterate (next_type ts) d (chosen_type ts t v)) z))
  planned_message t (around v n) = wrap_in ts t v (grow_from ts n (chosen_type ts t v) (default_of ts (root_by t v)))

  -- the plan is one for the type
  abbrev pub PlanFits : ℕ → Plan → Type 0
  PlanFits t (at_once z) = is_number ts t ≡ true
  PlanFits t (into v d z) =
      (0 < length (fields_of ts t v)) × ((j : ℕ) → j < d → is_number ts (iterate (next_type ts) j (chosen_type ts t v)) ≡ false) × (is_number ts (iterate (next_type ts) d (chosen_type ts t v)) ≡ true)
  PlanFits t (around v n) =
      (0 < length (fields_of ts t v)) × ((j : ℕ) → j < length ts → is_number ts (iterate (next_type ts) j (chosen_type ts t v)) ≡ false) × (iterate (next_type ts) n (chosen_type ts t v) ≡ root_by t v)

  abbrev pub how_planned : ℕ → Plan → How
  how_planned t (at_once z) = ending t z
  how_planned t (into v d z) = ending (iterate (next_type ts) d (chosen_type ts t v)) z
  how_planned t (around v n) = turning v n

  module _ (accepted : TypesAccepted ts) where
    around_cyclic : (t v n : ℕ) → PlanFits t (around v n) → Cyclic ts (chosen_type ts t v)
    around_cyclic t v n f = cyclic_of ts accepted (chosen_type ts t v) (chosen-infinite ts accepted t v f.0) f.1

    into_growth : (t v d : ℕ) (z : ℤ) → PlanFits t (into v d z) → GrowsBy ts d (chosen_type ts t v)
    into_growth t v d z f = growth-before ts accepted d (chosen_type ts t v) (chosen-infinite ts accepted t v f.0) f.1

    pub planned_belongs : (t : ℕ) (p : Plan) → PlanFits t p → Belongs ts (planned_message t p) t
    planned_belongs t (at_once z) f = (refl, f)
    planned_belongs t (into v d z) f =
        wrap_belongs ts accepted t v (grow_from ts d (chosen_type ts t v) (number (iterate (next_type ts) d (chosen_type ts t v)) z)) f.0
        (grow-belongs ts accepted d (chosen_type ts t v) (number (iterate (next_type ts) d (chosen_type ts t v)) z) (into_growth t v d z f) (refl, f.2))
    planned_belongs t (around v n) f =
        let c : Cyclic ts (chosen_type ts t v) = around_cyclic t v n f in
        wrap_belongs ts accepted t v (grow_from ts n (chosen_type ts t v) (default_of ts (root_by t v))) f.0
        (grow-belongs ts accepted n (chosen_type ts t v) (default_of ts (root_by t v)) (cyclic_growth ts accepted n (chosen_type ts t v) c)
        (subst (Belongs ts (default_of ts (root_by t v))) (sym f.2)
        (default_of-belongs ts accepted (root_by t v) (root-less (next_type ts) (length ts) (next-less ts accepted) (chosen_type ts t v) (cyclic_less ts accepted (chosen_type ts t v) c)))))

    -- a message of a variant type has the plan's variant
    pub planned_variant : (t : ℕ) (p : Plan) → PlanFits t p → is_number ts t ≡ false → (v : ℕ) × (plan_variant p ≡ some v) × IsVariant (planned_message t p) v
    planned_variant t (at_once z) f e = absurd (false≢true (sym e ∙ f))
    planned_variant t (into v d z) f e = (v, refl, refl)
    planned_variant t (around v n) f e = (v, refl, refl)

    planned_end : (t : ℕ) (p : Plan) (u : ℕ) (z : ℤ) → PlanFits t p → how_planned t p ≡ ending u z → (end (chosen_field ts) (planned_message t p) ≡ number u z) × (end_number p ≡ some z)
    planned_end t (at_once y) u z f e = (cc, cc)
    planned_end t (into v d y) u z f e =
        let a : number (iterate (next_type ts) d (chosen_type ts t v)) y ≡ number u z = cc in (
          path_end_wrap ts accepted t v (grow_from ts d (chosen_type ts t v) (number (iterate (next_type ts) d (chosen_type ts t v)) y)) f.0
              ∙ path_end_grow ts accepted d (chosen_type ts t v) (number (iterate (next_type ts) d (chosen_type ts t v)) y) (into_growth t v d y f) ∙ a,
          cc,
        )
    planned_end t (around v n) u z f e = let y : ◌≡◌ {A = ℕ} 0 1 = cc in absurd (omega arith)

  planned_turn : (t : ℕ) (p : Plan) (v n : ℕ) → how_planned t p ≡ turning v n → p ≡ around v n
  planned_turn t (at_once y) v n e = let y : ◌≡◌ {A = ℕ} 0 1 = cc in absurd (omega arith)
  planned_turn t (into w d y) v n e = let y : ◌≡◌ {A = ℕ} 0 1 = cc in absurd (omega arith)
  planned_turn t (around w m) v n e = cc

  -- ---- what has to be shown of the plans of all free classes
  module _ (In : ℕ → Type 0) (type : ℕ → ℕ) (kind : ℕ → Kind) (val : ℕ → Message) (most : ℕ) (plan : ℕ → Plan) where
    pub record Planned : Type 0 where
      pub fits : (c : ℕ) → In c → kind c ≡ free → PlanFits (type c) (plan c)
      -- messages
      pub free-val : (c : ℕ) → In c → kind c ≡ free → val c ≡ planned_message (type c) (plan c)
      pub node-val : (c v : ℕ) → In c → kind c ≡ node v [] → val c ≡ made (type c) v nil
      pub const-val : (c : ℕ) (z : ℤ) → In c → kind c ≡ const z → val c ≡ number (type c) z
      -- numbers at ends
      pub fresh : (u w : ℕ) (z : ℤ) → In u → kind u ≡ free → end_number (plan u) ≡ some z → In w → kind w ≡ const z → ⊥
      pub own : (u w : ℕ) (z : ℤ) → In u → kind u ≡ free → end_number (plan u) ≡ some z → In w → kind w ≡ free → end_number (plan w) ≡ some z → w ≡ u
      pub nonzero : (u : ℕ) → In u → kind u ≡ free → ¬ (end_number (plan u) ≡ some (pos 0))
      -- growth round a cycle
      pub long : (u v n : ℕ) → In u → kind u ≡ free → plan u ≡ around v n → most < n
      pub gap : (u w v x n k : ℕ) → In u → kind u ≡ free → plan u ≡ around v (k + n) → In w → kind w ≡ free → plan w ≡ around x n → root_by (type u) v ≡ root_by (type w) x → k ≤ most → w ≡ u

    module _ (accepted : TypesAccepted ts) (pl : Planned) where
      pub free-belongs : (c : ℕ) → In c → kind c ≡ free → Belongs ts (val c) (type c)
      free-belongs c i f = subst (λ (m : Message). Belongs ts m (type c)) (sym (pl.free-val c i f)) (planned_belongs accepted (type c) (plan c) (pl.fits c i f))

      pub free-variant : (c : ℕ) → In c → kind c ≡ free → is_number ts (type c) ≡ false → (v : ℕ) × (plan_variant (plan c) ≡ some v) × IsVariant (val c) v
      free-variant c i f e =
          let (v, q, h) = planned_variant accepted (type c) (plan c) (pl.fits c i f) e in
          (v, q, subst (λ (m : Message). IsVariant m v) (sym (pl.free-val c i f)) h)

      ended : (c u : ℕ) (z : ℤ) → In c → kind c ≡ free → how_planned (type c) (plan c) ≡ ending u z → (end (chosen_field ts) (val c) ≡ number u z) × (end_number (plan c) ≡ some z)
      ended c u z i f e =
          let (a, b) = planned_end accepted (type c) (plan c) u z (pl.fits c i f) e in
          (ap (end (chosen_field ts)) (pl.free-val c i f) ∙ a, b)

      turned : (c v n : ℕ) → In c → kind c ≡ free → plan c ≡ around v n
          → (0 < length (fields_of ts (type c) v)) × Cyclic ts (chosen_type ts (type c) v) × (val c ≡ planned_message (type c) (around v n))
      turned c v n i f e =
          let h : PlanFits (type c) (around v n) = subst (PlanFits (type c)) e (pl.fits c i f) in
          (h.0, around_cyclic accepted (type c) v n h, pl.free-val c i f ∙ ap (planned_message (type c)) e)

      pub planned_grown : Grown (chosen_field ts) (fields_of ts) (default_of ts) (growing_variant ts) In type kind val most (Cyclic ts) (root_of ts) (default_of ts) (λ c. how_planned (type c) (plan c))
      planned_grown =
          record {
            inside = chosen-inside ts accepted;
            grows = cyclic_grows ts accepted;
            stays = cyclic_stays ts accepted;
            rooted = cyclic_rooted ts accepted;
            node-val = pl.node-val;
            const-val = pl.const-val;
            ends = λ u t z i f h. (ended u t z i f h).0;
            fresh = λ u w t z i f h iw kw tw. pl.fresh u w z i f (ended u t z i f h).1 iw kw;
            own = λ u w t z i f h iw fw hw. pl.own u w z i f (ended u t z i f h).1 iw fw (ended w t z iw fw hw).1;
            plain = λ r u t z i f h e. pl.nonzero u i f ((ended u t z i f h).1 ∙ ap some (default-ends_in_zero ts r t z e));
            turns = λ u v n i f h. turned u v n i f (planned_turn (type u) (plan u) v n h);
            long = λ u v n i f h. pl.long u v n i f (planned_turn (type u) (plan u) v n h);
            gap = λ u w v x n k i f h iw fw hw e hk. pl.gap u w v x n k i f (planned_turn (type u) (plan u) v (k + n) h) iw fw (planned_turn (type w) (plan w) x n hw) e hk;
          }

      -- no other leaf lies on the first stretch of a free class's path: `apart` of `Open`
      pub planned_apart : (w u k : ℕ) → In w → In u → Leaf (kind w) → kind u ≡ free → k ≤ most → down (chosen_field ts) k (val u) ≡ val w → w ≡ u
      planned_apart =
          apart (chosen_field ts) (fields_of ts) (default_of ts) (growing_variant ts) In type kind val most (Cyclic ts) (root_of ts) (default_of ts) (λ c. how_planned (type c) (plan c)) planned_grown
