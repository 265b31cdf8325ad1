-- Growth from a type. A type grows by its lowest variant with fields, in that variant's first infinite field; the other
-- fields are defaults. By question 9 every variant with fields has an infinite field, and an infinite variant type has
-- such a variant; so growth goes on from an infinite type to an infinite type until it meets a number type, within as many
-- steps as there are types, or else goes round a cycle of types for ever. Grown messages belong to their types, and
-- the number at the end of a default's path is 0. Assumes nothing.
use mathlib.Core.Path.{◌≡◌, refl, ap, sym, ◌∙◌, subst}
use mathlib.Core.Bool.{Bool, true, false, false≢true}
use mathlib.Core.List.{List, [], ◌∷◌, map}
use Prim.Native.Nat.{ℕ, zero, suc, ◌≤◌, ◌<◌}
use native.Mathlib.Omega.{arith}
use lib.ListN.{length, get_or, get_or-eq_default}
use borrow.Author.Tests.{ltb-true, ltb-false, lt-ltb}
use lib.Dec.{ltb}
use mathlib.Core.Option.{Option, none, some}
use lib.IntN.{ℤ, pos}
use Rattle.laws.specs.All.{All, All.more, All.none}
use Rattle.laws.proofs.Lists.{all_get_d}
use Rattle.laws.proofs.Positions.{least, least_le, least_passes}
use Rattle.guard.specs.Guard.{Guard}
use Rattle.guard.specs.Limits.{Limits}
use Rattle.guard.specs.Meaning.{BelongAll, Belongs}
use Rattle.guard.specs.Message.{Message, Message.made, Message.number, Parts, to_parts}
use Rattle.guard.specs.Types.{Types, default_of, defaults, field_type, fields_of, infinite_fields, is_number, or_none, variants_of}
use Rattle.guard.specs.WellFormed.{WellFormed}
use Rattle.guard.proofs.DefaultLaws.{Each, Each.each_cons, Each.each_nil, default-belongs, default_ind}
use Rattle.guard.proofs.FiniteTypes.{infinite, infinite-field, infinite-variant, variant-inside}
use Rattle.growth.proofs.Grow.{Growing, chosen, cyclic_growing, end_grow, end_wrap, fill, grow, onward, wrap}
use Rattle.growth.proofs.Orbit.{distance, iterate, orbit_within, period, root, root_step}
use Rattle.growth.proofs.Paths.{end, end_at}

-- what growth needs of the types: questions 8 and 9, and field types in range
pub record TypesAccepted (ts : Types) : Type 0 where
  pub field_types : (t v : ℕ) → All (λ f. f < length ts) (fields_of ts t v)
  pub ready : (t : ℕ) → t < length ts → (m : Message) × (get_or (defaults ts) t none ≡ some m)
  pub infinite : infinite_fields ts ≡ true

pub types-accepted : (limits : Limits) (g : Guard) → WellFormed limits g → TypesAccepted g.types
types-accepted limits g w = record { field_types = w.field_types; ready = w.ready; infinite = w.infinite }

module _ (ts : Types) where
  -- the first infinite field of a variant
  abbrev pub chosen_field : ℕ → ℕ → ℕ
  chosen_field t v = least (λ p. infinite ts (field_type ts t v p)) (length (fields_of ts t v))

  -- the lowest variant with fields
  abbrev pub growing_variant : ℕ → ℕ
  growing_variant t = least (λ v. ltb 0 (length (fields_of ts t v))) (length (variants_of ts t))

  -- the type of a variant's chosen field
  abbrev pub chosen_type : ℕ → ℕ → ℕ
  chosen_type = chosen chosen_field (fields_of ts) (default_of ts) growing_variant

  -- the type that growth goes on to
  abbrev pub next_type : ℕ → ℕ
  next_type = onward chosen_field (fields_of ts) (default_of ts) growing_variant

  -- a variant over a message in its chosen field and defaults in the others
  abbrev pub wrap_in : ℕ → ℕ → Message → Message
  wrap_in = wrap chosen_field (fields_of ts) (default_of ts) growing_variant

  -- n steps of growth from a type to what stands at the end
  abbrev pub grow_from : ℕ → ℕ → Message → Message
  grow_from = grow chosen_field (fields_of ts) (default_of ts) growing_variant

  -- each of n steps of growth from a type is by a variant with fields
  abbrev pub GrowsBy : ℕ → ℕ → Type 0
  GrowsBy = Growing chosen_field (fields_of ts) (default_of ts) growing_variant

  -- the lowest type of the cycle that growth from a type ends in, the least number of steps to it, and the cycle's length
  abbrev pub root_of : ℕ → ℕ
  root_of = root next_type (length ts)

  abbrev pub distance_of : ℕ → ℕ
  distance_of = distance next_type (length ts)

  abbrev pub period_of : ℕ → ℕ
  period_of = period next_type (length ts)

  -- the least number of steps of growth to a number type, or the number of types where there is none
  abbrev pub steps_to_number : ℕ → ℕ
  steps_to_number t = least (λ k. is_number ts (iterate next_type k t)) (length ts)

  -- an infinite type of the list
  abbrev pub Infinite : ℕ → Type 0
  Infinite t = (t < length ts) × (infinite ts t ≡ true)

  -- growth from the type meets no number type
  unfoldable pub Cyclic : ℕ → Type 0
  Cyclic t = Infinite t × ((k : ℕ) → is_number ts (iterate next_type k t) ≡ false)

  module _ (accepted : TypesAccepted ts) where
    chosen-found : (t v : ℕ) → 0 < length (fields_of ts t v) → (chosen_field t v < length (fields_of ts t v)) × (infinite ts (field_type ts t v (chosen_field t v)) ≡ true)
    chosen-found t v h =
        let (p, l, e) = infinite-field ts accepted.infinite t v h in
        let a : chosen_field t v ≤ p = least_le (λ p. infinite ts (field_type ts t v p)) (length (fields_of ts t v)) p e in
        (omega arith, least_passes (λ p. infinite ts (field_type ts t v p)) (length (fields_of ts t v)) (omega arith))

    pub chosen-inside : (t v : ℕ) → 0 < length (fields_of ts t v) → chosen_field t v < length (fields_of ts t v)
    chosen-inside t v h = (chosen-found t v h).0

    pub chosen-infinite : (t v : ℕ) → 0 < length (fields_of ts t v) → Infinite (chosen_type t v)
    chosen-infinite t v h = let (l, e) = chosen-found t v h in (all_get_d (accepted.field_types t v) (chosen_field t v) 0 l, e)

    -- the chosen type is in range; where the variant has no fields it is type 0
    pub chosen_less : 0 < length ts → (t v : ℕ) → chosen_type t v < length ts
    chosen_less h t v = go (ltb (chosen_field t v) (length (fields_of ts t v))) refl
      where
        go : (b : Bool) → ltb (chosen_field t v) (length (fields_of ts t v)) ≡ b → field_type ts t v (chosen_field t v) < length ts
        go true e = all_get_d (accepted.field_types t v) (chosen_field t v) 0 (ltb-true _ _ e)
        go false e = let q : field_type ts t v (chosen_field t v) ≡ 0 = get_or-eq_default (fields_of ts t v) 0 (ltb-false _ _ e) in omega arith

    pub next-less : (t : ℕ) → t < length ts → next_type t < length ts
    next-less t h = chosen_less (omega arith) t (growing_variant t)

    -- an infinite variant type grows
    infinite_grows : (t : ℕ) → Infinite t → is_number ts t ≡ false → 0 < length (fields_of ts t (growing_variant t))
    infinite_grows t (l, i) e =
        let (v, hv, (p, hp, q)) = infinite-variant ts t e i in
        let a : growing_variant t ≤ v = least_le (λ v. ltb 0 (length (fields_of ts t v))) (length (variants_of ts t)) v (lt-ltb 0 (length (fields_of ts t v)) (omega arith)) in
        ltb-true 0 (length (fields_of ts t (growing_variant t))) (least_passes (λ v. ltb 0 (length (fields_of ts t v))) (length (variants_of ts t)) (omega arith))

    -- ---- into a number type, or round a cycle

    -- no number type within as many steps as types: none at all
    pub cyclic_of : (t : ℕ) → Infinite t → ((j : ℕ) → j < length ts → is_number ts (iterate next_type j t) ≡ false) → Cyclic t
    unfolding Cyclic
    cyclic_of t i f = (i, λ k. let (j, l, e) = orbit_within next_type (length ts) next-less t i.0 k in ap (is_number ts) (sym e) ∙ f j l)

    pub cyclic_less : (t : ℕ) → Cyclic t → t < length ts
    unfolding Cyclic
    cyclic_less t (i, f) = i.0

    pub cyclic_grows : (t : ℕ) → Cyclic t → 0 < length (fields_of ts t (growing_variant t))
    unfolding Cyclic
    cyclic_grows t (i, f) = infinite_grows t i (f 0)

    pub cyclic_stays : (t : ℕ) → Cyclic t → Cyclic (next_type t)
    unfolding Cyclic
    cyclic_stays t (i, f) = (chosen-infinite t (growing_variant t) (infinite_grows t i (f 0)), λ k. f (suc k))

    pub cyclic_rooted : (t : ℕ) → Cyclic t → root_of (next_type t) ≡ root_of t
    cyclic_rooted t c = root_step next_type (length ts) next-less t (cyclic_less t c)

    pub cyclic_growth : (n t : ℕ) → Cyclic t → GrowsBy n t
    cyclic_growth = cyclic_growing chosen_field (fields_of ts) (default_of ts) growing_variant Cyclic cyclic_grows cyclic_stays

    -- growth before a number type
    pub growth-before : (d t : ℕ) → Infinite t → ((j : ℕ) → j < d → is_number ts (iterate next_type j t) ≡ false) → GrowsBy d t
    growth-before zero t i f = tt
    growth-before (suc d) t i f =
        let h : 0 < length (fields_of ts t (growing_variant t)) = infinite_grows t i (f 0 (omega arith)) in
        (h, growth-before d (next_type t) (chosen-infinite t (growing_variant t) h) (λ j l. f (suc j) (omega arith)))

    -- a number type is met first within as many steps as types
    pub number-within : (d t : ℕ) → t < length ts → ((j : ℕ) → j < d → is_number ts (iterate next_type j t) ≡ false) → is_number ts (iterate next_type d t) ≡ true → d < length ts
    number-within d t h f e = go (ltb d (length ts)) refl
      where
        go : (b : Bool) → ltb d (length ts) ≡ b → d < length ts
        go true q = ltb-true _ _ q
        go false q =
            let (j, l, r) = orbit_within next_type (length ts) next-less t h d in
            absurd (false≢true (sym (f j (omega (arith, ltb-false d (length ts) q))) ∙ ap (is_number ts) r ∙ e))

    -- ---- paths of grown messages, and of defaults

    pub path_end_wrap : (t v : ℕ) (m : Message) → 0 < length (fields_of ts t v) → end chosen_field (wrap_in t v m) ≡ end chosen_field m
    path_end_wrap = end_wrap chosen_field (fields_of ts) (default_of ts) growing_variant chosen-inside

    pub path_end_grow : (n t : ℕ) (e : Message) → GrowsBy n t → end chosen_field (grow_from n t e) ≡ end chosen_field e
    path_end_grow = end_grow chosen_field (fields_of ts) (default_of ts) growing_variant chosen-inside

  -- where a default's path ends in a number, that is 0
  ZeroEnd : Message → Type 0
  ZeroEnd m = (u : ℕ) (z : ℤ) → end chosen_field m ≡ number u z → z ≡ pos 0

  default_zero_end : (t : ℕ) (m : Message) → get_or (defaults ts) t none ≡ some m → ZeroEnd m
  unfolding ZeroEnd
  default_zero_end = default_ind ts (λ t m. ZeroEnd m) (λ t h e q u z r. (cc)) (λ t v ms h hv q ps u z r. parts ps (chosen_field t v) (made t v (to_parts ms)) u z r (λ s. absurd (differ t v (to_parts ms) u z s)))
    where
      differ : (a b : ℕ) (ps : Parts) (u : ℕ) (z : ℤ) → made a b ps ≡ number u z → ⊥
      differ a b ps u z s = let y : ◌≡◌ {A = ℕ} 0 1 = cc in omega arith

      parts : {fs : List ℕ} {ms : List Message} → Each (λ t m. ZeroEnd m) fs ms → (p : ℕ) (d : Message) (u : ℕ) (z : ℤ) → end_at chosen_field (to_parts ms) p d ≡ number u z → (d ≡ number u z → z ≡ pos 0) → z ≡ pos 0
      parts each_nil p d u z r f = f r
      parts (each_cons x xs) zero d u z r f = x u z r
      parts (each_cons x xs) (suc p) d u z r f = parts xs p d u z r f

  pub default-ends_in_zero : (t u : ℕ) (z : ℤ) → end chosen_field (default_of ts t) ≡ number u z → z ≡ pos 0
  unfolding ZeroEnd
  default-ends_in_zero t u z = go (get_or (defaults ts) t none) refl
    where
      go : (o : Option Message) → get_or (defaults ts) t none ≡ o → end chosen_field (or_none o) ≡ number u z → z ≡ pos 0
      go none e q = cc
      go (some m) e q = default_zero_end t m e u z q

  -- ---- grown messages belong to their types

  module _ (accepted : TypesAccepted ts) where
    pub default_of-belongs : (t : ℕ) → t < length ts → Belongs ts (default_of ts t) t
    default_of-belongs t h = let (m, e) = accepted.ready t h in subst (λ (o : Option Message). Belongs ts (or_none o) t) (sym e) (default-belongs ts t m e)

    defaults_belong : (fs : List ℕ) → All (λ f. f < length ts) fs → BelongAll ts (to_parts (map (default_of ts) fs)) fs
    defaults_belong [] a = tt
    defaults_belong (f ∷ fs) (more a bs) = (default_of-belongs f a, defaults_belong fs bs)

    fill_belongs : (fs : List ℕ) (p : ℕ) (m : Message) → All (λ f. f < length ts) fs → p < length fs → Belongs ts m (get_or fs p 0) → BelongAll ts (to_parts (fill (default_of ts) fs p m)) fs
    fill_belongs [] p m a h b = tt
    fill_belongs (f ∷ fs) zero m (more a bs) h b = (b, defaults_belong fs bs)
    fill_belongs (f ∷ fs) (suc p) m (more a bs) h b = (default_of-belongs f a, fill_belongs fs p m bs (omega arith) b)

    pub wrap_belongs : (t v : ℕ) (m : Message) → 0 < length (fields_of ts t v) → Belongs ts m (chosen_type t v) → Belongs ts (wrap_in t v m) t
    wrap_belongs t v m h b = (refl, variant-inside ts t v h, fill_belongs (fields_of ts t v) (chosen_field t v) m (accepted.field_types t v) (chosen-inside accepted t v h) b)

    pub grow-belongs : (n t : ℕ) (e : Message) → GrowsBy n t → Belongs ts e (iterate next_type n t) → Belongs ts (grow_from n t e) t
    grow-belongs zero t e g b = b
    grow-belongs (suc n) t e g b = wrap_belongs t (growing_variant t) (grow_from n (next_type t) e) g.0 (grow-belongs n (next_type t) e g.1 b)
