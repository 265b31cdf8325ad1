-- The rows that messages planned in closed form need besides those of the classes: what the messages are made of. For each
-- root one chain of grown messages, as long as the laps of all its classes together, since the chain of a class with fewer
-- laps is an end of it; for each class the messages on its way to the root, or to its number, fewer than there are types.
-- With the defaults these hold all their parts, and each class is counted for one root, which bounds their
-- number. With the messages of all classes they make the whole list of rows. Assumes nothing.
use mathlib.Core.Path.{◌≡◌, refl, ap, sym, ◌∙◌, subst}
use mathlib.Core.Bool.{Bool, true, false, ◌&&◌}
use mathlib.Core.List.Memᴰ
use mathlib.Core.List.{List, [], ◌∷◌, Memᴰ, ◌++◌, map}
use mathlib.Core.Logic.{◌⊎◌, inl, inr}
use Prim.Native.Nat.{ℕ, zero, suc, ◌+◌, ◌*◌, ◌≤◌, ◌<◌, ◌-◌}
use native.Mathlib.Omega.{arith}
use lib.Dec.{eqb, ltb}
use lib.ListN.{length, length-append}
use borrow.Author.Tests.{eq-eqb, le-ltb}
use lib.IntN.{ℤ}
use native.Mathlib.Nat.{mul-le-mul_right, mul-le-mul_left}
use Rattle.laws.specs.All.{All, All.more}
use Rattle.laws.specs.Lists.{concat_map, from, sum}
use Rattle.laws.proofs.Bools.{and_both, and_right}
use Rattle.laws.proofs.Counts.{concat_map-length, count-by_key, count_where, sum-map-most, sum-map-times}
use Rattle.laws.proofs.Lists.{all_mem, from_bounds, map_inv, map-length, mem_concat_map, mem_concat_map_inv, mem_from, mem_map, sum-map_le}
use Rattle.laws.proofs.Members.{filter_lt}
use Rattle.guard.specs.Message.{Message, Message.made, Message.number, to_parts}
use Rattle.guard.specs.Types.{Types, default_of, fields_of, is_number}
use Rattle.guard.proofs.MessageLaws.{parts_eq}
use Rattle.growth.proofs.ClosedPlans.{circles, closed_plan, closed_plan_ind, closed_steps, distance_far, distance_to_root, lap, lap_most_lem, laps_back, laps_long, laps_of, root_for, root_index, start_of}
use Rattle.growth.proofs.Grow.{fill, grow-add}
use Rattle.growth.proofs.Growth.{TypesAccepted, chosen_less, chosen_field, distance_of, grow_from, growing_variant, next-less, next_type, steps_to_number, wrap_in}
use Rattle.growth.proofs.Injective.{Kind, Kind.const, Kind.free, Kind.node}
use Rattle.growth.proofs.Orbit.{iterate, root-less}
use Rattle.growth.proofs.Plans.{Plan, Plan.around, Plan.at_once, Plan.into, planned_message}

-- the parts of a message are in a list
abbrev pub PartsIn : List Message → Message → Type 0
PartsIn rows m = (t v : ℕ) (ms : List Message) → m ≡ made t v (to_parts ms) → (p : Message) → Memᴰ p ms → Memᴰ p rows

number-parts : (rows : List Message) (t : ℕ) (z : ℤ) → PartsIn rows (number t z)
number-parts rows t z a b ms e p q = let y : ◌≡◌ {A = ℕ} 0 1 = cc in absurd (omega arith)

made-parts : (rows : List Message) (t v : ℕ) (ms : List Message) → ((p : Message) → Memᴰ p ms → Memᴰ p rows) → PartsIn rows (made t v (to_parts ms))
made-parts rows t v ms h a b ns e p q = let e1 : to_parts ms ≡ to_parts ns = cc in h p (subst (Memᴰ p) (sym (parts_eq ms ns e1)) q)

module _ (ts : Types) (type variant_for : ℕ → ℕ) (classes : List ℕ) (most : ℕ) (end_for : ℕ → ℤ) where
  abbrev start : ℕ → ℕ
  start = start_of ts type variant_for

  abbrev root_at : ℕ → ℕ
  root_at = root_for ts type variant_for

  abbrev circling : ℕ → Bool
  circling = circles ts type variant_for

  abbrev index_of : ℕ → ℕ
  index_of = root_index ts type variant_for classes

  abbrev laps : ℕ → ℕ
  laps = laps_of ts type variant_for classes most

  abbrev steps_of : ℕ → ℕ
  steps_of = closed_steps ts type variant_for classes most

  abbrev plan_of : ℕ → Plan
  plan_of = closed_plan ts type variant_for classes most end_for

  -- the k messages of a growth of k steps, without its end
  abbrev chain : ℕ → ℕ → Message → List Message
  chain zero t e = []
  chain (suc k) t e = grow_from ts (suc k) t e ∷ chain k (next_type ts t) e

  -- how many classes grow round a root's cycle
  unfoldable pub sharing : ℕ → ℕ
  sharing r = count_where circling root_at classes r

  abbrev root_chain : ℕ → List Message
  root_chain r = chain (sharing r * lap ts most r) r (default_of ts r)

  -- the message of a class where its growth comes to the root
  abbrev at_root : ℕ → Message
  at_root c = grow_from ts (laps c) (root_at c) (default_of ts (root_at c))

  -- the messages on the way of a class by its plan
  abbrev branch_by : ℕ → Plan → List Message
  branch_by c (at_once z) = []
  branch_by c (into v d z) = chain d (start c) (number (iterate (next_type ts) d (start c)) z) ++ (number (iterate (next_type ts) d (start c)) z ∷ [])
  branch_by c (around v n) = chain (distance_of ts (start c)) (start c) (at_root c)

  abbrev branch : ℕ → List Message
  branch c = branch_by c (plan_of c)

  unfoldable pub extra_rows : List Message
  extra_rows = concat_map root_chain (from (length ts) 0) ++ concat_map branch classes

  -- ---- how many they are

  chain_length : (k t : ℕ) (e : Message) → length (chain k t e) ≡ k
  chain_length zero t e = refl
  chain_length (suc k) t e = ap suc (chain_length k (next_type ts t) e)

  module _ (accepted : TypesAccepted ts) (some-type : 0 < length ts) where
    start-less : (c : ℕ) → start c < length ts
    start-less c = chosen_less ts accepted some-type (type c) (variant_for c)

    branch-length : (c : ℕ) → length (branch c) ≤ length ts
    branch-length c =
        closed_plan_ind ts type variant_for classes most end_for (λ p. length (branch_by c p) ≤ length ts) c (λ e. omega arith)
        (λ e h. let m : Message = number (iterate (next_type ts) (steps_to_number ts (start c)) (start c)) (end_for c) in
        omega (arith, length-append (chain (steps_to_number ts (start c)) (start c) m) (m ∷ []), chain_length (steps_to_number ts (start c)) (start c) m))
        (λ e h l. omega (arith, chain_length (distance_of ts (start c)) (start c) (at_root c), distance_far ts type variant_for classes most accepted c (start-less c)))

    abbrev lap_most : ℕ
    lap_most = most + (length ts - 1) + length ts

    chains-length : length (concat_map root_chain (from (length ts) 0)) ≤ length classes * lap_most
    unfolding sharing
    chains-length =
        let a : sum (map (λ r. length (root_chain r)) (from (length ts) 0)) ≤ sum (map (λ r. sharing r * lap_most) (from (length ts) 0)) =
        sum-map_le (λ r. length (root_chain r)) (λ r. sharing r * lap_most) (from (length ts) 0) (λ r m. each r) in
        let b : sum (map (λ r. sharing r * lap_most) (from (length ts) 0)) ≡ sum (map sharing (from (length ts) 0)) * lap_most = sum-map-times sharing lap_most (from (length ts) 0) in
        let c : sum (map (count_where circling root_at classes) (from (length ts) 0)) ≤ length classes =
        omega (arith, count-by_key circling root_at (length ts) classes) in
        let d : sum (map sharing (from (length ts) 0)) * lap_most ≤ length classes * lap_most = mul-le-mul_right lap_most c in
        omega (arith, concat_map-length root_chain (from (length ts) 0))
      where
        each : (r : ℕ) → length (root_chain r) ≤ sharing r * lap_most
        each r =
            let e : length (root_chain r) ≡ sharing r * lap ts most r = chain_length (sharing r * lap ts most r) r (default_of ts r) in
            let h : sharing r * lap ts most r ≤ sharing r * lap_most = mul-le-mul_left (sharing r) (lap_most_lem ts most r some-type) in
            omega arith

    pub extra_length : length extra_rows ≤ length classes * (most + (length ts - 1) + length ts) + length classes * length ts
    unfolding extra_rows
    extra_length =
        let b : sum (map (λ c. length (branch c)) classes) ≤ length classes * length ts = sum-map-most (λ c. length (branch c)) (length ts) classes (λ c m. branch-length c) in
        let d : length (concat_map branch classes) ≡ sum (map (λ c. length (branch c)) classes) = concat_map-length branch classes in
        omega (arith, length-append (concat_map root_chain (from (length ts) 0)) (concat_map branch classes), chains-length)

    -- ---- their parts are among them and the defaults

    chain_mem : (a b t : ℕ) (e : Message) → 0 < b → Memᴰ (grow_from ts b (iterate (next_type ts) a t) e) (chain (a + b) t e)
    chain_mem zero zero t e h = absurd (omega arith)
    chain_mem zero (suc b) t e h = subst (λ (k : ℕ). Memᴰ (grow_from ts (suc b) t e) (chain k t e)) (let q : suc b ≡ 0 + suc b = omega arith in q) (Memᴰ.head refl)
    chain_mem (suc a) b t e h =
        subst (λ (k : ℕ). Memᴰ (grow_from ts b (iterate (next_type ts) a (next_type ts t)) e) (chain k t e)) (let q : suc (a + b) ≡ suc a + b = omega arith in q)
        (Memᴰ.tail (chain_mem a b (next_type ts t) e h))

    index_sharing : (c : ℕ) → Memᴰ c classes → circling c ≡ true → index_of c ≤ sharing (root_at c)
    unfolding sharing root_index
    index_sharing c h p =
        filter_lt (λ x. ltb x c && (circling x && eqb (root_at x) (root_at c))) (λ x. circling x && eqb (root_at x) (root_at c)) classes
        (λ x m q. and_right (ltb x c) _ q) c h
        (ap (λ (b : Bool). b && (circling c && eqb (root_at c) (root_at c))) (le-ltb c c (omega arith)))
        (and_both (circling c) (eqb (root_at c) (root_at c)) p (eq-eqb (root_at c) (root_at c) refl))

    -- the rows hold the defaults and these
    module _ (rows : List Message) (defaults_in : (t : ℕ) → t < length ts → Memᴰ (default_of ts t) rows) (extra_in : (m : Message) → Memᴰ m extra_rows → Memᴰ m rows) where
      defaults-parts : (fs : List ℕ) → All (λ f. f < length ts) fs → (p : Message) → Memᴰ p (map (default_of ts) fs) → Memᴰ p rows
      defaults-parts fs a = map_inv (default_of ts) (λ p. Memᴰ p rows) fs (λ f m. defaults_in f (all_mem a f m))

      fill_parts : (fs : List ℕ) (k : ℕ) (m : Message) → All (λ f. f < length ts) fs → Memᴰ m rows → (p : Message) → Memᴰ p (fill (default_of ts) fs k m) → Memᴰ p rows
      fill_parts [] k m _ h p x4 = elim x4 [ ]
      fill_parts (f ∷ fs) zero m (more a bs) h p (Memᴰ.head e) = subst (λ (x : Message). Memᴰ x rows) (sym e) h
      fill_parts (f ∷ fs) zero m (more a bs) h p (Memᴰ.tail q) = defaults-parts fs bs p q
      fill_parts (f ∷ fs) (suc k) m (more a bs) h p (Memᴰ.head e) = subst (λ (x : Message). Memᴰ x rows) (sym e) (defaults_in f a)
      fill_parts (f ∷ fs) (suc k) m (more a bs) h p (Memᴰ.tail q) = fill_parts fs k m bs h p q

      wrap_parts : (t v : ℕ) (m : Message) → Memᴰ m rows → PartsIn rows (wrap_in ts t v m)
      wrap_parts t v m h =
          made-parts rows t v (fill (default_of ts) (fields_of ts t v) (chosen_field ts t v) m) (fill_parts (fields_of ts t v) (chosen_field ts t v) m (accepted.field_types t v) h)

      -- the first message of a chain, or its end
      chain_first : (k t : ℕ) (e : Message) → ((m : Message) → Memᴰ m (chain k t e) → Memᴰ m rows) → Memᴰ e rows → Memᴰ (grow_from ts k t e) rows
      chain_first zero t e h x = x
      chain_first (suc k) t e h x = h (grow_from ts (suc k) t e) (Memᴰ.head refl)

      chain_parts : (k t : ℕ) (e : Message) → ((m : Message) → Memᴰ m (chain k t e) → Memᴰ m rows) → Memᴰ e rows → (m : Message) → Memᴰ m (chain k t e) → PartsIn rows m
      chain_parts zero t e h x m x4 = elim x4 [ ]
      chain_parts (suc k) t e h x m (Memᴰ.head q) =
          subst (PartsIn rows) (sym q) (wrap_parts t (growing_variant ts t) (grow_from ts k (next_type ts t) e) (chain_first k (next_type ts t) e (λ y j. h y (Memᴰ.tail j)) x))
      chain_parts (suc k) t e h x m (Memᴰ.tail q) = chain_parts k (next_type ts t) e (λ y j. h y (Memᴰ.tail j)) x m q

      root_chain_in : (r : ℕ) → r < length ts → (m : Message) → Memᴰ m (root_chain r) → Memᴰ m rows
      unfolding extra_rows
      root_chain_in r h m q = extra_in m (Memᴰ.append_left (concat_map branch classes) (mem_concat_map root_chain (from (length ts) 0) (mem_from (length ts) 0 r (omega arith) (omega arith)) q))

      branch_in : (c : ℕ) → Memᴰ c classes → (m : Message) → Memᴰ m (branch c) → Memᴰ m rows
      unfolding extra_rows
      branch_in c h m q = extra_in m (Memᴰ.append_right (concat_map root_chain (from (length ts) 0)) (mem_concat_map branch classes h q))

      root_in : (c : ℕ) → root_at c < length ts
      root_in c = root-less (next_type ts) (length ts) (next-less ts accepted) (start c) (start-less c)

      -- the chain of a root passes each of its classes
      at_root_in : (c : ℕ) → Memᴰ c classes → circling c ≡ true → Memᴰ (at_root c) rows
      at_root_in c h p =
          let i : index_of c ≤ sharing (root_at c) = index_sharing c h p in
          let s : (sharing (root_at c) - index_of c) * lap ts most (root_at c) + laps c ≡ sharing (root_at c) * lap ts most (root_at c) = split (sharing (root_at c)) (index_of c) (lap ts most (root_at c)) i in
          let e : iterate (next_type ts) ((sharing (root_at c) - index_of c) * lap ts most (root_at c)) (root_at c) ≡ root_at c = laps_back ts most accepted (start c) (sharing (root_at c) - index_of c) (start-less c) in
          root_chain_in (root_at c) (root_in c) (at_root c)
          (subst (λ (k : ℕ). Memᴰ (at_root c) (chain k (root_at c) (default_of ts (root_at c)))) s
          (subst (λ (x : ℕ). Memᴰ (grow_from ts (laps c) x (default_of ts (root_at c))) (chain ((sharing (root_at c) - index_of c) * lap ts most (root_at c) + laps c) (root_at c) (default_of ts (root_at c)))) e
          (chain_mem ((sharing (root_at c) - index_of c) * lap ts most (root_at c)) (laps c) (root_at c) (default_of ts (root_at c)) (omega (arith, laps_long ts type variant_for classes most c)))))
        where
          add-mul : (a b l : ℕ) → (a + b) * l ≡ a * l + b * l
          add-mul a b l = omega arith

          split : (m i l : ℕ) → i ≤ m → (m - i) * l + i * l ≡ m * l
          split m i l h = let q : (m - i) + i ≡ m = omega arith in sym (add-mul (m - i) i l) ∙ ap (λ (x : ℕ). x * l) q

      steps-split : (c : ℕ) → grow_from ts (steps_of c) (start c) (default_of ts (root_at c)) ≡ grow_from ts (distance_of ts (start c)) (start c) (at_root c)
      unfolding closed_steps
      steps-split c =
          grow-add (chosen_field ts) (fields_of ts) (default_of ts) (growing_variant ts) (distance_of ts (start c)) (laps c) (start c) (default_of ts (root_at c))
          ∙ ap (λ (x : ℕ). grow_from ts (distance_of ts (start c)) (start c) (grow_from ts (laps c) x (default_of ts (root_at c)))) (distance_to_root ts type variant_for classes most accepted c (start-less c))

      -- what a plan says of the messages on its way and of its own
      abbrev Held : ℕ → Plan → Type 0
      Held c p = ((m : Message) → Memᴰ m (branch_by c p) → Memᴰ m rows) → ((m : Message) → Memᴰ m (branch_by c p) → PartsIn rows m) × PartsIn rows (planned_message ts (type c) p)

      held : (c : ℕ) → Memᴰ c classes → Held c (plan_of c)
      held c h = closed_plan_ind ts type variant_for classes most end_for (Held c) c number-case into_case around_case
        where
          number-case : is_number ts (type c) ≡ true → Held c (at_once (end_for c))
          number-case e f = (λ m q. absurd (Memᴰ.not-nil q), number-parts rows (type c) (end_for c))

          into_case : is_number ts (type c) ≡ false → steps_to_number ts (start c) < length ts → Held c (into (variant_for c) (steps_to_number ts (start c)) (end_for c))
          into_case e l f = (
            λ m q. both m (Memᴰ.append_cases (chain (steps_to_number ts (start c)) (start c) last) q),
            wrap_parts (type c) (variant_for c) (grow_from ts (steps_to_number ts (start c)) (start c) last) (chain_first (steps_to_number ts (start c)) (start c) last above last_in),
          )
            where
              last : Message
              last = number (iterate (next_type ts) (steps_to_number ts (start c)) (start c)) (end_for c)

              above : (m : Message) → Memᴰ m (chain (steps_to_number ts (start c)) (start c) last) → Memᴰ m rows
              above m q = f m (Memᴰ.append_left (last ∷ []) q)

              last_in : Memᴰ last rows
              last_in = f last (Memᴰ.append_right (chain (steps_to_number ts (start c)) (start c) last) (Memᴰ.head refl))

              both : (m : Message) → Memᴰ m (chain (steps_to_number ts (start c)) (start c) last) ⊎ Memᴰ m (last ∷ []) → PartsIn rows m
              both m (inr (Memᴰ.tail x5)) = elim x5 [ ]
              both m (inl q) = chain_parts (steps_to_number ts (start c)) (start c) last above last_in m q
              both m (inr (Memᴰ.head q)) = subst (PartsIn rows) (sym q) (number-parts rows (iterate (next_type ts) (steps_to_number ts (start c)) (start c)) (end_for c))

          around_case : is_number ts (type c) ≡ false → circling c ≡ true → length ts ≤ steps_to_number ts (start c) → Held c (around (variant_for c) (steps_of c))
          around_case e p l f = (
            chain_parts (distance_of ts (start c)) (start c) (at_root c) f (at_root_in c h p),
            wrap_parts (type c) (variant_for c) (grow_from ts (steps_of c) (start c) (default_of ts (root_at c)))
                (subst (λ (m : Message). Memᴰ m rows) (sym (steps-split c)) (chain_first (distance_of ts (start c)) (start c) (at_root c) f (at_root_in c h p))),
          )

      pub extra_parts : (m : Message) → Memᴰ m extra_rows → PartsIn rows m
      unfolding extra_rows
      extra_parts m q = go (Memᴰ.append_cases (concat_map root_chain (from (length ts) 0)) q)
        where
          go : Memᴰ m (concat_map root_chain (from (length ts) 0)) ⊎ Memᴰ m (concat_map branch classes) → PartsIn rows m
          go (inl j) =
              mem_concat_map_inv root_chain (PartsIn rows) (from (length ts) 0)
              (λ r k. let h : r < 0 + length ts = (from_bounds (length ts) 0 r k).1 in chain_parts (sharing r * lap ts most r) r (default_of ts r) (root_chain_in r (omega arith)) (defaults_in r (omega arith))) m j
          go (inr j) =
              mem_concat_map_inv branch (PartsIn rows) classes
              (λ c k. (held c k (branch_in c k)).0) m j

      pub planned_parts : (c : ℕ) → Memᴰ c classes → PartsIn rows (planned_message ts (type c) (closed_plan ts type variant_for classes most end_for c))
      planned_parts c h = (held c h (branch_in c h)).1

  -- ---- the whole list of rows: the messages of the classes, and what they are made of
  module _ (kind : ℕ → Kind) (val : ℕ → Message) where
    pub record Valued : Type 0 where
      pub node-val : (c v : ℕ) (ps : List ℕ) → Memᴰ c classes → kind c ≡ node v ps → val c ≡ made (type c) v (to_parts (map val ps))
      pub node_in : (c v : ℕ) (ps : List ℕ) → Memᴰ c classes → kind c ≡ node v ps → All (λ p. Memᴰ p classes) ps
      pub const-val : (c : ℕ) (z : ℤ) → Memᴰ c classes → kind c ≡ const z → val c ≡ number (type c) z
      pub free-val : (c : ℕ) → Memᴰ c classes → kind c ≡ free → val c ≡ planned_message ts (type c) (closed_plan ts type variant_for classes most end_for c)
      -- each default is the message of a class
      pub default-val : (t : ℕ) → t < length ts → (c : ℕ) × (Memᴰ c classes) × (val c ≡ default_of ts t)

    unfoldable pub all_rows : List Message
    all_rows = map val classes ++ extra_rows

    pub class_in : (c : ℕ) → Memᴰ c classes → Memᴰ (val c) all_rows
    unfolding all_rows
    class_in c h = Memᴰ.append_left extra_rows (mem_map val h)

    module _ (accepted : TypesAccepted ts) (some-type : 0 < length ts) where
      pub rows-parts : Valued → (m : Message) → Memᴰ m all_rows → PartsIn all_rows m
      unfolding all_rows
      rows-parts ok m q = go (Memᴰ.append_cases (map val classes) q)
        where
          rows : List Message
          rows = map val classes ++ extra_rows

          extra_in : (m : Message) → Memᴰ m extra_rows → Memᴰ m rows
          extra_in m q = Memᴰ.append_right (map val classes) q

          default_in : (t : ℕ) → t < length ts → Memᴰ (default_of ts t) rows
          default_in t h = let (c, l, e) = ok.default-val t h in subst (λ (x : Message). Memᴰ x rows) e (class_in c l)

          class_parts : (c : ℕ) → Memᴰ c classes → (k : Kind) → kind c ≡ k → PartsIn rows (val c)
          class_parts c h free e = subst (PartsIn rows) (sym (ok.free-val c h e)) (planned_parts accepted some-type rows default_in extra_in c h)
          class_parts c h (const z) e = subst (PartsIn rows) (sym (ok.const-val c z h e)) (number-parts rows (type c) z)
          class_parts c h (node v ps) e =
              subst (PartsIn rows) (sym (ok.node-val c v ps h e))
              (made-parts rows (type c) v (map val ps) (map_inv val (λ p. Memᴰ p rows) ps (λ d i. class_in d (all_mem (ok.node_in c v ps h e) d i))))

          go : Memᴰ m (map val classes) ⊎ Memᴰ m extra_rows → PartsIn rows m
          go (inl j) = map_inv val (PartsIn rows) classes (λ c k. class_parts c k (kind c) refl) m j
          go (inr j) = extra_parts accepted some-type rows default_in extra_in m j

      pub rows-length : length all_rows ≤ length classes + (length classes * (most + (length ts - 1) + length ts) + length classes * length ts)
      unfolding all_rows
      rows-length = omega (arith, length-append (map val classes) extra_rows, map-length val classes, extra_length accepted some-type)
