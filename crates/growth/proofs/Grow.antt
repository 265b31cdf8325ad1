-- Grown messages. A free class takes either a message whose path ends in a number of its own, or one whose path goes
-- round a cycle of types a number of times of its own. Such messages lie apart: no other leaf class's message is met on
-- the first stretch of a free class's path. Assumes nothing.
use mathlib.Core.Path.{◌≡◌, refl, ap, sym, ◌∙◌, subst}
use mathlib.Core.List.{List, [], ◌∷◌, map}
use Prim.Native.Nat.{ℕ, zero, suc, ◌+◌, ◌≤◌, ◌<◌, ◌-◌}
use native.Mathlib.Omega.{arith}
use lib.ListN.{length, get_or}
use lib.IntN.{ℤ}
use Rattle.laws.proofs.Lists.{map-length}
use Rattle.guard.specs.Message.{Message, Message.made, Message.number, Parts.nil, Parts.part, part_at, to_parts}
use Rattle.guard.specs.Shown.{message_type}
use Rattle.guard.proofs.MessageLaws.{message_size, size-part}
use Rattle.growth.proofs.Injective.{Kind, Kind.const, Kind.free, Kind.node, Leaf}
use Rattle.growth.proofs.Orbit.{iterate}
use Rattle.growth.proofs.Paths.{down, end, end_down, end_next, next}

-- a message at one position, and defaults at the others
abbrev pub fill : (ℕ → Message) → List ℕ → ℕ → Message → List Message
fill def [] p m = []
fill def (f ∷ fs) zero m = m ∷ map def fs
fill def (f ∷ fs) (suc p) m = def f ∷ fill def fs p m

fill_at : (def : ℕ → Message) (fs : List ℕ) (p : ℕ) (m d : Message) → p < length fs → part_at (to_parts (fill def fs p m)) p d ≡ m
fill_at def [] p m d h = absurd (omega arith)
fill_at def (f ∷ fs) zero m d h = refl
fill_at def (f ∷ fs) (suc p) m d h = fill_at def fs p m d (omega arith)

fill_length : (def : ℕ → Message) (fs : List ℕ) (p : ℕ) (m : Message) → length (fill def fs p m) ≡ length fs
fill_length def [] p m = refl
fill_length def (f ∷ fs) zero m = ap suc (map-length def fs)
fill_length def (f ∷ fs) (suc p) m = ap suc (fill_length def fs p m)

-- a number or a variant without parts
abbrev pub Bare : Message → Type 0
Bare (number t z) = Unit {0}
Bare (made t v nil) = Unit {0}
Bare (made t v (part m ms)) = ⊥

-- how a free class gets its message: its path ends in a number of its own, or its first step is by a variant and so many follow
pub data How : Type 0 where
  ending : ℕ → ℤ → How
  turning : ℕ → ℕ → How

-- `by`: the variant by which a type grows
module _ (at : ℕ → ℕ → ℕ) (fields : ℕ → ℕ → List ℕ) (def : ℕ → Message) (by : ℕ → ℕ) where
  abbrev pub wrap : ℕ → ℕ → Message → Message
  wrap t v m = made t v (to_parts (fill def (fields t v) (at t v) m))

  -- the type of the chosen field
  abbrev pub chosen : ℕ → ℕ → ℕ
  chosen t v = get_or (fields t v) (at t v) 0

  abbrev pub onward : ℕ → ℕ
  onward t = chosen t (by t)

  -- n steps of growth from a type to what stands at the end
  abbrev pub grow : ℕ → ℕ → Message → Message
  grow zero t e = e
  grow (suc n) t e = wrap t (by t) (grow n (onward t) e)

  -- each of n steps of growth from a type is by a variant with fields
  abbrev pub Growing : ℕ → ℕ → Type 0
  Growing zero t = Unit {0}
  Growing (suc n) t = (0 < length (fields t (by t))) × Growing n (onward t)

  pub grow-add : (a b t : ℕ) (e : Message) → grow (a + b) t e ≡ grow a t (grow b (iterate onward a t) e)
  grow-add zero b t e = ap (λ (k : ℕ). grow k t e) (let q : 0 + b ≡ b = omega arith in q)
  grow-add (suc a) b t e = ap (λ (k : ℕ). grow k t e) (let q : suc a + b ≡ suc (a + b) = omega arith in q) ∙ ap (wrap t (by t)) (grow-add a b (onward t) e)

  module _ (Cyclic : ℕ → Type 0) (grows : (t : ℕ) → Cyclic t → 0 < length (fields t (by t))) (stays : (t : ℕ) → Cyclic t → Cyclic (onward t)) where
    pub cyclic_growing : (n t : ℕ) → Cyclic t → Growing n t
    cyclic_growing zero t c = tt
    cyclic_growing (suc n) t c = (grows t c, cyclic_growing n (onward t) (stays t c))

  module _ (inside : (t v : ℕ) → 0 < length (fields t v) → at t v < length (fields t v)) where
    next_wrap : (t v : ℕ) (m : Message) → 0 < length (fields t v) → next at (wrap t v m) ≡ m
    next_wrap t v m h = fill_at def (fields t v) (at t v) m (wrap t v m) (inside t v h)

    wrap_size : (t v : ℕ) (m : Message) → 0 < length (fields t v) → message_size m < message_size (wrap t v m)
    wrap_size t v m h =
        let e : message_size (next at (wrap t v m)) ≡ message_size m = ap message_size (next_wrap t v m h) in
        omega (arith, size-part (fill def (fields t v) (at t v) m) (at t v) (wrap t v m) (omega (arith, fill_length def (fields t v) (at t v) m, inside t v h)))

    not_bare : (t v : ℕ) (m : Message) → 0 < length (fields t v) → ¬ Bare (wrap t v m)
    not_bare t v m h = go (fill def (fields t v) (at t v) m) (omega (arith, fill_length def (fields t v) (at t v) m))
      where
        go : (ms : List Message) → 0 < length ms → ¬ Bare (made t v (to_parts ms))
        go [] k b = omega arith
        go (x ∷ xs) k b = b

    pub end_wrap : (t v : ℕ) (m : Message) → 0 < length (fields t v) → end at (wrap t v m) ≡ end at m
    end_wrap t v m h = sym (end_next at (wrap t v m)) ∙ ap (end at) (next_wrap t v m h)

    pub end_grow : (n t : ℕ) (e : Message) → Growing n t → end at (grow n t e) ≡ end at e
    end_grow zero t e h = refl
    end_grow (suc n) t e h = end_wrap t (by t) (grow n (onward t) e) h.0 ∙ end_grow n (onward t) e h.1

    -- the path of a growth
    down_grow : (k n t : ℕ) (e : Message) → Growing k t → down at k (grow (k + n) t e) ≡ grow n (iterate onward k t) e
    down_grow zero n t e h = let q : 0 + n ≡ n = omega arith in ap (λ (m : ℕ). grow m t e) q
    down_grow (suc k) n t e h =
        let q : suc k + n ≡ suc (k + n) = omega arith in
        ap (λ (m : ℕ). down at k (next at (grow m t e))) q
        ∙ ap (down at k) (next_wrap t (by t) (grow (k + n) (onward t) e) h.0) ∙ down_grow k n (onward t) e h.1

    grow-size : (n t : ℕ) (e : Message) → Growing n t → n + message_size e ≤ message_size (grow n t e)
    grow-size zero t e h = omega arith
    grow-size (suc n) t e h = omega (arith, grow-size n (onward t) e h.1, wrap_size t (by t) (grow n (onward t) e) h.0)

  module _ (In : ℕ → Type 0) (type : ℕ → ℕ) (kind : ℕ → Kind) (val : ℕ → Message) (most : ℕ)
      -- types that grow round a cycle, its root, and what stands at the end of a growth there
      (Cyclic : ℕ → Type 0) (root : ℕ → ℕ) (base : ℕ → Message) (how : ℕ → How) where
    pub record Grown : Type 0 where
      pub inside : (t v : ℕ) → 0 < length (fields t v) → at t v < length (fields t v)
      pub grows : (t : ℕ) → Cyclic t → 0 < length (fields t (by t))
      pub stays : (t : ℕ) → Cyclic t → Cyclic (onward t)
      pub rooted : (t : ℕ) → Cyclic t → root (onward t) ≡ root t
      -- leaves that are not free
      pub node-val : (c v : ℕ) → In c → kind c ≡ node v [] → val c ≡ made (type c) v nil
      pub const-val : (c : ℕ) (z : ℤ) → In c → kind c ≡ const z → val c ≡ number (type c) z
      -- numbers of their own
      pub ends : (u t : ℕ) (z : ℤ) → In u → kind u ≡ free → how u ≡ ending t z → end at (val u) ≡ number t z
      pub fresh : (u w t : ℕ) (z : ℤ) → In u → kind u ≡ free → how u ≡ ending t z → In w → kind w ≡ const z → type w ≡ t → ⊥
      pub own : (u w t : ℕ) (z : ℤ) → In u → kind u ≡ free → how u ≡ ending t z → In w → kind w ≡ free → how w ≡ ending t z → w ≡ u
      pub plain : (r u t : ℕ) (z : ℤ) → In u → kind u ≡ free → how u ≡ ending t z → ¬ (end at (base r) ≡ number t z)
      -- turns
      pub turns : (u v n : ℕ) → In u → kind u ≡ free → how u ≡ turning v n
          → (0 < length (fields (type u) v)) × Cyclic (chosen (type u) v) × (val u ≡ wrap (type u) v (grow n (chosen (type u) v) (base (root (chosen (type u) v)))))
      pub long : (u v n : ℕ) → In u → kind u ≡ free → how u ≡ turning v n → most < n
      pub gap : (u w v x n k : ℕ) → In u → kind u ≡ free → how u ≡ turning v (k + n) → In w → kind w ≡ free → how w ≡ turning x n
          → root (chosen (type u) v) ≡ root (chosen (type w) x) → k ≤ most → w ≡ u

    module _ (g : Grown) where
      growing : (n t : ℕ) → Cyclic t → Growing n t
      growing = cyclic_growing Cyclic g.grows g.stays

      root_iterate : (k t : ℕ) → Cyclic t → root (iterate onward k t) ≡ root t
      root_iterate zero t h = refl
      root_iterate (suc k) t h = root_iterate k (onward t) (g.stays t h) ∙ g.rooted t h

      cyclic_iterate : (k t : ℕ) → Cyclic t → Cyclic (iterate onward k t)
      cyclic_iterate zero t h = h
      cyclic_iterate (suc k) t h = cyclic_iterate k (onward t) (g.stays t h)

      -- growths from one type to one end differ in nothing but their number of steps
      grow_once : (m n t : ℕ) (e : Message) → Cyclic t → grow m t e ≡ grow n t e → m ≡ n
      grow_once zero zero t e h q = refl
      grow_once zero (suc n) t e h q = let z : message_size e ≡ message_size (grow (suc n) t e) = ap message_size q in absurd (omega (arith, grow-size g.inside (suc n) t e (growing (suc n) t h)))
      grow_once (suc m) zero t e h q = let z : message_size (grow (suc m) t e) ≡ message_size e = ap message_size q in absurd (omega (arith, grow-size g.inside (suc m) t e (growing (suc m) t h)))
      grow_once (suc m) (suc n) t e h q =
          ap suc (grow_once m n (onward t) e (g.stays t h)
          (sym (next_wrap g.inside t (by t) (grow m (onward t) e) (g.grows t h)) ∙ ap (next at) q ∙ next_wrap g.inside t (by t) (grow n (onward t) e) (g.grows t h)))

      grow-type : (n t : ℕ) (e : Message) → 0 < n → message_type (grow n t e) ≡ t
      grow-type zero t e h = absurd (omega arith)
      grow-type (suc n) t e h = refl

      grow_full : (n t : ℕ) (e : Message) → 0 < n → Cyclic t → ¬ Bare (grow n t e)
      grow_full zero t e h c = absurd (omega arith)
      grow_full (suc n) t e h c = not_bare g.inside t (by t) (grow n (onward t) e) (g.grows t c)

      next_down : (k : ℕ) (m : Message) → next at (down at k m) ≡ down at k (next at m)
      next_down zero m = refl
      next_down (suc k) m = next_down k (next at m)

      bare-next : (m : Message) → Bare m → next at m ≡ m
      bare-next (number t z) b = refl
      bare-next (made t v nil) b = refl
      bare-next (made t v (part m ms)) b = absurd b

      -- what a message that turns shows after k steps and one
      after : (u v n k : ℕ) → In u → kind u ≡ free → how u ≡ turning v (k + n) → next at (down at k (val u)) ≡ grow n (iterate onward k (chosen (type u) v)) (base (root (chosen (type u) v)))
      after u v n k i f h =
          let (p, c, e) = g.turns u v (k + n) i f h in
          next_down k (val u)
          ∙ ap (down at k) (ap (next at) e ∙ next_wrap g.inside (type u) v (grow (k + n) (chosen (type u) v) (base (root (chosen (type u) v)))) p)
          ∙ down_grow g.inside k n (chosen (type u) v) (base (root (chosen (type u) v))) (growing k (chosen (type u) v) c)

      turn_end : (u v n : ℕ) → In u → kind u ≡ free → how u ≡ turning v n → end at (val u) ≡ end at (base (root (chosen (type u) v)))
      turn_end u v n i f h =
          let (p, c, e) = g.turns u v n i f h in
          ap (end at) e ∙ end_wrap g.inside (type u) v (grow n (chosen (type u) v) (base (root (chosen (type u) v)))) p
          ∙ end_grow g.inside n (chosen (type u) v) (base (root (chosen (type u) v))) (growing n (chosen (type u) v) c)

      -- a message with parts is not one without
      turn_bare : (u w v n k : ℕ) → In u → kind u ≡ free → how u ≡ turning v n → k ≤ most → Bare (val w) → down at k (val u) ≡ val w → ⊥
      turn_bare u w v n k i f h hk b e =
          let l : most < n = g.long u v n i f h in
          let s : k + (n - k) ≡ n = omega arith in
          let (p, c, q) = g.turns u v n i f h in
          grow_full (n - k) (iterate onward k (chosen (type u) v)) (base (root (chosen (type u) v))) (omega arith) (cyclic_iterate k (chosen (type u) v) c)
          (subst Bare (sym (bare-next (val w) b) ∙ ap (next at) (sym e) ∙ after u v (n - k) k i f (h ∙ ap (turning v) (sym s))) b)

      turn_turn : (u w v x n m k : ℕ) → In u → kind u ≡ free → how u ≡ turning v n → In w → kind w ≡ free → how w ≡ turning x m → k ≤ most → down at k (val u) ≡ val w → w ≡ u
      turn_turn u w v x n m k i f h iw fw hw hk e =
          let l : most < n = g.long u v n i f h in
          let l2 : most < m = g.long w x m iw fw hw in
          let s : k + (n - k) ≡ n = omega arith in
          let (p, c, q) = g.turns u v n i f h in
          let (p2, c2, q2) = g.turns w x m iw fw hw in
          let e1 : grow (n - k) (iterate onward k (chosen (type u) v)) (base (root (chosen (type u) v))) ≡ grow m (chosen (type w) x) (base (root (chosen (type w) x))) =
          sym (after u v (n - k) k i f (h ∙ ap (turning v) (sym s))) ∙ ap (next at) e ∙ after w x m 0 iw fw (hw ∙ ap (turning x) (omega arith)) in
          let e2 : iterate onward k (chosen (type u) v) ≡ chosen (type w) x =
          sym (grow-type (n - k) (iterate onward k (chosen (type u) v)) (base (root (chosen (type u) v))) (omega arith)) ∙ ap message_type e1
          ∙ grow-type m (chosen (type w) x) (base (root (chosen (type w) x))) (omega arith) in
          let e3 : root (chosen (type u) v) ≡ root (chosen (type w) x) = sym (root_iterate k (chosen (type u) v) c) ∙ ap root e2 in
          let e4 : n - k ≡ m = grow_once (n - k) m (chosen (type w) x) (base (root (chosen (type w) x))) c2
          (subst (λ (r : ℕ). grow (n - k) r (base (root (chosen (type w) x))) ≡ grow m (chosen (type w) x) (base (root (chosen (type w) x)))) e2
          (subst (λ (r : ℕ). grow (n - k) (iterate onward k (chosen (type u) v)) (base r) ≡ grow m (chosen (type w) x) (base (root (chosen (type w) x)))) e3 e1)) in
          g.gap u w v x m k i f (h ∙ ap (turning v) (omega arith)) iw fw hw e3 hk

      -- no other leaf lies on the first stretch of a free class's path
      pub apart : (w u k : ℕ) → In w → In u → Leaf (kind w) → kind u ≡ free → k ≤ most → down at k (val u) ≡ val w → w ≡ u
      apart w u k iw i lw f hk e = go (kind w) (how u) (how w) refl refl refl lw
        where
          same_end : end at (val u) ≡ end at (val w)
          same_end = sym (end_down at k (val u)) ∙ ap (end at) e

          go : (kw : Kind) (hu hw : How) → kind w ≡ kw → how u ≡ hu → how w ≡ hw → Leaf kw → w ≡ u
          go (node v (p ∷ ps)) hu hw q a b l = absurd l
          go (node v []) (ending t z) hw q a b l =
              let n : number t z ≡ made (type w) v nil = sym (g.ends u t z i f a) ∙ same_end ∙ ap (end at) (g.node-val w v iw q) in
              let x : ◌≡◌ {A = ℕ} 0 1 = cc in absurd (omega arith)
          go (node v []) (turning x n) hw q a b l = absurd (turn_bare u w x n k i f a hk (subst Bare (sym (g.node-val w v iw q)) tt) e)
          go (const y) (ending t z) hw q a b l =
              let n : number t z ≡ number (type w) y = sym (g.ends u t z i f a) ∙ same_end ∙ ap (end at) (g.const-val w y iw q) in
              let n1 : t ≡ type w = cc in
              let n2 : z ≡ y = cc in
              absurd (g.fresh u w t z i f a iw (q ∙ ap const (sym n2)) (sym n1))
          go (const y) (turning x n) hw q a b l = absurd (turn_bare u w x n k i f a hk (subst Bare (sym (g.const-val w y iw q)) tt) e)
          go free (ending t z) (ending s y) q a b l =
              let n : number t z ≡ number s y = sym (g.ends u t z i f a) ∙ same_end ∙ g.ends w s y iw q b in
              let n1 : t ≡ s = cc in
              let n2 : z ≡ y = cc in
              g.own u w t z i f a iw q (b ∙ (cc))
          go free (ending t z) (turning x n) q a b l =
              absurd (g.plain (root (chosen (type w) x)) u t z i f a (sym (turn_end w x n iw q b) ∙ sym same_end ∙ g.ends u t z i f a))
          go free (turning x n) (ending t z) q a b l =
              absurd (g.plain (root (chosen (type u) x)) w t z iw q b (sym (turn_end u x n i f a) ∙ same_end ∙ g.ends w t z iw q b))
          go free (turning x n) (turning y m) q a b l = turn_turn u w x y n m k i f a iw q b hk e
