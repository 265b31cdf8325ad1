-- Classes of one type have different messages: built classes by congruence and induction on the size of the message; any
-- class and a free one by following the path of both messages down to where the first ends. All that is asked of the
-- messages of free classes is the field `apart` of `Open`. Assumes nothing.
use mathlib.Core.Path.{◌≡◌, refl, ap, sym, ◌∙◌, subst}
use mathlib.Core.List.{List, [], ◌∷◌, map}
use mathlib.Core.Logic.{◌⊎◌, inl, inr}
use Prim.Native.Nat.{ℕ, zero, suc, ◌≤◌, ◌<◌}
use native.Mathlib.Omega.{arith}
use lib.ListN.{length, get_or}
use lib.IntN.{ℤ}
use Rattle.laws.specs.All.{All, All.more}
use Rattle.laws.proofs.Lists.{all_get_d, map-length}
use Rattle.guard.specs.Message.{Message, Message.made, Message.number, part_at, to_parts}
use Rattle.guard.proofs.MessageLaws.{message_size, part-map, part_sizes, parts_eq, size-part}
use Rattle.growth.proofs.Paths.{down, next}

-- ---- an open structure: what each class is, and its message
pub data Kind : Type 0 where
  node : ℕ → List ℕ → Kind
  const : ℤ → Kind
  free : Kind

-- a class that no path leads on from
abbrev pub Leaf : Kind → Type 0
Leaf (node v []) = Unit {0}
Leaf (node v (p ∷ ps)) = ⊥
Leaf (const z) = Unit {0}
Leaf free = Unit {0}

module _ (at : ℕ → ℕ → ℕ) (fields : ℕ → ℕ → List ℕ) (In : ℕ → Type 0) (type : ℕ → ℕ) (kind : ℕ → Kind) (val : ℕ → Message) (rank : ℕ → ℕ) (most : ℕ) where
  pub record Open : Type 0 where
    -- the chosen position is that of a field, where there is one
    pub inside : (t v : ℕ) → 0 < length (fields t v) → at t v < length (fields t v)
    -- parts: they are classes, have the fields' types, and lower ranks
    pub node_in : (c v : ℕ) (ps : List ℕ) → In c → kind c ≡ node v ps → All In ps
    pub node-typed : (c v : ℕ) (ps : List ℕ) → In c → kind c ≡ node v ps → map type ps ≡ fields (type c) v
    pub node-falls : (c v : ℕ) (ps : List ℕ) → In c → kind c ≡ node v ps → All (λ p. rank p < rank c) ps
    pub low : (c : ℕ) → In c → rank c ≤ most
    -- congruence, and constants
    pub node_once : (c d v : ℕ) (ps : List ℕ) → In c → In d → type c ≡ type d → kind c ≡ node v ps → kind d ≡ node v ps → c ≡ d
    pub const_once : (c d : ℕ) (z : ℤ) → In c → In d → type c ≡ type d → kind c ≡ const z → kind d ≡ const z → c ≡ d
    -- messages
    pub node-val : (c v : ℕ) (ps : List ℕ) → In c → kind c ≡ node v ps → val c ≡ made (type c) v (to_parts (map val ps))
    pub const-val : (c : ℕ) (z : ℤ) → In c → kind c ≡ const z → val c ≡ number (type c) z
    -- no other class where a path can end lies on the first stretch of a free class's path
    pub apart : (w u k : ℕ) → In w → In u → Leaf (kind w) → kind u ≡ free → k ≤ most → down at k (val u) ≡ val w → w ≡ u

  module _ (o : Open) where
    -- where the path of a class leads
    record Bottom (c : ℕ) : Type 0 where
      class : ℕ
      steps : ℕ
      is_in : In class
      leaf : Leaf (kind class)
      short : steps ≤ rank c
      there : val class ≡ down at steps (val c)
      less : (class ≡ c) ⊎ (message_size (val class) < message_size (val c))

    bottom : (n c : ℕ) → rank c < n → In c → Bottom c
    bottom zero c h i = absurd (omega arith)
    bottom (suc n) c h i = go (bottom n) (kind c) refl
      where
        here : Leaf (kind c) → Bottom c
        here l = record { class = c; steps = 0; is_in = i; leaf = l; short = omega arith; there = refl; less = inl refl }

        go : ((q : ℕ) → rank q < n → In q → Bottom q) → (k : Kind) → kind c ≡ k → Bottom c
        go ih (const z) e = here (subst Leaf (sym e) tt)
        go ih free e = here (subst Leaf (sym e) tt)
        go ih (node v []) e = here (subst Leaf (sym e) tt)
        go ih (node v (p ∷ ps)) e =
            let fits : at (type c) v < length (p ∷ ps) = fitting in
            let q : ℕ = get_or (p ∷ ps) (at (type c) v) 0 in
            let lower : rank q < rank c = all_get_d (o.node-falls c v (p ∷ ps) i e) (at (type c) v) 0 fits in
            let b : Bottom q = ih q (omega arith) (all_get_d (o.node_in c v (p ∷ ps) i e) (at (type c) v) 0 fits) in
            let s : next at (val c) ≡ val q = step fits in
            let smaller : message_size (val q) < message_size (val c) = shrinks fits in
            record {
              class = b.class;
              steps = suc b.steps;
              is_in = b.is_in;
              leaf = b.leaf;
              short = omega (arith, b.short);
              there = b.there ∙ ap (down at b.steps) (sym s);
              less = inr (under b.less smaller);
            }
          where
            fitting : at (type c) v < length (p ∷ ps)
            fitting =
                let l : length (fields (type c) v) ≡ length (p ∷ ps) = ap length (sym (o.node-typed c v (p ∷ ps) i e)) ∙ map-length type (p ∷ ps) in
                omega (arith, o.inside (type c) v (omega arith))

            step : at (type c) v < length (p ∷ ps) → next at (val c) ≡ val (get_or (p ∷ ps) (at (type c) v) 0)
            step f = ap (next at) (o.node-val c v (p ∷ ps) i e) ∙ part-map val (p ∷ ps) (at (type c) v) (made (type c) v (to_parts (map val (p ∷ ps)))) f

            shrinks : at (type c) v < length (p ∷ ps) → message_size (val (get_or (p ∷ ps) (at (type c) v) 0)) < message_size (val c)
            shrinks f =
                let d : Message = made (type c) v (to_parts (map val (p ∷ ps))) in
                let e1 : message_size (val c) ≡ suc (part_sizes (to_parts (map val (p ∷ ps)))) = ap message_size (o.node-val c v (p ∷ ps) i e) in
                let e2 : message_size (part_at (to_parts (map val (p ∷ ps))) (at (type c) v) d) ≡ message_size (val (get_or (p ∷ ps) (at (type c) v) 0)) = ap message_size (part-map val (p ∷ ps) (at (type c) v) d f) in
                omega (arith, size-part (map val (p ∷ ps)) (at (type c) v) d (omega (arith, map-length val (p ∷ ps))))

            under : {w q : ℕ} → (w ≡ q) ⊎ (message_size (val w) < message_size (val q)) → message_size (val q) < message_size (val c) → message_size (val w) < message_size (val c)
            under {w} {q} (inl x) s = let y : message_size (val w) ≡ message_size (val q) = ap (λ (z : ℕ). message_size (val z)) x in omega arith
            under (inr x) s = omega arith

    -- a free class is no other
    free_once : (u c : ℕ) → In u → In c → kind u ≡ free → val u ≡ val c → u ≡ c
    free_once u c iu ic e h =
        let b : Bottom c = bottom (suc (rank c)) c (omega arith) ic in
        let w : b.class ≡ u = o.apart b.class u b.steps b.is_in iu b.leaf e (omega (arith, b.short, o.low c ic)) (ap (down at b.steps) h ∙ sym b.there) in
        go b.class w b.less
      where
        go : (x : ℕ) → x ≡ u → (x ≡ c) ⊎ (message_size (val x) < message_size (val c)) → u ≡ c
        go x p (inl q) = sym p ∙ q
        go x p (inr q) = let y : message_size (val x) ≡ message_size (val c) = ap (λ (z : ℕ). message_size (val z)) p ∙ ap message_size h in absurd (omega arith)

    -- lists of classes of the same types with the same messages are the same
    all_once : (n : ℕ) → ((c d : ℕ) → message_size (val c) < n → In c → In d → type c ≡ type d → val c ≡ val d → c ≡ d)
        → (ps qs : List ℕ) → part_sizes (to_parts (map val ps)) < n → All In ps → All In qs → map type ps ≡ map type qs → map val ps ≡ map val qs → ps ≡ qs
    all_once n ih [] [] h ip iq et ev = refl
    all_once n ih [] (q ∷ qs) h ip iq et ev = let z : ◌≡◌ {A = ℕ} 0 1 = cc in absurd (omega arith)
    all_once n ih (p ∷ ps) [] h ip iq et ev = let z : ◌≡◌ {A = ℕ} 0 1 = cc in absurd (omega arith)
    all_once n ih (p ∷ ps) (q ∷ qs) h (more ip ips) (more iq iqs) et ev =
        let t1 : type p ≡ type q = cc in
        let t2 : map type ps ≡ map type qs = cc in
        let v1 : val p ≡ val q = cc in
        let v2 : map val ps ≡ map val qs = cc in
        let e1 : p ≡ q = ih p q (omega arith) ip iq t1 v1 in
        let e2 : ps ≡ qs = all_once n ih ps qs (omega arith) ips iqs t2 v2 in
        cc

    once : (n c d : ℕ) → message_size (val c) < n → In c → In d → type c ≡ type d → val c ≡ val d → c ≡ d
    once zero c d h ic id et ev = absurd (omega arith)
    once (suc n) c d h ic id et ev = go (once n) (kind c) (kind d) refl refl
      where
        go : ((x y : ℕ) → message_size (val x) < n → In x → In y → type x ≡ type y → val x ≡ val y → x ≡ y) → (k l : Kind) → kind c ≡ k → kind d ≡ l → c ≡ d
        go ih free l p q = free_once c d ic id p ev
        go ih (const z) free p q = sym (free_once d c id ic q (sym ev))
        go ih (node v ps) free p q = sym (free_once d c id ic q (sym ev))
        go ih (const z) (const y) p q =
            let e : number (type c) z ≡ number (type d) y = sym (o.const-val c z ic p) ∙ ev ∙ o.const-val d y id q in
            let w : z ≡ y = cc in
            o.const_once c d z ic id et p (q ∙ ap const (sym w))
        go ih (const z) (node v ps) p q =
            let e : number (type c) z ≡ made (type d) v (to_parts (map val ps)) = sym (o.const-val c z ic p) ∙ ev ∙ o.node-val d v ps id q in
            let w : ◌≡◌ {A = ℕ} 0 1 = cc in absurd (omega arith)
        go ih (node v ps) (const z) p q =
            let e : made (type c) v (to_parts (map val ps)) ≡ number (type d) z = sym (o.node-val c v ps ic p) ∙ ev ∙ o.const-val d z id q in
            let w : ◌≡◌ {A = ℕ} 0 1 = cc in absurd (omega arith)
        go ih (node v ps) (node w qs) p q =
            let e : made (type c) v (to_parts (map val ps)) ≡ made (type d) w (to_parts (map val qs)) = sym (o.node-val c v ps ic p) ∙ ev ∙ o.node-val d w qs id q in
            let e1 : v ≡ w = cc in
            let e2 : to_parts (map val ps) ≡ to_parts (map val qs) = cc in
            let e3 : message_size (val c) ≡ suc (part_sizes (to_parts (map val ps))) = ap message_size (o.node-val c v ps ic p) in
            let e4 : map type ps ≡ map type qs = o.node-typed c v ps ic p ∙ (cc) ∙ sym (o.node-typed d w qs id q) in
            let e5 : ps ≡ qs = all_once n ih ps qs (omega arith) (o.node_in c v ps ic p) (o.node_in d w qs id q) e4 (parts_eq (map val ps) (map val qs) e2) in
            o.node_once c d v ps ic id et p (q ∙ (cc))

    -- classes of one type with one message are one class
    pub injective : (c d : ℕ) → In c → In d → type c ≡ type d → val c ≡ val d → c ≡ d
    injective c d = once (suc (message_size (val c))) c d (omega arith)
