-- Where all shapes are in order and no class is at the bottom, the levels are heights upside down, so ranks fall. Where ranks
-- fall, no class sinks further than its rank, so none gets to the bottom. Assumes nothing.
use mathlib.Core.Path.{◌≡◌, refl, ap, sym, subst, ◌∙◌}
use mathlib.Core.Bool.{Bool, true, false, not, false≢true, ◌||◌}
use mathlib.Core.List.{List, [], ◌∷◌}
use mathlib.Core.Logic.{◌⊎◌, inl, inr}
use Prim.Native.Nat.{ℕ, zero, suc, ◌+◌, ◌-◌, ◌≤◌, ◌<◌, min}
use native.Mathlib.Nat.{zero-add}
use native.Mathlib.Numerals.{add-one}
use native.Mathlib.Omega.{arith}
use lib.Dec.{eqb, ltb}
use lib.ListN.{get_or, get_or-replicate, length, replicate, set}
use borrow.Author.Tests.{eqb-false, eqb-true, ltb-false, ltb-true}
use Rattle.laws.specs.Lists.{any, from, sum}
use Rattle.laws.proofs.Bools.{by_test, either}
use Rattle.laws.proofs.Lists.{any_none, any_some, from_bounds, mem_from}
use Rattle.laws.proofs.Stores.{set_cases, set_ind, sum-set_le, sum-set_lt}
use Rattle.loops.proofs.Loops.{any_snoc}
use Rattle.guard.specs.Closure.{State}
use Rattle.classes.specs.Held.{Held}
use Rattle.arrays.specs.Slots.{active, many_at, owner_at, part_at}
use Rattle.ranks.specs.Ranks.{own_class, part_class, ranking_of}
use Rattle.ranks.proofs.RankLaws.{heights_rank, ranks_fall, ranks-low}
use Rattle.levels.specs.Levels.{InOrder, LastInOrder, LowestPart, Sinks, Sinks.done, Sinks.then, Sunk, bottomed, own_level, part_level, top_levels}

-- ---- the lowest of the parts

module _ (shapes classes levels : List ℕ) (k : ℕ) where
  module _ (p low level x next : ℕ) (w : LowestPart shapes classes levels k p low) (e : level ≡ get_or levels (get_or classes x 0) 0) (q : x ≡ part_at shapes k p) where
    here : level ≡ part_level shapes classes levels k p
    here = e ∙ ap (λ (y : ℕ). get_or levels (get_or classes y 0) 0) q

    pub next-part : next ≡ min low level → LowestPart shapes classes levels k (p + 1) next
    next-part z = record { each = each; some = by_test (ltb level low) (λ t. new (ltb-true level low t)) (λ t. old (ltb-false level low t) w.some) }
      where
        each : (j : ℕ) → j < p + 1 → next ≤ part_level shapes classes levels k j
        each j h = by_test (ltb j p) (λ t. omega (arith, z, w.each j (ltb-true _ _ t)))
            (λ t. let y : p ≡ j = omega (arith, ltb-false j p t) in subst (λ (i : ℕ). next ≤ part_level shapes classes levels k i) y (omega (arith, z, here)))

        new : level < low → (j : ℕ) × (j < p + 1) × (part_level shapes classes levels k j ≡ next)
        new l = (p, omega arith, omega (arith, z, here))

        old : low ≤ level → (j : ℕ) × (j < p) × (part_level shapes classes levels k j ≡ low) → (j : ℕ) × (j < p + 1) × (part_level shapes classes levels k j ≡ next)
        old l (j, h, y) = (j, omega arith, omega (arith, z, y))

-- ---- a class at the bottom

module _ (levels : List ℕ) where
  abbrev zero_at : ℕ → Bool
  zero_at c = eqb (get_or levels c 0) 0

  pub none_bottomed : false ≡ bottomed levels 0
  unfolding bottomed
  none_bottomed = refl

  pub bottomed_next : (n : ℕ) (a : Bool) → a ≡ bottomed levels n → (a || eqb (get_or levels n 0) 0) ≡ bottomed levels (n + 1)
  unfolding bottomed
  bottomed_next n a e =
      ap (λ (b : Bool). b || zero_at n) e ∙ sym (any_snoc zero_at n 0 ∙ ap (λ (j : ℕ). any zero_at (from n 0) || zero_at j) (zero-add n)) ∙ ap (λ (j : ℕ). any zero_at (from j 0)) (sym (add-one n))

  is-bottomed : bottomed levels 96 ≡ true → (c : ℕ) × (c < 96) × (get_or levels c 0 ≡ 0)
  unfolding bottomed
  is-bottomed e = let (c, m, q) = any_some zero_at (from 96 0) e in (c, omega (arith, (from_bounds 96 0 c m).1), eqb-true _ _ q)

  not_bottomed : bottomed levels 96 ≡ false → (c : ℕ) → c < 96 → 1 ≤ get_or levels c 0
  unfolding bottomed
  not_bottomed e c h = omega (arith, eqb-false (get_or levels c 0) 0 (any_none zero_at (from 96 0) e c (mem_from 96 0 c (omega arith) (omega arith))))

module _ (shapes : List ℕ) (s : State) where
  -- ---- steps

  pub from_top : Sinks shapes s top_levels (replicate 96 31)
  unfolding top_levels
  from_top = done

  module _ {l : List ℕ} where
    pub sinks_on : {m n : List ℕ} → Sinks shapes s l m → Sinks shapes s m n → Sinks shapes s l n
    sinks_on a done = a
    sinks_on a (then b k p v hk hp e q o) = then (sinks_on a b) k p v hk hp e q o

    sinks_le : {m : List ℕ} → Sinks shapes s l m → sum m ≤ sum l
    sinks_le done = omega arith
    sinks_le (then {next = m} a k p v hk hp e q o) = omega (arith, sinks_le a, sum-set_le m (own_class shapes s.classes k) v (omega arith))

    sinks_most : {m : List ℕ} → Sinks shapes s l m → ((c : ℕ) → get_or l c 0 ≤ 31) → (c : ℕ) → get_or m c 0 ≤ 31
    sinks_most done h c = h c
    sinks_most (then {next = m} a k p v hk hp e q o) h c =
        set_ind (λ x. x ≤ 31) m (own_class shapes s.classes k) v c (omega arith) (λ z. omega (arith, sinks_most a h (part_class shapes s.classes k p))) (sinks_most a h c)

    -- no class sinks further than any height that falls allows
    module _ (held : Held s.classes) (height : ℕ → ℕ)
        (down : (k p : ℕ) → k < 30 → p < many_at shapes k → active shapes s k ≡ true → height (part_class shapes s.classes k p) < height (own_class shapes s.classes k)) where
      sinks_above : {m : List ℕ} → Sinks shapes s l m → ((c : ℕ) → c < 96 → 31 ≤ get_or l c 0 + height c) → (c : ℕ) → c < 96 → 31 ≤ get_or m c 0 + height c
      sinks_above done h c i = h c i
      sinks_above (then {next = m} a k p v hk hp e q o) h c i =
          either (λ z. omega (arith, z, sinks_above a h c i))
          (λ z. let y : height c ≡ height (own_class shapes s.classes k) = ap height z.0 in
          omega (arith, z.1, y, down k p hk hp e, sinks_above a h (part_class shapes s.classes k p) (held.there (part_at shapes k p))))
          (set_cases m (own_class shapes s.classes k) v c)

  -- ---- passes

  skipped : (Claim : List ℕ → Type 0) (l : List ℕ) → Claim l → Sunk shapes s Claim l l false
  skipped Claim l h = record { steps = done; falls = λ e. absurd (false≢true e); quiet = λ e. (refl, h) }

  module _ (k : ℕ) (l : List ℕ) where
    pub no-parts : many_at shapes k ≡ 0 → Sunk shapes s (InOrder shapes s k) l l false
    no-parts z = skipped (InOrder shapes s k) l (λ a. inl (λ p h. absurd (omega arith)))

    pub not_active : active shapes s k ≡ false → Sunk shapes s (InOrder shapes s k) l l false
    not_active e = skipped (InOrder shapes s k) l (λ a. absurd (false≢true (sym e ∙ a)))

    module _ (low many : ℕ) (em : many ≡ many_at shapes k) (w : LowestPart shapes s.classes l k many low) where
      pub at_bottom : low ≡ 0 → Sunk shapes s (InOrder shapes s k) l l false
      at_bottom z = let (p, h, q) = w.some in skipped (InOrder shapes s k) l (λ a. inr (p, omega (arith, h, em), q ∙ z))

      module _ (c : ℕ) (ec : c ≡ own_class shapes s.classes k) where
        pub below : get_or l c 0 < low → Sunk shapes s (InOrder shapes s k) l l false
        below h = skipped (InOrder shapes s k) l (λ a. inl (λ p i. let e : get_or l c 0 ≡ own_level shapes s.classes l k = ap (λ (x : ℕ). get_or l x 0) ec in omega (arith, w.each p (omega (arith, i, em)), e)))

        pub sunk : k < 30 → ¬ (low ≡ 0) → low ≤ get_or l c 0 → active shapes s k ≡ true → (m : List ℕ) → m ≡ set l c (low - 1) → Sunk shapes s (InOrder shapes s k) l m true
        sunk hk n h a m em' = go w.some
          where
            own : own_level shapes s.classes l k ≡ get_or l c 0
            own = ap (λ (x : ℕ). get_or l x 0) (sym ec)

            new : m ≡ set l (own_class shapes s.classes k) (low - 1)
            new = em' ∙ ap (λ (x : ℕ). set l x (low - 1)) ec

            go : (p : ℕ) × (p < many) × (part_level shapes s.classes l k p ≡ low) → Sunk shapes s (InOrder shapes s k) l m true
            go (p, i, q) =
                rw new (record {
                  steps = then done k p (low - 1) hk (omega (arith, i, em)) a (omega (arith, q, n)) (omega (arith, own, h, n));
                  falls = λ e. sum-set_lt l (own_class shapes s.classes k) (low - 1) (omega (arith, own, h, n));
                  quiet = λ e. absurd (false≢true (sym e));
                })

  -- in a loop over the shapes from the last to the first
  pub none_yet : (l : List ℕ) → Sunk shapes s (LastInOrder shapes s 0) l l false
  none_yet l = skipped (LastInOrder shapes s 0) l (λ j h. absurd (omega arith))

  pub one_more : (n m k : ℕ) → m ≡ n + 1 → k ≡ 29 - n → {l l' l'' : List ℕ} (a b : Bool) → Sunk shapes s (LastInOrder shapes s n) l l' a → Sunk shapes s (InOrder shapes s k) l' l'' b
      → Sunk shapes s (LastInOrder shapes s m) l l'' (a || b)
  one_more n m k em ek {l = l} {l' = l'} {l'' = l''} a b p q = record { steps = sinks_on p.steps q.steps; falls = falls a b p.falls q.falls; quiet = λ e. quiet (none a b e) }
    where
      falls : (a b : Bool) → (a ≡ true → sum l' < sum l) → (b ≡ true → sum l'' < sum l') → (a || b) ≡ true → sum l'' < sum l
      falls true b f g e = omega (arith, f refl, sinks_le q.steps)
      falls false b f g e = omega (arith, g e, sinks_le p.steps)

      none : (a b : Bool) → (a || b) ≡ false → (a ≡ false) × (b ≡ false)
      none true b e = absurd (false≢true (sym e))
      none false b e = (refl, e)

      quiet : (a ≡ false) × (b ≡ false) → (l'' ≡ l) × LastInOrder shapes s m l
      quiet (x, y) =
          let (same, before) = p.quiet x in
          let (still, here) = q.quiet y in (
            still ∙ same,
            λ j h. by_test (ltb j n) (λ t. before j (ltb-true _ _ t))
                (λ t. let z : k ≡ 29 - j = omega (arith, em, ek, ltb-false j n t) in subst (λ (i : ℕ). InOrder shapes s i l) z (subst (InOrder shapes s k) same here)),
          )

  -- ---- the result

  module _ (held : Held s.classes) (l : List ℕ) (steps : Sinks shapes s top_levels l) where
    top_at : (c : ℕ) → c < 96 → get_or top_levels c 0 ≡ 31
    unfolding top_levels
    top_at c h = get_or-replicate {A = ℕ} 96 c 31 0 h

    top_most : (c : ℕ) → get_or top_levels c 0 ≤ 31
    unfolding top_levels
    top_most c = go 96 c
      where
        go : (n c : ℕ) → get_or (replicate n 31) c 0 ≤ 31
        go zero c = omega arith
        go (suc n) zero = omega arith
        go (suc n) (suc c) = go n c

    -- a class at the bottom: ranks do not fall
    sunk_deep : bottomed l 96 ≡ true → (ranking_of shapes s).falls ≡ false
    sunk_deep e =
        by_test (ranking_of shapes s).falls
        (λ t. let (c, h, z) = is-bottomed l e in
        absurd (omega (
          arith,
          z,
          ranks-low shapes s t c,
          sinks_above held (λ d. get_or (ranking_of shapes s).ranks d 0) (ranks_fall shapes s t) steps (λ d i. omega (arith, top_at d i)) c h,
        )))
        (λ t. t)

    -- all in order and none at the bottom: they do
    in_order : LastInOrder shapes s 30 l → bottomed l 96 ≡ false → (ranking_of shapes s).falls ≡ true
    in_order order e = heights_rank shapes s held (λ c. 30 - (get_or l c 0 - 1)) (λ c. omega arith) down
      where
        there : (x : ℕ) → 1 ≤ get_or l (get_or s.classes x 0) 0
        there x = not_bottomed l e (get_or s.classes x 0) (held.there x)

        at : (k : ℕ) → k < 30 → InOrder shapes s k l
        at k h = let z : 29 - (29 - k) ≡ k = omega arith in subst (λ (j : ℕ). InOrder shapes s j l) z (order (29 - k) (omega arith))

        down : (k p : ℕ) → k < 30 → p < many_at shapes k → active shapes s k ≡ true → 30 - (part_level shapes s.classes l k p - 1) < 30 - (own_level shapes s.classes l k - 1)
        down k p hk hp a = go (at k hk a)
          where
            go : ((p : ℕ) → p < many_at shapes k → own_level shapes s.classes l k < part_level shapes s.classes l k p) ⊎ ((p : ℕ) × (p < many_at shapes k) × (part_level shapes s.classes l k p ≡ 0))
                → 30 - (part_level shapes s.classes l k p - 1) < 30 - (own_level shapes s.classes l k - 1)
            go (inl f) = omega (arith, f p hp, there (owner_at shapes k), sinks_most steps top_most (part_class shapes s.classes k p))
            go (inr (j, h, z)) = absurd (omega (arith, z, there (part_at shapes k j)))

    pub told : {m : List ℕ} (r b : Bool) → r ≡ false → Sunk shapes s (LastInOrder shapes s 30) l m r → b ≡ bottomed m 96 → b ≡ not (ranking_of shapes s).falls
    told r b e p eb =
        let (same, order) = p.quiet e in
        let q : b ≡ bottomed l 96 = eb ∙ ap (λ (x : List ℕ). bottomed x 96) same in
        by_test (bottomed l 96) (λ t. q ∙ t ∙ ap not (sym (sunk_deep t))) (λ t. q ∙ t ∙ ap not (sym (in_order order t)))
