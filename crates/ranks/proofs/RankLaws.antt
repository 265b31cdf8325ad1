-- The ranks, where they fall: a part of an active shape has a lower rank than the shape. They do fall where any heights
-- of at most 30 do: a class that is raised in a round has a part that was raised in the round before or in this one, so
-- its height is at least the number of the round. Assumes nothing.
use mathlib.Core.Path.{◌≡◌, refl, ap, sym, ◌∙◌, subst}
use mathlib.Core.Logic.{◌⊎◌, inl, inr}
use mathlib.Core.Bool.{Bool, true, false, cond, false≢true, ◌||◌}
use mathlib.Core.List.{List}
use Prim.Native.Nat.{ℕ, zero, suc, ◌+◌, ◌≤◌, ◌<◌}
use native.Mathlib.Omega.{arith}
use lib.Dec.{eqb, ltb}
use lib.ListN.{length, get_or, set, replicate, length-set, length-replicate}
use lib.Seq.{get_or-set_same, get_or-set_other}
use borrow.Author.Tests.{leb-true, leb-false, eqb-true, eqb-false, ltb-true, ltb-false}
use Rattle.laws.specs.Lists.{from}
use Rattle.laws.proofs.Bools.{and-false, and_left, and_right, by_test, or_cases, or_false}
use Rattle.laws.proofs.Lists.{any_none, any_some, from_bounds, mem_from}
use Rattle.laws.proofs.Stores.{set_ind}
use Rattle.guard.specs.Closure.{State}
use Rattle.classes.specs.Held.{Held}
use Rattle.arrays.specs.Slots.{active, many_at, owner_at}
use Rattle.ranks.specs.Ranks.{is_above, low, no_ranks, own_class, part_above, part_class, raised, raised_to, raises_to, rank_from, ranking_of}

zeros : (n c : ℕ) → ◌≡◌ {A = ℕ} (get_or (replicate n 0) c 0) 0
zeros zero c = refl
zeros (suc n) zero = refl
zeros (suc n) (suc c) = zeros n c

no-rank : (c : ℕ) → get_or no_ranks c 0 ≡ 0
unfolding no_ranks
no-rank c = zeros 96 c

module _ (shapes : List ℕ) (s : State) where
  abbrev own : ℕ → ℕ
  own = own_class shapes s.classes

  abbrev part : ℕ → ℕ → ℕ
  part = part_class shapes s.classes

  -- ---- a shape that is low has a part that is not below it

  low_part : (ranks : List ℕ) (k : ℕ) → low shapes s ranks k ≡ true
      → (active shapes s k ≡ true) × ((p : ℕ) × (p < many_at shapes k) × (get_or ranks (own k) 0 ≤ get_or ranks (part k p) 0))
  unfolding low part_above
  low_part ranks k e =
      let (p, m, q) = any_some (is_above shapes s.classes ranks k) (from (many_at shapes k) 0) (and_left (part_above shapes s.classes ranks k) (active shapes s k) e) in
      (and_right (part_above shapes s.classes ranks k) (active shapes s k) e, (p, omega (arith, (from_bounds (many_at shapes k) 0 p m).1), leb-true _ _ q))

  high_part : (ranks : List ℕ) (k : ℕ) → low shapes s ranks k ≡ false → active shapes s k ≡ true → (p : ℕ) → p < many_at shapes k → get_or ranks (part k p) 0 < get_or ranks (own k) 0
  unfolding low part_above
  high_part ranks k e a p h = go (and-false (part_above shapes s.classes ranks k) (active shapes s k) e)
    where
      go : (part_above shapes s.classes ranks k ≡ false) ⊎ (active shapes s k ≡ false) → get_or ranks (part k p) 0 < get_or ranks (own k) 0
      go (inl q) = leb-false _ _ (any_none (is_above shapes s.classes ranks k) (from (many_at shapes k) 0) q p (mem_from (many_at shapes k) 0 p (omega arith) (omega arith)))
      go (inr q) = absurd (false≢true (sym q ∙ a))

  -- ---- a round that raises nothing

  still : (round k : ℕ) (ranks : List ℕ) → raises_to shapes s round k ranks ≡ false
      → (raised_to shapes s round k ranks ≡ ranks) × ((j : ℕ) → j < k → low shapes s ranks j ≡ false)
  unfolding raises_to raised_to raised
  still round zero ranks e = (refl, λ j h. absurd (omega arith))
  still round (suc k) ranks e =
      let (a, b) = or_false (raises_to shapes s round k ranks) (low shapes s (raised_to shapes s round k ranks) k) e in
      let (q, f) = still round k ranks a in
      let here : low shapes s ranks k ≡ false = ap (λ (l : List ℕ). low shapes s l k) (sym q) ∙ b in (
        ap (λ (x : Bool). cond x (set (raised_to shapes s round k ranks) (own k) round) (raised_to shapes s round k ranks)) b ∙ q,
        λ j h. by_test (ltb j k) (λ t. f j (ltb-true _ _ t)) (λ t. let z : j ≡ k = omega (arith, ltb-false j k t) in ap (low shapes s ranks) z ∙ here),
      )

  settled : (left round : ℕ) (ranks : List ℕ) → (rank_from shapes s left round ranks).falls ≡ true → (k : ℕ) → k < 30 → low shapes s (rank_from shapes s left round ranks).ranks k ≡ false
  unfolding rank_from
  settled zero round ranks e = absurd (false≢true e)
  settled (suc left) round ranks e = go (settled left (suc round) (raised_to shapes s round 30 ranks)) (raises_to shapes s round 30 ranks) refl e
    where
      go : ((rank_from shapes s left (suc round) (raised_to shapes s round 30 ranks)).falls ≡ true → (k : ℕ) → k < 30 → low shapes s (rank_from shapes s left (suc round) (raised_to shapes s round 30 ranks)).ranks k ≡ false) → (b : Bool) → raises_to shapes s round 30 ranks ≡ b
          → (cond b (rank_from shapes s left (suc round) (raised_to shapes s round 30 ranks)) (record { falls = true; ranks = raised_to shapes s round 30 ranks })).falls ≡ true
          → (k : ℕ) → k < 30 → low shapes s (cond b (rank_from shapes s left (suc round) (raised_to shapes s round 30 ranks)) (record { falls = true; ranks = raised_to shapes s round 30 ranks })).ranks k ≡ false
      go ih true q f k h = ih f k h
      go ih false q f k h = let (same, none) = still round 30 ranks q in ap (λ (l : List ℕ). low shapes s l k) same ∙ none k h

  pub ranks_fall : (ranking_of shapes s).falls ≡ true → (k p : ℕ) → k < 30 → p < many_at shapes k → active shapes s k ≡ true
      → get_or (ranking_of shapes s).ranks (part_class shapes s.classes k p) 0 < get_or (ranking_of shapes s).ranks (own_class shapes s.classes k) 0
  unfolding ranking_of
  ranks_fall e k p h l a = high_part (rank_from shapes s 31 1 no_ranks).ranks k (settled 31 1 no_ranks e k h) a p l

  -- ---- ranks are small

  round_small : (m round k : ℕ) (ranks : List ℕ) → round ≤ m → ((c : ℕ) → get_or ranks c 0 ≤ m) → (c : ℕ) → get_or (raised_to shapes s round k ranks) c 0 ≤ m
  unfolding raised_to raised
  round_small m round zero ranks h f c = f c
  round_small m round (suc k) ranks h f c = go (low shapes s (raised_to shapes s round k ranks) k) (round_small m round k ranks h f)
    where
      go : (b : Bool) → ((c : ℕ) → get_or (raised_to shapes s round k ranks) c 0 ≤ m) → get_or (cond b (set (raised_to shapes s round k ranks) (own k) round) (raised_to shapes s round k ranks)) c 0 ≤ m
      go true ih = set_ind (λ x. x ≤ m) (raised_to shapes s round k ranks) (own k) round c (omega arith) (λ q. h) (ih c)
      go false ih = ih c

  rounds_small : (left round : ℕ) (ranks : List ℕ) → left + round ≤ 32 → ((c : ℕ) → get_or ranks c 0 ≤ 31) → (c : ℕ) → get_or (rank_from shapes s left round ranks).ranks c 0 ≤ 31
  unfolding rank_from
  rounds_small zero round ranks h f c = f c
  rounds_small (suc left) round ranks h f c =
      let next : (c : ℕ) → get_or (raised_to shapes s round 30 ranks) c 0 ≤ 31 = round_small 31 round 30 ranks (omega arith) f in
      go (next c) (rounds_small left (suc round) (raised_to shapes s round 30 ranks) (omega arith) next c) (raises_to shapes s round 30 ranks)
    where
      go : get_or (raised_to shapes s round 30 ranks) c 0 ≤ 31 → get_or (rank_from shapes s left (suc round) (raised_to shapes s round 30 ranks)).ranks c 0 ≤ 31 → (b : Bool) → get_or (cond b (rank_from shapes s left (suc round) (raised_to shapes s round 30 ranks)) (record { falls = true; ranks = raised_to shapes s round 30 ranks })).ranks c 0 ≤ 31
      go now later true = later
      go now later false = now

  pub ranks-small : (c : ℕ) → get_or (ranking_of shapes s).ranks c 0 ≤ 31
  unfolding ranking_of
  ranks-small = rounds_small 31 1 no_ranks (omega arith) (λ c. omega (arith, no-rank c))

  -- where they fall, the last round raised nothing
  rounds_low : (left round : ℕ) (ranks : List ℕ) → left + round ≤ 32 → ((c : ℕ) → get_or ranks c 0 < round) → (rank_from shapes s left round ranks).falls ≡ true → (c : ℕ) → get_or (rank_from shapes s left round ranks).ranks c 0 ≤ 30
  unfolding rank_from
  rounds_low zero round ranks h f e c = absurd (false≢true e)
  rounds_low (suc left) round ranks h f e c =
      go (rounds_low left (suc round) (raised_to shapes s round 30 ranks) (omega arith) (λ d. omega (arith, round_small round round 30 ranks (omega arith) (λ x. omega (arith, f x)) d))) (raises_to shapes s round 30 ranks) refl e
    where
      go : ((rank_from shapes s left (suc round) (raised_to shapes s round 30 ranks)).falls ≡ true → (c : ℕ) → get_or (rank_from shapes s left (suc round) (raised_to shapes s round 30 ranks)).ranks c 0 ≤ 30) → (b : Bool) → raises_to shapes s round 30 ranks ≡ b
          → (cond b (rank_from shapes s left (suc round) (raised_to shapes s round 30 ranks)) (record { falls = true; ranks = raised_to shapes s round 30 ranks })).falls ≡ true
          → get_or (cond b (rank_from shapes s left (suc round) (raised_to shapes s round 30 ranks)) (record { falls = true; ranks = raised_to shapes s round 30 ranks })).ranks c 0 ≤ 30
      go ih true q t = ih t c
      go ih false q t = let same : get_or (raised_to shapes s round 30 ranks) c 0 ≡ get_or ranks c 0 = ap (λ (l : List ℕ). get_or l c 0) (still round 30 ranks q).0 in omega (arith, same, f c)

  pub ranks-low : (ranking_of shapes s).falls ≡ true → (c : ℕ) → get_or (ranking_of shapes s).ranks c 0 ≤ 30
  unfolding ranking_of
  ranks-low e = rounds_low 31 1 no_ranks (omega arith) (λ c. omega (arith, no-rank c)) e

  -- ---- where heights fall, ranks do

  module _ (held : Held s.classes) (height : ℕ → ℕ) (most : (c : ℕ) → height c ≤ 30)
      (down : (k p : ℕ) → k < 30 → p < many_at shapes k → active shapes s k ≡ true → height (part_class shapes s.classes k p) < height (own_class shapes s.classes k)) where
    -- in a round, after shape j: what is not in order is due to a part that was raised in the round before or in this one
    record Going (round j : ℕ) (ranks : List ℕ) : Type 0 where
      long : length ranks ≡ 96
      cap : (c : ℕ) → get_or ranks c 0 ≤ round
      under : (c : ℕ) → get_or ranks c 0 ≤ height c
      due : (k p : ℕ) → k < 30 → p < many_at shapes k → active shapes s k ≡ true
          → (get_or ranks (part k p) 0 < get_or ranks (own k) 0) ⊎ ((round ≤ suc (get_or ranks (part k p) 0)) × (k < j → round ≤ get_or ranks (part k p) 0))

    -- a shape that is low: its class is at least as high as the round says
    raise_high : (round j : ℕ) (ranks : List ℕ) → Going round j ranks → j < 30 → low shapes s ranks j ≡ true → round ≤ height (own j)
    raise_high round j ranks g h e =
        let (a, (p, l, above)) = low_part ranks j e in
        go p l a above (g.due j p h l a)
      where
        go : (p : ℕ) → p < many_at shapes j → active shapes s j ≡ true → get_or ranks (own j) 0 ≤ get_or ranks (part j p) 0
            → (get_or ranks (part j p) 0 < get_or ranks (own j) 0) ⊎ ((round ≤ suc (get_or ranks (part j p) 0)) × (j < j → round ≤ get_or ranks (part j p) 0)) → round ≤ height (own j)
        go p l a above (inl f) = absurd (omega arith)
        go p l a above (inr f) = omega (arith, f.0, g.under (part j p), down j p h l a)

    kept : (round j : ℕ) (ranks : List ℕ) → Going round j ranks → j < 30 → low shapes s ranks j ≡ false → Going round (suc j) ranks
    kept round j ranks g h e = record { long = g.long; cap = g.cap; under = g.under; due = λ k p hk hp a. go k p hk hp a (g.due k p hk hp a) }
      where
        go : (k p : ℕ) → k < 30 → p < many_at shapes k → active shapes s k ≡ true
            → (get_or ranks (part k p) 0 < get_or ranks (own k) 0) ⊎ ((round ≤ suc (get_or ranks (part k p) 0)) × (k < j → round ≤ get_or ranks (part k p) 0))
            → (get_or ranks (part k p) 0 < get_or ranks (own k) 0) ⊎ ((round ≤ suc (get_or ranks (part k p) 0)) × (k < suc j → round ≤ get_or ranks (part k p) 0))
        go k p hk hp a (inl f) = inl f
        go k p hk hp a (inr (x, y)) =
            by_test (ltb k j) (λ t. inr (x, λ l. y (ltb-true _ _ t)))
            (λ t. by_test (ltb j k) (λ u. inr (x, λ l. absurd (omega (arith, l, ltb-true j k u))))
            (λ u. let z : k ≡ j = omega (arith, ltb-false k j t, ltb-false j k u) in inl (high_part ranks k (ap (low shapes s ranks) z ∙ e) a p hp)))

    up : (round j : ℕ) (ranks : List ℕ) → Going round j ranks → j < 30 → low shapes s ranks j ≡ true → Going round (suc j) (set ranks (own j) round)
    up round j ranks g h e =
        record {
          long = length-set ranks c round ∙ g.long;
          cap = λ d. set_ind (λ x. x ≤ round) ranks c round d (omega arith) (λ q. omega arith) (g.cap d);
          under = λ d. by_test (eqb c d) (λ t. let z : c ≡ d = eqb-true _ _ t in subst (λ (d : ℕ). get_or (set ranks c round) d 0 ≤ height d) z (omega (arith, here, raise_high round j ranks g h e)))
              (λ t. omega (arith, other d (eqb-false _ _ t), g.under d));
          due = λ k p hk hp a. by_test (eqb c (part k p)) (λ t. inr (at_part k p (eqb-true _ _ t)))
              (λ t. by_test (eqb c (own k)) (λ u. at_own k p (eqb-false _ _ t) (eqb-true _ _ u)) (λ u. elsewhere k p (eqb-false _ _ t) (eqb-false _ _ u) (g.due k p hk hp a)));
        }
      where
        c : ℕ
        c = own j

        next : List ℕ
        next = set ranks (own j) round

        here : get_or (set ranks (own j) round) (own j) 0 ≡ round
        here = get_or-set_same ranks (own j) round 0 (omega (arith, g.long, held.there (owner_at shapes j)))

        other : (d : ℕ) → ¬ (own j ≡ d) → get_or (set ranks (own j) round) d 0 ≡ get_or ranks d 0
        other d n = get_or-set_other ranks (own j) d round 0 (λ e. n (sym e))

        at_part : (k p : ℕ) → own j ≡ part k p → (round ≤ suc (get_or next (part k p) 0)) × (k < suc j → round ≤ get_or next (part k p) 0)
        at_part k p z = let q : get_or next (part k p) 0 ≡ round = ap (λ (d : ℕ). get_or next d 0) (sym z) ∙ here in (omega arith, λ l. omega arith)

        at_own : (k p : ℕ) → ¬ (own j ≡ part k p) → own j ≡ own k
            → (get_or next (part k p) 0 < get_or next (own k) 0) ⊎ ((round ≤ suc (get_or next (part k p) 0)) × (k < suc j → round ≤ get_or next (part k p) 0))
        at_own k p n z =
            let q : get_or next (own k) 0 ≡ round = ap (λ (d : ℕ). get_or next d 0) (sym z) ∙ here in
            by_test (ltb (get_or next (part k p) 0) round) (λ t. inl (omega (arith, q, ltb-true (get_or next (part k p) 0) round t)))
            (λ t. inr (omega (arith, ltb-false (get_or next (part k p) 0) round t), λ l. ltb-false (get_or next (part k p) 0) round t))

        elsewhere : (k p : ℕ) → ¬ (own j ≡ part k p) → ¬ (own j ≡ own k)
            → (get_or ranks (part k p) 0 < get_or ranks (own k) 0) ⊎ ((round ≤ suc (get_or ranks (part k p) 0)) × (k < j → round ≤ get_or ranks (part k p) 0))
            → (get_or next (part k p) 0 < get_or next (own k) 0) ⊎ ((round ≤ suc (get_or next (part k p) 0)) × (k < suc j → round ≤ get_or next (part k p) 0))
        elsewhere k p n m (inl f) = inl (omega (arith, other (part k p) n, other (own k) m))
        elsewhere k p n m (inr (x, y)) =
            inr (
              omega (arith, other (part k p) n),
              λ l. by_test (ltb k j) (λ t. omega (arith, y (ltb-true _ _ t), other (part k p) n))
                  (λ t. let z : j ≡ k = omega (arith, ltb-false k j t) in absurd (m (ap own z))),
            )

    round_going : (round k : ℕ) (ranks : List ℕ) → k ≤ 30 → Going round 0 ranks → Going round k (raised_to shapes s round k ranks) × (raises_to shapes s round k ranks ≡ true → round ≤ 30)
    unfolding raised_to raises_to raised
    round_going round zero ranks h g = (g, λ e. absurd (false≢true e))
    round_going round (suc k) ranks h g =
        let (ih, some) = round_going round k ranks (omega arith) g in
        go ih some (low shapes s (raised_to shapes s round k ranks) k) refl
      where
        go : Going round k (raised_to shapes s round k ranks) → (raises_to shapes s round k ranks ≡ true → round ≤ 30) → (b : Bool) → low shapes s (raised_to shapes s round k ranks) k ≡ b
            → Going round (suc k) (cond b (set (raised_to shapes s round k ranks) (own k) round) (raised_to shapes s round k ranks)) × ((raises_to shapes s round k ranks || b) ≡ true → round ≤ 30)
        go ih some true e = (up round k (raised_to shapes s round k ranks) ih (omega arith) e, λ q. omega (arith, raise_high round k (raised_to shapes s round k ranks) ih (omega arith) e, most (own k)))
        go ih some false e = (kept round k (raised_to shapes s round k ranks) ih (omega arith) e, λ q. either (or_cases (raises_to shapes s round k ranks) false q))
          where
            either : (raises_to shapes s round k ranks ≡ true) ⊎ (false ≡ true) → round ≤ 30
            either (inl z) = some z
            either (inr z) = absurd (false≢true z)

    -- into the next round
    over : (round : ℕ) (ranks : List ℕ) → Going round 30 ranks → Going (suc round) 0 ranks
    over round ranks g = record { long = g.long; cap = λ c. omega (arith, g.cap c); under = g.under; due = λ k p hk hp a. go k p hk (g.due k p hk hp a) }
      where
        go : (k p : ℕ) → k < 30 → (get_or ranks (part k p) 0 < get_or ranks (own k) 0) ⊎ ((round ≤ suc (get_or ranks (part k p) 0)) × (k < 30 → round ≤ get_or ranks (part k p) 0))
            → (get_or ranks (part k p) 0 < get_or ranks (own k) 0) ⊎ ((suc round ≤ suc (get_or ranks (part k p) 0)) × (k < 0 → suc round ≤ get_or ranks (part k p) 0))
        go k p hk (inl f) = inl f
        go k p hk (inr (x, y)) = inr (omega (arith, y hk), λ l. absurd (omega arith))

    all_rounds : (left round : ℕ) (ranks : List ℕ) → left + round ≡ 32 → round ≤ 31 → Going round 0 ranks → (rank_from shapes s left round ranks).falls ≡ true
    unfolding rank_from
    all_rounds zero round ranks e h g = absurd (omega arith)
    all_rounds (suc left) round ranks e h g =
        let (going, some) = round_going round 30 ranks (omega arith) g in
        go (λ f. all_rounds left (suc round) (raised_to shapes s round 30 ranks) (omega arith) (omega (arith, f)) (over round (raised_to shapes s round 30 ranks) going)) (raises_to shapes s round 30 ranks) some
      where
        go : (round ≤ 30 → (rank_from shapes s left (suc round) (raised_to shapes s round 30 ranks)).falls ≡ true) → (b : Bool) → (b ≡ true → round ≤ 30) → (cond b (rank_from shapes s left (suc round) (raised_to shapes s round 30 ranks)) (record { falls = true; ranks = raised_to shapes s round 30 ranks })).falls ≡ true
        go ih true f = ih (f refl)
        go ih false f = refl

    pub heights_rank : (ranking_of shapes s).falls ≡ true
    unfolding ranking_of no_ranks
    heights_rank =
        all_rounds 31 1 no_ranks refl (omega arith)
        (record {
          long = length-replicate {A = ℕ} 96 0;
          cap = λ c. omega (arith, no-rank c);
          under = λ c. omega (arith, no-rank c);
          due = λ k p hk hp a. inr (omega arith, λ l. absurd (omega arith));
        })
