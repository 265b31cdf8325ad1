-- Elements below c counted as c goes up: of the numbers below n that pass one test, those below c that pass another. Assumes nothing.
use mathlib.Core.Path.{◌≡◌, refl, ap, sym, ◌∙◌}
use mathlib.Core.Bool.{Bool, true, false, cond, ◌&&◌}
use mathlib.Core.List.{List}
use Prim.Native.Nat.{ℕ, zero, suc, ◌+◌, ◌≤◌, ◌<◌}
use native.Mathlib.Nat.{zero-add}
use native.Mathlib.Omega.{arith}
use lib.Dec.{eqb, ltb}
use lib.ListN.{length}
use borrow.Author.Tests.{eqb-false, eqb-true, le-ltb, lt-ltb}
use Rattle.laws.specs.Lists.{cons_if, filter, from}
use Rattle.laws.proofs.Bools.{by_test}

abbrev pub one : Bool → ℕ
one b = cond b 1 0

one-few : (b : Bool) → one b ≤ 1
one-few true = omega arith
one-few false = omega arith

module _ (p q : ℕ → Bool) where
  abbrev pub count_below : List ℕ → ℕ → ℕ
  count_below xs c = length (filter (λ y. ltb y c && p y) xs)

  count_head : (b : Bool) (a c : ℕ) (xs : List ℕ) → count_below (cons_if b a xs) c ≡ one (b && (ltb a c && p a)) + count_below xs c
  count_head false a c xs = sym (zero-add (count_below xs c))
  count_head true a c xs = go (ltb a c && p a)
    where
      go : (t : Bool) → length (cons_if t a (filter (λ y. ltb y c && p y) xs)) ≡ one t + count_below xs c
      go true = omega arith
      go false = sym (zero-add (count_below xs c))

  and_no : (b : Bool) → (b && false) ≡ false
  and_no true = refl
  and_no false = refl

  at-past : (a c : ℕ) → c ≤ a → one (q a && (ltb a c && p a)) ≡ 0
  at-past a c h = ap (λ (t : Bool). one (q a && (t && p a))) (le-ltb a c h) ∙ ap one (and_no (q a))

  at-below : (a c : ℕ) → a < c → one (q a && (ltb a c && p a)) ≡ one (q a && p a)
  at-below a c h = ap (λ (t : Bool). one (q a && (t && p a))) (lt-ltb a c h)

  -- the numbers from a on
  abbrev below : ℕ → ℕ → ℕ → ℕ
  below n a c = count_below (filter q (from n a)) c

  below-past : (n a c : ℕ) → c ≤ a → below n a c ≡ 0
  below-past zero a c h = refl
  below-past (suc n) a c h = omega (arith, count_head (q a) a c (filter q (from n (suc a))), at-past a c h, below-past n (suc a) c (omega arith))

  below_next : (n a c : ℕ) → a ≤ c → c < a + n → below n a (suc c) ≡ below n a c + one (q c && p c)
  below_next zero a c h l = absurd (omega arith)
  below_next (suc n) a c h l =
      by_test (eqb a c)
      (λ b. let e : a ≡ c = eqb-true _ _ b in
      omega (
        arith,
        count_head (q a) a (suc c) (filter q (from n (suc a))),
        count_head (q a) a c (filter q (from n (suc a))),
        at-below a (suc c) (omega arith),
        at-past a c (omega arith),
        below-past n (suc a) (suc c) (omega arith),
        below-past n (suc a) c (omega arith),
        ap (λ (k : ℕ). one (q k && p k)) e,
      ))
      (λ b. let n' : ¬ (a ≡ c) = eqb-false _ _ b in
      omega (
        arith,
        count_head (q a) a (suc c) (filter q (from n (suc a))),
        count_head (q a) a c (filter q (from n (suc a))),
        at-below a (suc c) (omega arith),
        at-below a c (omega arith),
        below_next n (suc a) c (omega arith) (omega arith),
      ))

  below-few : (n a d : ℕ) → below n a (a + d) ≤ d
  below-few zero a d = omega arith
  below-few (suc n) a zero = omega (arith, below-past (suc n) a (a + 0) (omega arith))
  below-few (suc n) a (suc d) =
      let e : suc a + d ≡ a + suc d = omega arith in
      omega (
        arith,
        count_head (q a) a (a + suc d) (filter q (from n (suc a))),
        one-few (q a && (ltb a (a + suc d) && p a)),
        below-few n (suc a) d,
        ap (below n (suc a)) e,
      )

  -- all numbers below n
  pub count_none : (n : ℕ) → count_below (filter q (from n 0)) 0 ≡ 0
  count_none n = below-past n 0 0 (omega arith)

  pub count_next : (n c : ℕ) → c < n → count_below (filter q (from n 0)) (suc c) ≡ count_below (filter q (from n 0)) c + one (q c && p c)
  count_next n c h = below_next n 0 c (omega arith) (omega arith)

  pub count-few : (n c : ℕ) → count_below (filter q (from n 0)) c ≤ c
  count-few n c = omega (arith, below-few n 0 c, ap (below n 0) (zero-add c))
