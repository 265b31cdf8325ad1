-- The next fresh number is not taken. The slots with constants of value z or above get fewer with each z that is taken; there
-- are 30 slots, so of 31 numbers in a row one is not taken. So fresh numbers rise, and none is 0. Assumes nothing.
use mathlib.Core.Path.{◌≡◌, refl, ap, sym, ◌∙◌, subst}
use mathlib.Core.Bool.{Bool, true, false, not, ◌&&◌}
use mathlib.Core.List.{List}
use Prim.Native.Nat.{ℕ, zero, suc, ◌+◌, ◌*◌, ◌≤◌, ◌<◌}
use native.Mathlib.Nat.{add-zero}
use native.Mathlib.Omega.{arith}
use lib.Dec.{leb, ltb}
use lib.IntN.{ℤ, pos, negsuc}
use lib.ListN.{length}
use borrow.Author.Tests.{le-leb, leb-true, lt-leb, ltb-false, ltb-true, not-false, not-true}
use Rattle.laws.specs.Lists.{filter, from}
use Rattle.laws.proofs.Bools.{and_both, and_left, and_right, by_test}
use Rattle.laws.proofs.Lists.{any_of, any_some, from-length, mem_from}
use Rattle.laws.proofs.Members.{filter_lt, filter-most}
use Rattle.laws.proofs.Positions.{least, least_first, least_most, least_passes}
use Rattle.guard.specs.Closure.{eq_z}
use Rattle.guard.proofs.ClosureBelow.{eq_z_true}
use Rattle.guard.proofs.LeastClosure.{eq_z_of}
use Rattle.loops.specs.Lowest.{lowest}
use Rattle.constants.specs.Constants.{constant_value, is_constant}
use Rattle.plans.specs.Fresh.{fresh_after, next_fresh, taken, taken_at}

-- a value is z or above
abbrev at_least : ℕ → ℤ → Bool
at_least z (pos y) = leb z y
at_least z (negsuc y) = false

module _ (constants : List ℕ) (values : List ℤ) where
  -- a constant of value z or above in slot k, and how many slots have one
  abbrev above_at : ℕ → ℕ → Bool
  above_at z k = is_constant constants k && at_least z (constant_value values k)

  above : ℕ → ℕ
  above z = length (filter (above_at z) (from 30 0))

  above_few : (z : ℕ) → above z ≤ 30
  unfolding above
  above_few z = omega (arith, filter-most (above_at z) (from 30 0), from-length 30 0)

  pub taken_of : (z k : ℕ) → k < 30 → is_constant constants k ≡ true → constant_value values k ≡ pos z → taken constants values z ≡ true
  unfolding taken taken_at
  taken_of z k h c e =
      any_of (λ k. is_constant constants k && eq_z (constant_value values k) (pos z)) (from 30 0) k (mem_from 30 0 k (omega arith) (omega arith)) (and_both (is_constant constants k) _ c (eq_z_of (constant_value values k) (pos z) e))

  at_next : (z : ℕ) (v : ℤ) → at_least (suc z) v ≡ true → at_least z v ≡ true
  at_next z (pos y) e = le-leb z y (omega (arith, leb-true (suc z) y e))
  at_next z (negsuc y) e = e

  taken-falls : (z : ℕ) → taken constants values z ≡ true → above (suc z) < above z
  unfolding taken taken_at above
  taken-falls z e =
      let (k, m, q) = any_some (λ k. is_constant constants k && eq_z (constant_value values k) (pos z)) (from 30 0) e in
      let v : constant_value values k ≡ pos z = eq_z_true (constant_value values k) (pos z) (and_right (is_constant constants k) _ q) in
      filter_lt (above_at (suc z)) (above_at z) (from 30 0)
      (λ j n r. and_both (is_constant constants j) _ (and_left (is_constant constants j) _ r) (at_next z (constant_value values j) (and_right (is_constant constants j) _ r)))
      k m
      (and_no (is_constant constants k) (ap (at_least (suc z)) v ∙ lt-leb (suc z) z (omega arith)))
      (and_both (is_constant constants k) _ (and_left (is_constant constants k) _ q) (ap (at_least z) v ∙ le-leb z z (omega arith)))
    where
      and_no : (a : Bool) {b : Bool} → b ≡ false → (a && b) ≡ false
      and_no true e = e
      and_no false e = refl

  -- numbers in a row that are all taken
  run : (n z : ℕ) → ((k : ℕ) → k < n → taken constants values (z + k) ≡ true) → above (z + n) + n ≤ above z
  run zero z h = omega (arith, ap above (add-zero z))
  run (suc n) z h =
      let e : suc z + n ≡ z + suc n = omega arith in
      omega (
        arith,
        ap above e,
        taken-falls z (subst (λ (m : ℕ). taken constants values m ≡ true) (add-zero z) (h 0 (omega arith))),
        run n (suc z) (λ k l. let q : z + suc k ≡ suc z + k = omega arith in subst (λ (m : ℕ). taken constants values m ≡ true) q (h (suc k) (omega arith))),
      )

  pub next_untaken : (z : ℕ) → taken constants values (next_fresh constants values z) ≡ false
  unfolding next_fresh lowest
  next_untaken z =
      by_test (ltb (least free 30) 30) (λ b. not-true _ (least_passes free 30 (ltb-true _ _ b)))
      (λ b. let e : least free 30 ≡ 30 = omega (arith, ltb-false (least free 30) 30 b, least_most free 30) in
      subst (λ (m : ℕ). taken constants values (suc z + m) ≡ false) (sym e) (by_test (taken constants values (suc z + 30)) (λ t. absurd (all-taken e t)) (λ t. t)))
    where
      free : ℕ → Bool
      free k = not (taken constants values (suc z + k))

      all-taken : least free 30 ≡ 30 → taken constants values (suc z + 30) ≡ true → ⊥
      all-taken e t =
          omega (
            arith,
            above_few (suc z),
            run 31 (suc z) (λ k l. by_test (ltb k 30) (λ b. not-false _ (least_first free 30 k (omega (arith, ltb-true k 30 b)))) (λ b. let q : 30 ≡ k = omega (arith, ltb-false k 30 b) in subst (λ (m : ℕ). taken constants values (suc z + m) ≡ true) q t)),
          )

  pub next_above : (z : ℕ) → z < next_fresh constants values z
  unfolding next_fresh
  next_above z = omega arith

  pub next_near : (z : ℕ) → next_fresh constants values z ≤ z + 31
  unfolding next_fresh lowest
  next_near z = omega (arith, least_most (λ k. not (taken constants values (suc z + k))) 30)

  -- ---- one after the other

  pub fresh_untaken : (k : ℕ) → taken constants values (fresh_after constants values (suc k)) ≡ false
  unfolding fresh_after
  fresh_untaken k = next_untaken (fresh_after constants values k)

  pub fresh_rises : (k : ℕ) → fresh_after constants values k < fresh_after constants values (suc k)
  unfolding fresh_after
  fresh_rises k = next_above (fresh_after constants values k)

  pub fresh_positive : (k : ℕ) → 0 < fresh_after constants values (suc k)
  fresh_positive k = omega (arith, fresh_rises k)

  -- in steps of at most 31
  pub fresh-few : (k : ℕ) → fresh_after constants values k ≤ 31 * k
  unfolding fresh_after
  fresh-few zero = omega arith
  fresh-few (suc k) = omega (arith, next_near (fresh_after constants values k), fresh-few k)

  fresh_least : (k d : ℕ) → fresh_after constants values k + d ≤ fresh_after constants values (k + d)
  fresh_least k zero = omega (arith, ap (fresh_after constants values) (add-zero k))
  fresh_least k (suc d) =
      let e : suc (k + d) ≡ k + suc d = omega arith in
      omega (arith, fresh_least k d, fresh_rises (k + d), ap (fresh_after constants values) e)

  pub fresh-less : (j k : ℕ) → j < k → fresh_after constants values j < fresh_after constants values k
  fresh-less j k h =
      let (d, e) = difference j k h in
      omega (arith, fresh_rises j, fresh_least (suc j) d, ap (fresh_after constants values) e)
    where
      difference : (j k : ℕ) → j < k → (d : ℕ) × (suc j + d ≡ k)
      difference zero (suc k) h = (k, omega arith)
      difference (suc j) (suc k) h = let (d, e) = difference j k (omega arith) in (d, omega (arith, e))
      difference j zero h = absurd (omega arith)

  pub fresh_once : (j k : ℕ) → fresh_after constants values j ≡ fresh_after constants values k → j ≡ k
  fresh_once j k e =
      by_test (ltb j k) (λ b. absurd (omega (arith, fresh-less j k (ltb-true _ _ b))))
      (λ b. by_test (ltb k j) (λ d. absurd (omega (arith, fresh-less k j (ltb-true _ _ d)))) (λ d. omega (arith, ltb-false j k b, ltb-false k j d)))
