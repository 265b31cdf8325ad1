-- Steps through the column of next types a turn at a time, the lowest type so far, and that what a loop found is the entry.
-- Assumes nothing.
use mathlib.Core.Path.{◌≡◌, refl, ap, sym, ◌∙◌}
use mathlib.Core.Bool.{Bool, true, false}
use mathlib.Core.List.{List}
use Prim.Native.Nat.{ℕ, zero, suc, ◌+◌, ◌-◌, ◌≤◌, ◌<◌, min}
use native.Mathlib.Numerals.{add-one}
use native.Mathlib.Omega.{arith}
use lib.ListN.{get_or}
use Rattle.laws.proofs.Positions.{least, least_most}
use Rattle.growth.proofs.Orbit.{distance, iterate, iterate_add, lowest, period, root}
use Rattle.columns.proofs.Searches.{least_here, least_on}
use Rattle.orbits.specs.Orbits.{distance_entry, met_after, on_to, period_entry, root_entry}

-- steps of a function
module _ (f : ℕ → ℕ) where
  pub iterate_next : (k x u : ℕ) → u ≡ iterate f k x → f u ≡ iterate f (k + 1) x
  iterate_next k x u e = ap f e ∙ sym (iterate_add f k 1 x)

  lowest-last : (k x : ℕ) → lowest f (suc k) x ≡ min (lowest f k x) (iterate f (suc k) x)
  lowest-last zero x = refl
  lowest-last (suc k) x = omega (arith, lowest-last k (f x))

  pub lowest-next : (k x low : ℕ) → low ≡ lowest f k x → min low (iterate f (k + 1) x) ≡ lowest f (k + 1) x
  lowest-next k x low e =
      ap (λ (l : ℕ). min l (iterate f (k + 1) x)) e ∙ ap (λ (j : ℕ). min (lowest f k x) (iterate f j x)) (add-one k) ∙ sym (lowest-last k x)
      ∙ ap (λ (j : ℕ). lowest f j x) (sym (add-one k))

-- a step more
pub at_next : (next : List ℕ) (u x k t : ℕ) → x ≡ get_or next u 0 → u ≡ iterate (on_to next) k t → x ≡ iterate (on_to next) (k + 1) t
unfolding on_to
at_next next u x k t is_x e = is_x ∙ iterate_next (on_to next) k t u e

-- ---- cycles

-- the lowest so far, and one step more
pub root-next : (next : List ℕ) (k start low u x : ℕ) → low ≡ lowest (on_to next) k start → u ≡ iterate (on_to next) (k + 1) start → x ≡ min low u → x ≡ lowest (on_to next) (k + 1) start
root-next next k start low u x e is_u is_x = is_x ∙ ap (min low) is_u ∙ lowest-next (on_to next) k start low e

module _ (next : List ℕ) (many t : ℕ) where
  pub root_is : (start x : ℕ) → start ≡ iterate (on_to next) many t → x ≡ lowest (on_to next) many start → x ≡ root_entry next many t
  unfolding root_entry root
  root_is start x isStart e = e ∙ ap (lowest (on_to next) many) isStart

  pub distance_is : (u x : ℕ) → u ≡ root_entry next many t → x ≡ least (met_after next t u) many → x ≡ distance_entry next many t
  unfolding root_entry distance_entry distance met_after
  distance_is u x isRoot e = e ∙ ap (λ (r : ℕ). least (met_after next t r) many) isRoot

  -- back after one step more than k
  abbrev back_after : ℕ → Bool
  back_after k = met_after next t t (suc k)

  period_least : period_entry next many t ≡ suc (least back_after (many - 1))
  unfolding period_entry period met_after
  period_least = refl

  pub period-start : 1 ≤ period_entry next many t
  period-start = omega (arith, period_least)

  -- the period is not below k
  module _ (k : ℕ) (positive : 1 ≤ k) (not_below : k ≤ period_entry next many t) where
    last_step : met_after next t t k ≡ back_after (k - 1)
    last_step = let e : k ≡ suc (k - 1) = omega arith in ap (met_after next t t) e

    pub period-here : {answer : Bool} → answer ≡ met_after next t t k → answer ≡ true → k ≡ period_entry next many t
    period-here e y = omega (arith, period_least, least_here back_after (many - 1) (k - 1) (omega (arith, period_least)) (e ∙ last_step) y)

    pub period-on : {answer : Bool} → k < many → answer ≡ met_after next t t k → answer ≡ false → k + 1 ≤ period_entry next many t
    period-on h e y = omega (arith, period_least, least_on back_after (many - 1) (k - 1) (omega (arith, period_least)) (omega arith) (e ∙ last_step) y)

    pub period_end : many ≤ k → k ≡ period_entry next many t
    period_end h = omega (arith, period_least, least_most back_after (many - 1))
