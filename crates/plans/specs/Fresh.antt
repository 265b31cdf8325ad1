-- Fresh numbers: those that no constant of the guard has, one after the other. Assumes nothing: definitions.
use Rattle.std.specs.Prelude.{Bool, not, ◌&&◌, List, ℕ, zero, suc, ◌+◌, ℤ, pos}
use Rattle.laws.specs.Lists.{any, from}
use Rattle.guard.specs.Closure.{eq_z}
use Rattle.loops.specs.Lowest.{lowest}
use Rattle.constants.specs.Constants.{constant_value, is_constant}

module _ (constants : List ℕ) (values : List ℤ) where
  -- slot k has a constant of value z
  unfoldable pub taken_at : ℕ → ℕ → Bool
  taken_at z k = is_constant constants k && eq_z (constant_value values k) (pos z)

  -- some slot has a constant of value z, of any type
  unfoldable pub taken : ℕ → Bool
  taken z = any (taken_at z) (from 30 0)

  -- the lowest number above z that is not taken: there are at most 30 constants
  unfoldable pub next_fresh : ℕ → ℕ
  next_fresh z = suc z + lowest (λ k. not (taken (suc z + k))) 30

  -- the k-th fresh number above 0
  unfoldable pub fresh_after : ℕ → ℕ
  fresh_after zero = 0
  fresh_after (suc k) = next_fresh (fresh_after k)
