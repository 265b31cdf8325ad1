-- A claim about each fact of a list: of the facts of slots, and of one fact where a test says so. Assumes nothing.
use mathlib.Core.Path.{◌≡◌}
use mathlib.Core.Bool.{Bool, true}
use mathlib.Core.List.{List, [], ◌∷◌}
use Prim.Native.Nat.{ℕ, ◌<◌}
use native.Mathlib.Omega.{arith}
use Rattle.laws.specs.All.{All, All.more, All.none}
use Rattle.laws.specs.Lists.{concat_map, from, when}
use Rattle.laws.proofs.Lists.{all-concat_map, all-when, from_bounds, when_inv}
use Rattle.guard.specs.Closure.{Fact}

module _ (P : Fact → Type 0) where
  -- the facts of slots
  pub slots_all : (n : ℕ) (facts : ℕ → List Fact) → ((k : ℕ) → k < n → All P (facts k)) → All P (concat_map facts (from n 0))
  slots_all n facts h = all-concat_map facts (from n 0) (λ k m. h k (omega (arith, (from_bounds n 0 k m).1)))

  -- one fact where a test says so
  pub one-all : (test : Bool) (f : Fact) → (test ≡ true → P f) → All P (when test (f ∷ []))
  one-all test f h = all-when test (f ∷ []) (λ e. more (h e) none)

  pub all_one : (test : Bool) (f : Fact) → All P (when test (f ∷ [])) → test ≡ true → P f
  all_one test f h e = go (when_inv test (f ∷ []) h e)
    where
      go : All P (f ∷ []) → P f
      go (more p ps) = p
