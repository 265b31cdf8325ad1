-- From the first constant of a class to whether it holds two that differ. Assumes nothing.
use mathlib.Core.Path.{◌≡◌, ap, sym, ◌∙◌}
use mathlib.Core.Bool.{Bool, false}
use mathlib.Core.List.{List}
use Prim.Native.Nat.{ℕ, ◌<◌}
use native.Mathlib.Omega.{arith}
use lib.IntN.{ℤ}
use Rattle.laws.proofs.Positions.{least_first}
use Rattle.loops.specs.Lowest.{SomePassing, lowest}
use Rattle.loops.proofs.Loops.{any_nowhere, some_passes}
use Rattle.loops.proofs.Tests.{no_and}
use Rattle.unlikeconstants.specs.Unlike.{has_other, is_constant_of, other_constant, unlike_in}

module _ (constants classes : List ℕ) (c : ℕ) (values : List ℤ) where
  pub others_pass : (f : ℕ) (post : ℕ → Bool → Type 0) (r : Bool) → ((k : ℕ) (b : Bool) → k < 30 → post k b → b ≡ other_constant constants values classes c f k) → SomePassing post 30 r
      → r ≡ has_other constants values classes c f
  unfolding has_other
  others_pass f post r same e = some_passes (other_constant constants values classes c f) post 30 r same e

  pub by_first : (f : ℕ) → f ≡ lowest (is_constant_of constants classes c) 30 → (b : Bool) → b ≡ has_other constants values classes c f → b ≡ unlike_in constants values classes c
  unfolding unlike_in
  by_first f is b e = e ∙ ap (has_other constants values classes c) is

  -- without a first one there is no other
  pub no_first : lowest (is_constant_of constants classes c) 30 ≡ 30 → false ≡ unlike_in constants values classes c
  unfolding unlike_in has_other other_constant lowest
  no_first e =
      any_nowhere (other_constant constants values classes c (lowest (is_constant_of constants classes c) 30)) 30 30 (omega arith)
      (λ k h. sym (no_and _ (least_first (is_constant_of constants classes c) 30 k (omega (arith, e, h)))))
