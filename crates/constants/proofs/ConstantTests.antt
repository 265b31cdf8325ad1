-- What the tests of the code say of the term and the value of a constant. Assumes nothing.
use mathlib.Core.Path.{◌≡◌, ap, sym, ◌∙◌}
use mathlib.Core.Bool.{Bool, cond, false≢true}
use mathlib.Core.List.{List}
use Prim.Native.Nat.{ℕ, ◌+◌, ◌≤◌, ◌<◌}
use lib.Dec.{eqb}
use lib.IntN.{ℤ, pos}
use lib.ListN.{get_or}
use mir.Facts.{to_z-of_z}
use mir.Syntax.{w64}
use mir.Val.{SFits, of_z, to_z}
use borrow.Author.Tests.{eq-eqb, le-ltb, lt-ltb, ne_eqb}
use Rattle.laws.proofs.Bools.{by_test}
use Rattle.guard.specs.Closure.{eq_z}
use Rattle.guard.proofs.ClosureBelow.{eq_z_true}
use Rattle.guard.proofs.LeastClosure.{eq_z_of}
use Rattle.constants.specs.Constants.{constant_term, constant_value}

-- two values are equal if their bits are
pub same_bits : (a b : ℤ) → SFits w64 a → SFits w64 b → eqb (of_z w64 a) (of_z w64 b) ≡ eq_z a b
same_bits a b fa fb =
    by_test (eq_z a b) (λ e. eq-eqb _ _ (ap (of_z w64) (eq_z_true a b e)) ∙ sym e)
    (λ e. ne_eqb (of_z w64 a) (of_z w64 b) (λ q. false≢true (sym e ∙ eq_z_of a b (sym (to_z-of_z fa) ∙ ap (to_z w64) q ∙ to_z-of_z fb))) ∙ sym e)

module _ (k : ℕ) where
  pub row-term : k < 24 → k ≡ constant_term k
  unfolding constant_term
  row-term h = sym (ap (λ (b : Bool). cond b k (k + 48)) (lt-ltb k 24 h))

  pub default-term : 24 ≤ k → k + 48 ≡ constant_term k
  unfolding constant_term
  default-term h = sym (ap (λ (b : Bool). cond b k (k + 48)) (le-ltb k 24 h))

module _ (values : List ℤ) (k : ℕ) where
  pub row-value : k < 24 → get_or values k (pos 0) ≡ constant_value values k
  unfolding constant_value
  row-value h = sym (ap (λ (b : Bool). cond b (get_or values k (pos 0)) (pos 0)) (lt-ltb k 24 h))

  pub default-value : 24 ≤ k → pos 0 ≡ constant_value values k
  unfolding constant_value
  default-value h = sym (ap (λ (b : Bool). cond b (get_or values k (pos 0)) (pos 0)) (le-ltb k 24 h))
