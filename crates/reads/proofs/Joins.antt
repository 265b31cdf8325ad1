-- What a read passes, and two of them: nothing where a test fails, one fact where it holds. Assumes nothing.
use mathlib.Core.Path.{◌≡◌, sym}
use mathlib.Core.Bool.{Bool, true, false, not, ◌&&◌}
use mathlib.Core.List.{List}
use Prim.Native.Nat.{ℕ}
use lib.Bits.{bit_and}
use lib.Dec.{eqb}
use Rattle.guard.specs.Closure.{Fact.same, State, add, holds, label_of, same_class}
use Rattle.passes.specs.Pass.{Pass}
use Rattle.passes.proofs.PassLaws.{not_due, united}
use Rattle.arrays.specs.Slots.{read_bit, read_default, read_key, read_term}
use Rattle.reads.specs.Due.{default_due, reads_meet}

module _ (reads : List ℕ) (s : State) (k : ℕ) where
  abbrev pub default_test : Bool
  default_test = not (eqb (read_key reads k) 0) && eqb (bit_and (label_of s (read_term reads k)) (read_bit reads k)) 0

  pub default-apart : default_test ≡ false → Pass (λ x. default_due reads x k) s s false
  unfolding default_due
  default-apart = not_due (λ x. not (eqb (read_key reads k) 0) && eqb (bit_and (label_of x (read_term reads k)) (read_bit reads k)) 0) k (read_default reads k) s

  pub default_joined : default_test ≡ true → (s' : State) (r : Bool) (b : ℕ) → b ≡ read_default reads k
      → s' ≡ add s (same k b) → r ≡ not (holds s (same k b)) → Pass (λ x. default_due reads x k) s s' r
  unfolding default_due
  default_joined e s' r b eb es er =
      united (λ x. not (eqb (read_key reads k) 0) && eqb (bit_and (label_of x (read_term reads k)) (read_bit reads k)) 0) k (read_default reads k) s e s' r (rw (sym eb) es) (rw (sym eb) er)

  module _ (i : ℕ) where
    abbrev pub reads_test : Bool
    reads_test = not (eqb (read_key reads k) 0) && (eqb (read_key reads k) (read_key reads i) && same_class s (read_term reads i) (read_term reads k))

    pub reads-apart : reads_test ≡ false → Pass (λ x. reads_meet reads x k i) s s false
    unfolding reads_meet
    reads-apart = not_due (λ x. not (eqb (read_key reads k) 0) && (eqb (read_key reads k) (read_key reads i) && same_class x (read_term reads i) (read_term reads k))) i k s

    pub reads_joined : reads_test ≡ true → (s' : State) (r : Bool) → s' ≡ add s (same i k) → r ≡ not (holds s (same i k)) → Pass (λ x. reads_meet reads x k i) s s' r
    unfolding reads_meet
    reads_joined = united (λ x. not (eqb (read_key reads k) 0) && (eqb (read_key reads k) (read_key reads i) && same_class x (read_term reads i) (read_term reads k))) i k s
