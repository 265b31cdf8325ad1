-- What field reads give at a state, by the slots of the problem's array of reads. proofs/ shows that this is what the rules of document
-- 01 give for the guard. Assumes nothing: definitions.
use Rattle.std.specs.Prelude.{not, ◌&&◌, List, [], ◌∷◌, ℕ, eqb}
use Rattle.std.specs.Int.Bits.{bit_and}
use Rattle.laws.specs.Lists.{concat_map, from, when}
use Rattle.guard.specs.Closure.{Fact, Fact.same, State, label_of, same_class}
use Rattle.arrays.specs.Slots.{read_bit, read_default, read_key, read_term}

module _ (reads : List ℕ) (s : State) where
  -- "if the label lacks that variant, the read equals the default"
  unfoldable pub default_due : ℕ → List Fact
  default_due k = when (not (eqb (read_key reads k) 0) && eqb (bit_and (label_of s (read_term reads k)) (read_bit reads k)) 0) (same k (read_default reads k) ∷ [])

  unfoldable pub defaults_due : List Fact
  defaults_due = concat_map default_due (from 24 0)

  -- "reads of the same field of equal terms are equal"
  unfoldable pub reads_meet : ℕ → ℕ → List Fact
  reads_meet k i = when (not (eqb (read_key reads k) 0) && (eqb (read_key reads k) (read_key reads i) && same_class s (read_term reads i) (read_term reads k))) (same i k ∷ [])

  unfoldable pub read_due : ℕ → List Fact
  read_due k = concat_map (reads_meet k) (from k 0)

  unfoldable pub reads_due : List Fact
  reads_due = concat_map read_due (from 24 0)
