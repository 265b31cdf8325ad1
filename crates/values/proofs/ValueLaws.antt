-- For callers: a parser that goes on from the number that a value is written as goes on from the value. Assumes nothing.
use Rattle.std.proofs.Common.{◌≡◌, ◌∙◌, refl, ap, sym, List, ℕ, ℤ}
use Rattle.guard.specs.Number.{Parsed, Parsed.accepted, Parsed.refused, Parser, ◌>>=◌, and_then, return, unfold_signed, unsigned_of, value_width}
use Rattle.values.specs.Values.{value}

module _ {B : Type 0} (k : ℤ → Parser B) (bs : List ℕ) where
  behind : (p : Parsed ℕ) → and_then k (and_then (λ n. return (unfold_signed n)) p) ≡ and_then (λ n. k (unfold_signed n)) p
  behind (refused q) = refl
  behind (accepted n rest) = refl

  pub value-next : (z : ℤ) (rest : List ℕ) → value bs ≡ accepted z rest → (unsigned_of value_width >>= λ n. k (unfold_signed n)) bs ≡ k z rest
  value-next z rest e = sym (behind (unsigned_of value_width bs)) ∙ ap (and_then k) e

  pub value-stops : (q : ℕ) → value bs ≡ refused q → (unsigned_of value_width >>= λ n. k (unfold_signed n)) bs ≡ refused q
  value-stops q e = sym (behind (unsigned_of value_width bs)) ∙ ap (and_then k) e
