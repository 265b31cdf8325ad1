-- The second number of a built row, and a value that is written again as it was. Assumes nothing.
use Rattle.std.proofs.Common.{◌≡◌, ◌∙◌, refl, ap, Bool, not, List, ℕ, length}
use borrow.Author.Tests.{eq-eqb}
use Rattle.guard.specs.File.{name}
use Rattle.guard.specs.Number.{Parsed, Parsed.accepted, Parsed.refused, Parser, ◌>>◌, and_then, ask, fold_signed, return, unfold_signed}
use Rattle.guard.specs.Types.{Types, is_number, variants_of}
use Rattle.guard.proofs.Reading.{fold_unfold}
use Rattle.columnfile.specs.Columns.{second}

module _ (ts : Types) (k n : ℕ) (built : k ≡ 2) (many : length ts ≡ n) (bs : List ℕ) where
  after : ℕ → Parser ℕ
  after i = ask 7 (not (is_number ts i)) >> return i

  from_type : second ts k bs ≡ and_then after (name n bs)
  unfolding after
  from_type = ap (λ (x : ℕ). second ts x bs) built ∙ ap (λ (x : ℕ). and_then after (name x bs)) many

  pub type_stops : (q : ℕ) → name n bs ≡ refused q → second ts k bs ≡ refused q
  type_stops q e = from_type ∙ ap (and_then after) e

  pub type-number : (t : ℕ) (rest : List ℕ) → name n bs ≡ accepted t rest → length (variants_of ts t) ≡ 0 → second ts k bs ≡ refused 7
  unfolding after
  type-number t rest e z = from_type ∙ ap (and_then after) e ∙ ap (λ (b : Bool). (ask 7 (not b) >> return t) rest) (eq-eqb (length (variants_of ts t)) 0 z)

-- a value that is folded again
pub folded_again : (r : Parsed ℕ) → and_then (λ n. return (fold_signed (unfold_signed n))) r ≡ r
folded_again (refused q) = refl
folded_again (accepted n rest) = ap (λ (k : ℕ). accepted k rest) (fold_unfold n)
