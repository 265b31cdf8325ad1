-- What the checker's answer, and the number that stands for it, tell of a file and a record. Quoted sentences are document 02's, of request #101.
-- Assumes nothing.
use Rattle.std.proofs.Common.{◌≡◌, refl, sym, ◌∙◌, List, [], ℕ, zero, suc, Result, Ok, Err}
use Rattle.guard.specs.Guard.{Guard}
use Rattle.guard.specs.Limits.{base}
use Rattle.guard.specs.Meaning.{Satisfiable}
use Rattle.guard.specs.Number.{Parsed.accepted}
use Rattle.guard.specs.Question.{number_of}
use Rattle.guard.specs.Search.{Visit, Visits.closed, search_of}
use Rattle.guard.specs.declared.Question.{Question}
use Rattle.guard.proofs.Claims.{Accepts, base-supported}
use Rattle.numbers.specs.Reader.{ReadsAll}
use Rattle.encoding.proofs.Parsers.{not_accepted}
use Rattle.refutations.specs.Checker.{checked}
use Rattle.refutations.specs.Record.{record_bytes}
use Rattle.refutations.proofs.Theorems.{accepted_unsatisfiable, record-checked}
use Rattle.recordchecker.specs.Checks.{answer}

-- "what it accepts has no satisfying messages"
pub ok_unsatisfiable : (bytes written : List ℕ) → ReadsAll (checked base bytes written) (Ok tt) → (g : Guard) × Accepts base bytes g × (¬ Satisfiable g)
ok_unsatisfiable bytes written e = accepted_unsatisfiable base bytes written base-supported tt [] e

-- "Every record that call writes is accepted"
pub record_ok : (bytes : List ℕ) (g : Guard) → Accepts base bytes g → (n : List Visit) → search_of g ≡ closed n → (r : Result (Unit {0}) Question) → ReadsAll (checked base bytes (record_bytes g)) r → r ≡ Ok tt
record_ok bytes g a n e (Ok u) gives = refl
record_ok bytes g a n e (Err q) gives = absurd (not_accepted (number_of q) tt [] (sym gives ∙ record-checked base bytes g a n e))

-- ---- by its number

zero_only : (r : ℕ) → answer r ≡ accepted tt [] → r ≡ 0
zero_only zero e = refl
zero_only (suc q) e = absurd (not_accepted (suc q) tt [] e)

module _ (bytes written : List ℕ) (r : ℕ) (gives : answer r ≡ checked base bytes written) where
  pub zero_unsatisfiable : r ≡ 0 → (g : Guard) × Accepts base bytes g × (¬ Satisfiable g)
  zero_unsatisfiable z = ok_unsatisfiable bytes written (sym gives ∙ rw z refl)

pub record_zero : (bytes : List ℕ) (g : Guard) → Accepts base bytes g → (n : List Visit) → search_of g ≡ closed n → (r : ℕ) → answer r ≡ checked base bytes (record_bytes g) → r ≡ 0
record_zero bytes g a n e r gives = zero_only r (gives ∙ record-checked base bytes g a n e)
