-- For callers: the tables that are read are those of the guard that the file has, a question that refuses the tables refuses the file, and no
-- question has number 0. Assumes nothing.
use Rattle.std.proofs.Common.{◌≡◌, ◌∙◌, ap, sym, List, [], ℕ, arith}
use Rattle.guard.specs.File.{bytes, file}
use Rattle.guard.specs.Guard.{Guard}
use Rattle.guard.specs.Limits.{Limits}
use Rattle.guard.specs.Number.{Parsed, Parsed.accepted, Parsed.refused, and_then, return, value_width}
use Rattle.guard.proofs.Refusals.{asks_file_lem}
use Rattle.numbers.proofs.Mapped.{mapped, mapped_refused}
use Rattle.numbers.proofs.NumberLaws.{question_of_lem, unsigned-question}
use Rattle.reader.specs.Reader.{guard_tables, in_tables}
use Rattle.reader.specs.declared.Tables.{Tables}

-- no question has number 0
pub file-question : (limits : Limits) (bytes : List ℕ) (q : ℕ) → file limits bytes ≡ refused q → ¬ (q ≡ 0)
unfolding file
file-question limits bs q e z = omega (arith, asks_file_lem bytes unsigned-question (question_of_lem value_width (omega arith)) limits bs q e, z)

pub record Taken (limits : Limits) (bytes : List ℕ) (t : Tables) : Type 0 where
  pub guard : Guard
  pub parsed : file limits bytes ≡ accepted guard []
  pub is : t ≡ guard_tables guard

pub taken-file : (limits : Limits) (bytes : List ℕ) (t : Tables) → in_tables (file limits) bytes ≡ accepted t [] → Taken limits bytes t
taken-file limits bytes t e = let (g, parsed, is) = mapped guard_tables (file limits bytes) t [] e in record { guard = g; parsed = parsed; is = sym is }

pub refused-file : (limits : Limits) (bytes : List ℕ) (q : ℕ) → in_tables (file limits) bytes ≡ refused q → file limits bytes ≡ refused q
refused-file limits bytes q e = mapped_refused guard_tables (file limits bytes) q e

-- an accepted file has its guard's tables
pub guard-tables : (limits : Limits) (bytes : List ℕ) (t : Tables) → in_tables (file limits) bytes ≡ accepted t [] → (g : Guard) (rest : List ℕ) → file limits bytes ≡ accepted g rest → t ≡ guard_tables g
guard-tables limits bytes t e g rest f =
    let d : Path (Parsed Tables) (accepted t []) (accepted (guard_tables g) rest) = sym e ∙ ap (and_then (λ h. return (guard_tables h))) f in
    cc
