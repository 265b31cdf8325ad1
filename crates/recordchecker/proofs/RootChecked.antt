-- From the root to the whole check: the root begins, the record ends with the last branch, the file's questions come first.
-- Assumes nothing.
use mathlib.Core.Path.{◌≡◌, refl, ap, sym, subst, ◌∙◌}
use mathlib.Core.List.{List, [], ◌∷◌}
use Rattle.std.proofs.Common.{Result, Ok, Err}
use Prim.Native.Nat.{ℕ, ◌≤◌, ◌<◌}
use native.Mathlib.Omega.{arith}
use lib.ListN.{length, drop, length-drop}
use Rattle.laws.proofs.Lists.{length-nil}
use Rattle.guard.specs.Guard.{Guard}
use Rattle.guard.specs.File.{file}
use Rattle.guard.specs.Limits.{base}
use Rattle.guard.specs.Number.{Parsed, Parsed.accepted, Parsed.refused, and_then}
use Rattle.guard.specs.Question.{number_of}
use Rattle.guard.specs.declared.Question.{Question}
use Rattle.guard.specs.declared.Question.TheVariants.{ShortBuffer, Truncated, Malformed, TooMany, UnknownName, UnknownKind, TypeMismatch, NoDefault, NoInfiniteField, TrailingBytes, RecordTooLong, FalseEntry, RecordEnd, FileTooLong, TypesDiffer, VariablesDiffer, TwoNumberTypes, BranchCount}
use Rattle.guard.proofs.Claims.{accepts-all, base-supported}
use Rattle.reader.specs.declared.Tables.{Tables}
use Rattle.reader.specs.Reader.{guard_tables, in_tables}
use Rattle.numbers.specs.Reader.{ReadsAll}
use Rattle.search.specs.Nodes.{Accepted}
use Rattle.roots.specs.declared.Root.{Root}
use Rattle.roots.specs.Roots.{IsRoot}
use Rattle.reader.proofs.TablesRead.{Taken, refused-file, taken-file}
use Rattle.roots.proofs.TablesRead.{guard-accepted}
use Rattle.refutations.specs.Checker.{check, checked, no_more}
use Rattle.refutations.proofs.Theorems.{file-refused, file-taken}
use Rattle.nodechecker.specs.Nodes.{Checks}
use Rattle.recordchecker.specs.Checks.{ChecksRoot, ChecksTables, answer}

-- ---- the root

pub root_checked : (tables : Tables) (root : Root) (bytes : List ℕ) (r : Result ℕ Question) → IsRoot tables root → Checks root.instance root.reads.slots bytes 0 root.state r → ChecksRoot tables bytes r
unfolding Checks ChecksRoot
root_checked tables root bytes r is h g ok q = h g g.literals ok (is.arrays g ok q) (is.begun g ok q)

-- ---- the end of the record

more_bytes : (bs : List ℕ) → 0 < length bs → no_more bs ≡ refused 13
more_bytes [] h = absurd (omega (arith, h))
more_bytes (b ∷ bs) h = refl

module _ (tables : Tables) (bytes : List ℕ) where
  pub root-refused : (q : Question) → ChecksRoot tables bytes (Err q) → ChecksTables tables bytes (Err q)
  unfolding ChecksRoot ChecksTables check
  root-refused q root g ok is = ap (and_then (λ (u : Unit {0}). no_more)) (root g ok is)

  module _ (at : ℕ) (root : ChecksRoot tables bytes (Ok at)) where
    read : (g : Guard) → Accepted g → tables ≡ guard_tables g → check g bytes ≡ no_more (drop at bytes)
    unfolding ChecksRoot check
    read g ok is = ap (and_then (λ (u : Unit {0}). no_more)) (root g ok is).accepts

    pub runs_on : at < length bytes → ChecksTables tables bytes (Err RecordEnd)
    unfolding ChecksTables
    runs_on h g ok is = read g ok is ∙ more_bytes (drop at bytes) (omega (arith, length-drop at bytes))

    pub ends : length bytes ≤ at → ChecksTables tables bytes (Ok tt)
    unfolding ChecksTables
    ends h g ok is = read g ok is ∙ ap no_more (length-nil (drop at bytes) (omega (arith, length-drop at bytes)))

-- ---- the file

module _ (bytes written : List ℕ) where
  pub file-refuses : (q : ℕ) → in_tables (file base) bytes ≡ refused q → checked base bytes written ≡ refused q
  file-refuses q e = file-refused base bytes written q (refused-file base bytes q e)

  pub file_takes : (t : Tables) → in_tables (file base) bytes ≡ accepted t [] → (r : Result (Unit {0}) Question) → ChecksTables t written r → ReadsAll (checked base bytes written) r
  unfolding ChecksTables
  file_takes t e r c =
      let k : Taken base bytes t = taken-file base bytes t e in
      subst (λ (p : Parsed (Unit {0})). ReadsAll p r) (sym (file-taken base bytes written k.guard (accepts-all base bytes k.guard [] base-supported k.parsed)))
      (c k.guard (guard-accepted base base-supported bytes k.guard [] k.parsed) k.is)

-- ---- as a number

pub question-answer : (q : Question) → answer (number_of q) ≡ refused (number_of q)
question-answer q = elim q as (λ x. answer (number_of x) ≡ refused (number_of x)) [ ShortBuffer ↦ refl | Truncated ↦ refl | Malformed ↦ refl | TooMany ↦ refl | UnknownName ↦ refl | UnknownKind ↦ refl | TypeMismatch ↦ refl | NoDefault ↦ refl | NoInfiniteField ↦ refl | TrailingBytes ↦ refl | RecordTooLong ↦ refl | FalseEntry ↦ refl | RecordEnd ↦ refl | FileTooLong ↦ refl | TypesDiffer ↦ refl | VariablesDiffer ↦ refl | TwoNumberTypes ↦ refl | BranchCount ↦ refl ]
