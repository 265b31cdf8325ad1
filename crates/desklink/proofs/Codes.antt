-- The number that is returned for a call's answer, and that a count fits in it. Assumes nothing.
use Rattle.std.proofs.Common.{◌≡◌, refl, sym, ap, ◌∙◌, ℕ, ◌≤◌, arith}
use Rattle.std.specs.Prelude.{Result, Ok, Err, IfOk}
use Rattle.guard.specs.Guard.{Guard}
use Rattle.guard.specs.Number.{Parsed, Parsed.accepted, Parsed.refused}
use Rattle.guard.specs.Question.{number_of}
use Rattle.guard.specs.declared.Question.{Question}
use Rattle.guard.specs.declared.Question.TheVariants.{ShortBuffer, Truncated, Malformed, TooMany, UnknownName, UnknownKind, TypeMismatch, NoDefault, NoInfiniteField, TrailingBytes, RecordTooLong, FalseEntry, RecordEnd, FileTooLong, TypesDiffer, VariablesDiffer, TwoNumberTypes, BranchCount}
use Rattle.numbers.specs.Reader.{ReadsAll}
use Rattle.filewriter.specs.Writer.{Answered}
use Rattle.branches.specs.Procedure.{Procedure}
use Rattle.branchverdicts.specs.Judging.{count_in}
use Rattle.recordchecker.specs.Checks.{answer}
use Rattle.summaries.specs.AddedLine.{question_in}
use Rattle.summary.specs.Passed.{passed}
use Rattle.returncodes.specs.Code.{answer_code, question_of}
use Rattle.desklink.specs.Links.{judged_code, written_code}

-- ---- calls that write

module _ (told : Result ℕ ℕ) where
  pub few-written : ((k : ℕ) → told ≡ Ok k → k ≤ 585) → (r : Result ℕ Question) → Answered told r → IfOk r (λ count. count ≤ 4294967295)
  few-written few (Ok n) e = omega (arith, few n e)
  few-written few (Err q) e = tt

  pub code-written : (r : Result ℕ Question) → Answered told r → answer_code r ≡ written_code told
  code-written (Ok n) e = sym (ap written_code e)
  code-written (Err q) e = sym (ap written_code e)

-- ---- branches

pub code-judged : (p : Parsed Procedure) (r : Result ℕ Question) → ReadsAll (count_in p) r → answer_code r ≡ judged_code p
code-judged (refused k) (Ok n) e = absurd cc
code-judged (refused k) (Err q) e = let z : k ≡ number_of q = cc in ap judged_code (ap refused (sym z))
code-judged (accepted p rest) (Ok n) e = cc
code-judged (accepted p rest) (Err q) e = absurd cc

-- ---- questions alone

pub number-passed : (p : Parsed Guard) (r : Result (Unit {0}) Question) → ReadsAll (passed p) r → question_of r ≡ question_in p
number-passed (refused k) (Ok u) e = absurd cc
number-passed (refused k) (Err q) e = cc
number-passed (accepted g rest) (Ok u) e = refl
number-passed (accepted g rest) (Err q) e = absurd cc

-- no question's number is 0
answer-number : (q : Question) → answer (number_of q) ≡ refused (number_of q)
answer-number ShortBuffer = refl
answer-number Truncated = refl
answer-number Malformed = refl
answer-number TooMany = refl
answer-number UnknownName = refl
answer-number UnknownKind = refl
answer-number TypeMismatch = refl
answer-number NoDefault = refl
answer-number NoInfiniteField = refl
answer-number TrailingBytes = refl
answer-number RecordTooLong = refl
answer-number FalseEntry = refl
answer-number RecordEnd = refl
answer-number FileTooLong = refl
answer-number TypesDiffer = refl
answer-number VariablesDiffer = refl
answer-number TwoNumberTypes = refl
answer-number BranchCount = refl

pub answer-checked : (p : Parsed (Unit {0})) (r : Result (Unit {0}) Question) → ReadsAll p r → answer (question_of r) ≡ p
answer-checked p (Ok u) e = sym e
answer-checked p (Err q) e = answer-number q ∙ sym e
