-- What a program in another language is given by its calls: the answer as five numbers, and a return code or the length of a record. Assumes nothing:
-- definitions.
use Rattle.std.specs.Prelude.{◌≡◌, List, ◌++◌, ℕ, ◌-◌, ◌^◌, ◌≤◌, ◌<◌, ℤ, pos, length, drop, Result, Ok, Err}
use Rattle.guard.specs.Limits.{Limits}
use Rattle.guard.specs.declared.Answer.{Answer}
use Rattle.answernumbers.specs.Numbers.{answer_length, answer_numbers}
use Rattle.decidewithin.specs.Decides.{Decides}
use Rattle.explain.specs.Explains.{Explains}
use Rattle.returncodes.specs.Code.{minus}
use Rattle.guard.specs.Number.{Parsed, Parsed.accepted, Parsed.refused}
use Rattle.branches.specs.Procedure.{Procedure}

-- return codes: the call was answered; the answer buffer is too short
abbrev pub answered_code : ℕ
answered_code = 0

abbrev pub short_code : ℕ
short_code = 1

-- a call that was answered: what `decide` says of an answer and both buffers, and that answer's numbers in front of the
-- answer buffer, whose other numbers stay
pub record Answers (limits : Limits) (bytes : List ℕ) (budget : ℕ) (rows places : List ℤ) (numbers : List ℕ) (rows' places' : List ℤ) (numbers' : List ℕ) : Type 0 where
  pub answer : Answer
  pub decided : Decides limits bytes budget rows places answer rows' places'
  pub told : numbers' ≡ answer_numbers answer ++ drop answer_length numbers

-- of the return code, and the row buffer, the place buffer and the answer buffer as they were and as they are left
pub record Links (limits : Limits) (bytes : List ℕ) (budget : ℕ) (rows places : List ℤ) (numbers : List ℕ) (code : ℕ) (rows' places' : List ℤ) (numbers' : List ℕ) : Type 0 where
  -- an answer buffer that is too short: the code says so, and nothing is written
  pub short : length numbers < answer_length → (code ≡ short_code) × ((rows' ≡ rows) × ((places' ≡ places) × (numbers' ≡ numbers)))
  pub enough : answer_length ≤ length numbers → (code ≡ answered_code) × Answers limits bytes budget rows places numbers rows' places' numbers'

-- ---- the second call

-- what is returned where the answer buffer is too short: the largest number that there is
abbrev pub short_bytes : ℕ
short_bytes = 2 ^ 64 - 1

-- a call that was answered, with a record of so many bytes
pub record ExplainedAnswers (limits : Limits) (bytes : List ℕ) (budget : ℕ) (rows places : List ℤ) (lent numbers : List ℕ) (many : ℕ) (rows' places' : List ℤ) (lent' numbers' : List ℕ) : Type 0 where
  pub answer : Answer
  pub explained : Explains limits bytes budget rows places lent (record { answer = answer; bytes = many }) rows' places' lent'
  pub told : numbers' ≡ answer_numbers answer ++ drop answer_length numbers

-- of the number returned, and the row buffer, the place buffer, the record buffer and the answer buffer
pub record LinksExplained (limits : Limits) (bytes : List ℕ) (budget : ℕ) (rows places : List ℤ) (lent numbers : List ℕ) (many : ℕ) (rows' places' : List ℤ) (lent' numbers' : List ℕ) : Type 0 where
  pub short : length numbers < answer_length → (many ≡ short_bytes) × ((rows' ≡ rows) × ((places' ≡ places) × ((lent' ≡ lent) × (numbers' ≡ numbers))))
  pub enough : answer_length ≤ length numbers → ExplainedAnswers limits bytes budget rows places lent numbers many rows' places' lent' numbers'

-- ---- the writer

-- what is returned: the number of bytes, or minus the number of the question
abbrev pub written_code : Result ℕ ℕ → ℤ
written_code (Ok n) = pos n
written_code (Err q) = minus q

-- ---- branches

-- what is returned: the number of branches, or minus the number of the question
abbrev pub judged_code : Parsed Procedure → ℤ
judged_code (accepted p rest) = pos (length p.branches)
judged_code (refused q) = minus q
