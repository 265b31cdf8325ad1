-- A count or a question as one number. Assumes nothing: definitions.
use Rattle.std.specs.Prelude.{ℕ, zero, suc, ℤ, pos, negsuc, Result, Ok, Err}
use Rattle.guard.specs.Question.{number_of}
use Rattle.guard.specs.declared.Question.{Question}

-- −n
abbrev pub minus : ℕ → ℤ
minus zero = pos 0
minus (suc n) = negsuc n

-- the count, or minus the number that refused
abbrev pub code_of : Result ℕ ℕ → ℤ
code_of (Ok count) = pos count
code_of (Err q) = minus q

-- the same for a question: minus its number
abbrev pub answer_code : Result ℕ Question → ℤ
answer_code (Ok count) = pos count
answer_code (Err q) = minus (number_of q)

-- 0, or the number of the question that refused
abbrev pub question_of : Result (Unit {0}) Question → ℕ
question_of (Ok u) = 0
question_of (Err q) = number_of q
