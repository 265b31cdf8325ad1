-- What the writer of guard files gives for a list of numbers and a buffer. Assumes nothing: definitions.
-- Quoted sentences are document 02's, of request #102.
use Rattle.std.specs.Prelude.{◌≡◌, cond, List, ℕ, leb, length, replicate, Result, Ok, Err}
use Rattle.guard.specs.Guard.{Guard}
use Rattle.guard.specs.Number.{Parsed, Parsed.accepted, Parsed.refused}
use Rattle.guard.specs.Question.{number_of}
use Rattle.guard.specs.declared.Question.{Question}
use Rattle.serialize.specs.Tokens.{bytes_of}
use Rattle.bytebuffer.specs.Puts.{filled}

-- What a call answers that finds something to write, or the question that refuses. `bytes` says what is written of it.
module _ {A : Type 0} (bytes : A → List ℕ) where
  -- How many bytes, or the question's number: "the writer produces the bytes, then zeros, and hands back their count, as any call that
  -- writes or stores a file does"; "14, asked last, when the output buffer is shorter than the bytes"
  abbrev pub answer_by : Parsed A → ℕ → Result ℕ ℕ
  answer_by (refused q) long = Err q
  answer_by (accepted a rest) long = cond (leb (length (bytes a)) long) (Ok (length (bytes a))) (Err 14)

  -- "After any refusal the output is all 0."
  abbrev pub left_with : Parsed A → ℕ → List ℕ
  left_with (refused q) long = replicate long 0
  left_with (accepted a rest) long = filled (bytes a) long

-- the same of a guard file
abbrev pub answer_to : Parsed Guard → ℕ → Result ℕ ℕ
answer_to p long = answer_by bytes_of p long

abbrev pub left_by : Parsed Guard → ℕ → List ℕ
left_by p long = left_with bytes_of p long

-- a call answers this, with the question for its number
abbrev pub Answered : Result ℕ ℕ → Result ℕ Question → Type 0
Answered told (Ok n) = told ≡ Ok n
Answered told (Err q) = told ≡ Err (number_of q)
