-- What a reader's answer says of a parser of the guard file. Assumes nothing: definitions.
use Rattle.std.specs.Prelude.{◌≡◌, ◌⊎◌, List, [], ℕ, ◌≤◌, ◌<◌, ltb, length, drop, Result, Ok, Err}
use Rattle.guard.specs.Number.{Parsed, Parsed.accepted, Parsed.refused, Parser, ◌>>=◌, ◌>>◌, ask, return, unsigned}
use Rattle.guard.specs.Question.{number_of}
use Rattle.guard.specs.declared.Question.{Question}
use Rattle.numbers.specs.declared.Read.{Read}

-- a number that has to be below the limit, else the question refuses it
abbrev pub below : ℕ → ℕ → Parser ℕ
below limit q = do
  n ← unsigned
  ask q (ltb n limit)
  return n

-- ---- answers of readers

-- the parser accepts this value, and leaves the bytes from this cursor on
pub record Found {A : Type 0} (p : Parsed A) (bytes : List ℕ) (x : A) (at : ℕ) : Type 0 where
  pub accepts : p ≡ accepted x (drop at bytes)
  pub within : at ≤ length bytes

-- a reader has the parser's value and a cursor to what it leaves, or the question that refuses
abbrev pub Reads : {A : Type 0} → Parsed A → List ℕ → Result (Read A) Question → Type 0
Reads p bytes (Ok r) = Found p bytes r.value r.at
Reads p bytes (Err q) = p ≡ refused (number_of q)

-- the same of a parser that is to leave nothing
abbrev pub ReadsAll : {A : Type 0} → Parsed A → Result A Question → Type 0
ReadsAll p (Ok x) = p ≡ accepted x []
ReadsAll p (Err q) = p ≡ refused (number_of q)

-- A reader whose parser gives a number has that number, if it is below the limit, and a cursor to what the parser leaves. Else its error is either
-- what the question that refuses the number becomes, or the caller's own, of a number that is not below the limit.
abbrev pub ReadsBelow : {E : Type 0} → (Question → E → Type 0) → Parsed ℕ → List ℕ → ℕ → E → Result (Read ℕ) E → Type 0
ReadsBelow becomes p bytes limit own (Ok r) = Found p bytes r.value r.at × (r.value < limit)
ReadsBelow becomes p bytes limit own (Err e) =
    ((q : Question) × (p ≡ refused (number_of q)) × becomes q e) ⊎ ((n : ℕ) × (rest : List ℕ) × (p ≡ accepted n rest) × (limit ≤ n) × (e ≡ own))
