-- What reading one literal gives, in terms of the parsers of the guard file. Assumes nothing: definitions.
-- The parsers here know types and rows by two columns: `counts` holds the number of variants of each type, `us` the type of
-- each of the `rows` rows. `LiteralReaderLaws` of `literalreader` shows that they are those of document 01.
use Rattle.std.specs.Prelude.{◌≡◌, not, List, ℕ, zero, suc, ◌<◌, eqb, get_or, Result, Ok, Err}
use Rattle.guard.specs.Guard as guard
use Rattle.guard.specs.Guard.{Literal.equal, Literal.unequal, Literal.is, Literal.isnt}
use Rattle.guard.specs.Number.{Parser, Parsed, Parsed.refused, ◌>>=◌, ◌>>◌, return, ask}
use Rattle.guard.specs.File.{kind, name}
use Rattle.guard.specs.Question.{number_of}
use Rattle.guard.specs.declared.Question.{Question}
use Rattle.numbers.specs.Reader.{Found}
use Rattle.numbers.specs.declared.Read.{Read}
use Rattle.literalkinds.specs.declared.Pair.{Pair}
use Rattle.literalkinds.specs.declared.Literal.{Literal}

-- each entry of a column
abbrev pub EachBelow : ℕ → List ℕ → Type 0
EachBelow limit xs = (i : ℕ) → get_or xs i 0 < limit

-- ---- the two numbers of a literal

-- two terms of one type
abbrev pub two_by : ℕ → List ℕ → Parser Pair
two_by rows us = do
  i ← name rows
  j ← name rows
  ask 7 (eqb (get_or us i 0) (get_or us j 0))
  return (record { term = i; other = j })

-- a term of variant type, and a variant of it
abbrev pub test_by : List ℕ → ℕ → List ℕ → Parser Pair
test_by counts rows us = do
  a ← name rows
  ask 7 (not (eqb (get_or counts (get_or us a 0) 0) 0))
  v ← name (get_or counts (get_or us a 0) 0)
  return (record { term = a; other = v })

abbrev pub numbers_by : List ℕ → ℕ → List ℕ → ℕ → Parser Pair
numbers_by counts rows us zero = two_by rows us
numbers_by counts rows us (suc zero) = two_by rows us
numbers_by counts rows us (suc (suc k)) = test_by counts rows us

-- ---- a literal

abbrev pub made : ℕ → Pair → guard.Literal
made zero x = equal x.term x.other
made (suc zero) x = unequal x.term x.other
made (suc (suc zero)) x = is x.term x.other
made (suc (suc (suc k))) x = isnt x.term x.other

abbrev pub literal_by : List ℕ → ℕ → List ℕ → Parser guard.Literal
literal_by counts rows us = do
  k ← kind
  x ← numbers_by counts rows us k
  return (made k x)

-- the literal that a table's numbers stand for
abbrev pub literal_in : Literal → guard.Literal
literal_in l = made l.kind (record { term = l.term; other = l.other })

-- a reader of a literal has its numbers, of a kind that is listed
abbrev pub ReadsLiteral : Parsed guard.Literal → List ℕ → Result (Read Literal) Question → Type 0
ReadsLiteral p bytes (Ok r) = Found p bytes (literal_in r.value) r.at × (r.value.kind < 4)
ReadsLiteral p bytes (Err q) = p ≡ refused (number_of q)
