-- What the reader of lists gives: the tables of the list's guard, but for the values of its constants. Assumes nothing: definitions.
use Rattle.std.specs.Prelude.{◌≡◌, List, map, ℕ, pos, Result, Ok, Err}
use Rattle.guard.specs.Guard.{Guard, Row, Row.built, Row.constant, Row.field, Row.variable}
use Rattle.guard.specs.Number.{Parsed, Parsed.accepted, Parsed.refused}
use Rattle.guard.specs.Question.{number_of}
use Rattle.guard.specs.declared.Question.{Question}
use Rattle.reader.specs.Reader.{guard_tables}
use Rattle.reader.specs.declared.Tables.{Tables}

-- a row, with 0 for a constant's value
abbrev pub valueless_row : Row → Row
valueless_row (variable t) = variable t
valueless_row (constant t z) = constant t (pos 0)
valueless_row (built t v ps) = built t v ps
valueless_row (field t a v p) = field t a v p

abbrev pub valueless_rows : List Row → List Row
valueless_rows rs = map valueless_row rs

-- a guard, with 0 for every constant's value
abbrev pub valueless : Guard → Guard
valueless g = record { types = g.types; rows = valueless_rows g.rows; literals = g.literals }

-- A list that is taken: whatever asks for the values of its constants takes them from the list.
pub record Taken (p : Parsed Guard) (t : Tables) : Type 0 where
  pub guard : Guard
  pub rest : List ℕ
  pub is : p ≡ accepted guard rest
  pub shown : Guard
  pub tables : t ≡ guard_tables shown
  pub same : valueless shown ≡ valueless guard

-- its tables, or the question that refuses the list
abbrev pub ReadsList : Parsed Guard → Result Tables Question → Type 0
ReadsList p (Ok t) = Taken p t
ReadsList p (Err q) = p ≡ refused (number_of q)
