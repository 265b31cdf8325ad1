-- A row of a message as text, byte by byte. Assumes nothing: definitions. Quoted sentences are document 01's.
use Rattle.std.specs.Prelude.{List, [], ◌++◌, ℕ, zero, suc, ◌+◌, ◌*◌, ℤ, pos, negsuc, get_or}
use Rattle.laws.specs.Lists.{concat_map, from}
use Rattle.guard.specs.Limits.{row_width}
use Rattle.guard.specs.Shown.{tag_type, tag_variant}
use Rattle.guard.specs.Words.{value_of}
use Rattle.writing.specs.Words.{ascii, named, number_text, signed}

-- so many parts, the first at `at`; "without `parts` where it has none"
unfoldable pub parts_text : List ℤ → ℕ → ℕ → List ℕ
parts_text rows at zero = []
parts_text rows at (suc n) = ascii " parts" ++ concat_map (number_text rows) (from (suc n) at)

-- "as `row 2 type 1 variant 1 parts 0 1`": a message by the first number of its row, its parts from `at` on. A message of
-- type t and variant v has `arity t v` parts.
unfoldable pub made_text : (ℕ → ℕ → ℕ) → List ℤ → ℕ → ℕ → List ℕ
made_text arity rows at tag = named " type " (tag_type tag) ++ named " variant " (tag_variant tag) ++ parts_text rows at (arity (tag_type tag) (tag_variant tag))

-- the value of a number's row, whose two numbers lie from `at` on
abbrev pub row_value : List ℤ → ℕ → ℤ
row_value rows at = value_of (get_or rows at (pos 0)) (get_or rows (at + 1) (pos 0))

-- "or as `row 0 type 0 number -3`": a number of type t
unfoldable pub value_text : List ℤ → ℕ → ℕ → List ℕ
value_text rows at t = named " type " t ++ ascii " number " ++ signed (row_value rows at)

-- "A message of type t and variant v has 16 × t + v, then the rows of its parts"; document 02, #104: "A number's row holds
-- −1 − t, then the low 32 bits as a signed number, then the value divided by 4,294,967,296 rounded down."
unfoldable pub row_by : (ℕ → ℕ → ℕ) → List ℤ → ℕ → ℤ → List ℕ
row_by arity rows at (pos tag) = made_text arity rows (at + 1) tag
row_by arity rows at (negsuc t) = value_text rows (at + 1) t

unfoldable pub row_text : (ℕ → ℕ → ℕ) → List ℤ → ℕ → List ℕ
row_text arity rows at = row_by arity rows at (get_or rows at (pos 0))

-- "Row i lies in numbers 4 × i to 4 × i + 3 of the row buffer."
unfoldable pub row_line : (ℕ → ℕ → ℕ) → List ℤ → ℕ → List ℕ
row_line arity rows i = named "row " i ++ row_text arity rows (row_width * i) ++ ascii "\n"
