-- The guard file in bytes, and its parts. Assumes nothing.
use Rattle.std.specs.Prelude.{List, ℕ}
use Rattle.guard.specs.Limits.{Limits}
use Rattle.guard.specs.Types.{Types, Variant}
use Rattle.guard.specs.Guard.{Guard, Literal, Row}
use Rattle.guard.specs.Number.{Parser, unsigned, unsigned_of, value_width}
use Rattle.guard.specs.Grammar.{Source, file_of}
use Rattle.guard.specs.Grammar as grammar

-- "A number is written in groups of seven bits, low group first", and so is a constant's value
abbrev pub bytes : Source
bytes = record { number = unsigned; folded = unsigned_of value_width }

abbrev pub count : ℕ → Parser ℕ
count = grammar.count bytes

abbrev pub name : ℕ → Parser ℕ
name = grammar.name bytes

abbrev pub kind : Parser ℕ
kind = grammar.kind bytes

abbrev pub variant : ℕ → Parser Variant
variant = grammar.variant bytes

abbrev pub types : ℕ → ℕ → ℕ → Parser Types
types = grammar.types bytes

abbrev pub parts : Types → List Row → Variant → Parser (List ℕ)
parts = grammar.parts bytes

abbrev pub variant_term : Types → List Row → Parser ℕ
variant_term = grammar.variant_term bytes

abbrev pub row_of : Types → List Row → ℕ → Parser Row
row_of = grammar.row_of bytes

abbrev pub rows : ℕ → Types → List Row → Parser (List Row)
rows = grammar.rows bytes

abbrev pub two_terms : Types → List Row → (ℕ → ℕ → Literal) → Parser Literal
two_terms = grammar.two_terms bytes

abbrev pub term_and_variant : Types → List Row → (ℕ → ℕ → Literal) → Parser Literal
term_and_variant = grammar.term_and_variant bytes

abbrev pub literal_of : Types → List Row → ℕ → Parser Literal
literal_of = grammar.literal_of bytes

abbrev pub literal : Types → List Row → Parser Literal
literal = grammar.literal bytes

unfoldable pub file : Limits → Parser Guard
file limits = file_of bytes limits
