-- What reading the literals gives, in terms of the parsers of the guard file. Assumes nothing: definitions.
use Rattle.std.specs.Prelude.{List, ℕ}
use Rattle.guard.specs.Guard.{Literal}
use Rattle.guard.specs.Number.{Parser, ◌>>=◌, ◌>>◌, return, times}
use Rattle.guard.specs.File.{count}
use Rattle.guard.specs.Grammar.{ended}
use Rattle.tables.specs.declared.LiteralTable.{LiteralTable}
use Rattle.tables.specs.Layout.{literal_table}
pub use Rattle.literalkinds.specs.OneLiteral.{EachBelow, literal_by}

-- ---- L and the lines

abbrev pub lines_by : ℕ → Parser Literal → Parser (List Literal)
lines_by limit p = count limit >>= λ l. times l p

-- the table of a parser's literals
abbrev pub in_table : Parser (List Literal) → Parser LiteralTable
in_table p = p >>= λ ls. return (literal_table ls)

-- ---- the same to the end of the file

abbrev pub literals_by : ℕ → Parser Literal → Parser (List Literal)
literals_by limit p = do
  l ← count limit
  ls ← times l p
  ended
  return ls
