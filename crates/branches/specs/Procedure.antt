-- The file of a procedure: types and terms once, then its branches. Assumes nothing: definitions.
-- Quoted sentences are document 02's, of request #113.
use Rattle.std.specs.Prelude.{◌&&◌, List, ℕ, leb}
use Rattle.guard.specs.File.{bytes, count, literal}
use Rattle.guard.specs.Grammar.{ended, with_head}
use Rattle.guard.specs.Guard.{Guard, Literal, Row}
use Rattle.guard.specs.Limits.{Limits}
use Rattle.guard.specs.Number.{Parser, ◌>>=◌, ◌>>◌, ask, return, times, unsigned}
use Rattle.guard.specs.Types.{Types}

-- "one file part with types and terms, then B (1 to 8) branches, each with its own L and lines"
pub record Procedure : Type 0 where
  pub types : Types
  pub rows : List Row
  pub branches : List (List Literal)

-- "B (1 to 8) branches"
abbrev pub branch_limit : ℕ
branch_limit = 8

-- "19, asked at B after 3, when B is out of its limits"
abbrev pub branch_count : Parser ℕ
branch_count = do
  b ← unsigned
  ask 19 (leb 1 b && leb b branch_limit)
  return b

-- "each with its own L and lines"
abbrev pub branch : Limits → Types → List Row → Parser (List Literal)
branch limits ts rs = count limits.lines >>= λ l. times l (literal ts rs)

-- B and the branches, behind the types and the term rows
abbrev pub branches_of : Limits → Types → List Row → Parser Procedure
branches_of limits ts rs = do
  b ← branch_count
  bs ← times b (branch limits ts rs)
  ended
  return (record { types = ts; rows = rs; branches = bs })

-- "The questions of the file apply to each branch, 10 only after the last."
unfoldable pub procedure : Limits → Parser Procedure
procedure limits = with_head bytes limits (branches_of limits)

-- the guard that asks for these lines
abbrev pub guard_with : Procedure → List Literal → Guard
guard_with p ls = record { types = p.types; rows = p.rows; literals = ls }
