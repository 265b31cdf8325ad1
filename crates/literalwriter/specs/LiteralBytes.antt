-- The bytes of literals that a table holds, with other numbers for their terms, put into a buffer. Assumes nothing: definitions.
use Rattle.std.specs.Prelude.{Option, List, map, ℕ, ◌≤◌, ◌<◌, length, get_or}
use Rattle.laws.specs.Lists.{concat_map}
use Rattle.guard.specs.Guard.{Literal, Literal.equal, Row}
use Rattle.guard.specs.Limits.{variant_limit}
use Rattle.guard.specs.Types.{Types, variants_of}
use Rattle.tables.specs.declared.LiteralTable.{LiteralTable}
use Rattle.heldparts.specs.Held.{HoldsLiterals}
use Rattle.serialize.specs.Tokens.{literal_tokens, token_bytes}
use Rattle.merged.specs.Merge.{named, renamed_literal}
use Rattle.bytebuffer.specs.declared.Writer.{Writer}
use Rattle.bytebuffer.specs.Appends.{Appends}

abbrev pub literal_bytes : List ℕ → Literal → List ℕ
literal_bytes names l = concat_map token_bytes (literal_tokens (renamed_literal names l))

-- what a list of literals gives past its end; no place in use looks there
abbrev pub no_literal : Literal
no_literal = equal 0 0

-- ---- what is asked of a table and of the numbers that terms get

pub record SomeLiterals (table : LiteralTable) : Type 0 where
  pub ts : Types
  pub rs : List Row
  pub ls : List Literal
  pub held : HoldsLiterals table ts rs ls
  pub rows : length rs ≤ 24
  pub variants : (t : ℕ) → length (variants_of ts t) ≤ variant_limit

pub record HasLiteral (table : LiteralTable) (i : ℕ) : Type 0 where
  pub some : SomeLiterals table
  pub inside : i < length some.ls

pub record SmallNames (names : List ℕ) : Type 0 where
  pub small : (i : ℕ) → i < 24 → named names i < 128

-- ---- what is put, for all literals that the table may hold

pub record PutsLiteral (table : LiteralTable) (i : ℕ) (names : List ℕ) (w : Writer) (r : Option (Unit {0})) (w' : Writer) : Type 0 where
  pub puts : (ts : Types) (rs : List Row) (ls : List Literal) → HoldsLiterals table ts rs ls → i < length ls → Appends (literal_bytes names (get_or ls i no_literal)) w r w'

pub record PutsLiterals (table : LiteralTable) (names : List ℕ) (w : Writer) (r : Option (Unit {0})) (w' : Writer) : Type 0 where
  pub puts : (ts : Types) (rs : List Row) (ls : List Literal) → HoldsLiterals table ts rs ls
      → Appends (concat_map token_bytes (concat_map literal_tokens (map (renamed_literal names) ls))) w r w'
