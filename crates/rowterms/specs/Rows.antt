-- One row of a table as bytes, with the terms that it names renumbered. Assumes nothing: definitions.
use Rattle.std.specs.Prelude.{◌≡◌, Option, List, [], ◌++◌, ℕ, zero, suc, ◌+◌, ◌*◌, ◌≤◌, ◌<◌, length, get_or}
use Rattle.laws.specs.Lists.{concat_map}
use Rattle.guard.specs.Guard.{Row, row_at}
use Rattle.guard.specs.Types.{Types}
use Rattle.tables.specs.Layout.{row_parts}
use Rattle.tables.specs.declared.RowTable.{RowTable}
use Rattle.tables.specs.declared.TypeTable.{TypeTable}
use Rattle.serialize.specs.Tokens.{row_tokens, token_bytes}
use Rattle.encoding.specs.Encoding.{encoded}
use Rattle.heldparts.specs.Held.{HoldsRows, HoldsTypes}
use Rattle.merged.specs.Merge.{named, renamed_row}
use Rattle.bytebuffer.specs.declared.Writer.{Writer}
use Rattle.bytebuffer.specs.Appends.{Appends}

-- what f gives at each number below n, one after the other
abbrev pub up_to : (ℕ → List ℕ) → ℕ → List ℕ
up_to f zero = []
up_to f (suc n) = up_to f n ++ f n

-- a row with the terms that it names renumbered, as bytes
abbrev pub row_bytes : List ℕ → Row → List ℕ
row_bytes names r = concat_map token_bytes (row_tokens (renamed_row names r))

-- the tables hold some types and rows
pub record SomeRows (types : TypeTable) (rows : RowTable) : Type 0 where
  pub ts : Types
  pub rs : List Row
  pub holds-types : HoldsTypes types ts
  pub holds_rows : HoldsRows rows ts rs

-- ---- one row

-- row r has a place for each of so many parts, and they are terms
pub record PartsInside (rows : RowTable) (r many : ℕ) : Type 0 where
  pub place : r < 24
  pub few : many ≤ 3
  pub terms : (k : ℕ) → k < many → get_or rows.parts (3 * r + k) 0 < 24

-- the bytes of part k of row r, renumbered
abbrev pub part_bytes : List ℕ → RowTable → ℕ → ℕ → List ℕ
part_bytes names rows r k = encoded (named names (get_or rows.parts (3 * r + k) 0))

-- row r is a built one of some types and rows
pub record BuiltRow (types : TypeTable) (rows : RowTable) (r : ℕ) : Type 0 where
  pub some : SomeRows types rows
  pub inside : r < rows.many
  pub built : get_or rows.kinds r 0 ≡ 2

-- row r is built from so many parts
pub record PartCount (types : TypeTable) (rows : RowTable) (r many : ℕ) : Type 0 where
  pub is : (ts : Types) (rs : List Row) → HoldsTypes types ts → HoldsRows rows ts rs → many ≡ length (row_parts (row_at rs r))

-- the bytes of row r
pub record PutsRow (types : TypeTable) (rows : RowTable) (names : List ℕ) (r : ℕ) (w : Writer) (result : Option (Unit {0})) (w' : Writer) : Type 0 where
  pub puts : (ts : Types) (rs : List Row) → HoldsTypes types ts → HoldsRows rows ts rs → Appends (row_bytes names (row_at rs r)) w result w'
