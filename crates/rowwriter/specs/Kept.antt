-- The rows of a table that aren't skipped, written as bytes, with the terms that they name renumbered. Assumes nothing: definitions.
use Rattle.std.specs.Prelude.{Option, List, map, ℕ}
use Rattle.laws.specs.Lists.{concat_map}
use Rattle.guard.specs.Guard.{Row}
use Rattle.guard.specs.Types.{Types}
use Rattle.tables.specs.declared.RowTable.{RowTable}
use Rattle.tables.specs.declared.TypeTable.{TypeTable}
use Rattle.serialize.specs.Tokens.{row_tokens, token_bytes}
use Rattle.heldparts.specs.Held.{HoldsRows, HoldsTypes}
use Rattle.merged.specs.Merge.{kept_rows, renamed_row}
use Rattle.bytebuffer.specs.declared.Writer.{Writer}
use Rattle.bytebuffer.specs.Appends.{Appends}

-- the bytes of the rows that aren't skipped
pub record PutsRows (types : TypeTable) (rows : RowTable) (names skipped : List ℕ) (w : Writer) (result : Option (Unit {0})) (w' : Writer) : Type 0 where
  pub puts : (ts : Types) (rs : List Row) → HoldsTypes types ts → HoldsRows rows ts rs
      → Appends (concat_map token_bytes (concat_map row_tokens (map (renamed_row names) (kept_rows skipped rs)))) w result w'
