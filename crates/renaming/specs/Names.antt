-- What the second's rows are called, and which of them are written. Assumes nothing: definitions.
use Rattle.std.specs.Prelude.{◌≡◌, List, ℕ, ◌+◌, ◌≤◌, ◌<◌, drop, get_or, length}
use Rattle.laws.specs.All.{All}
use Rattle.guard.specs.Guard.{Row, row_at}
use Rattle.guard.specs.Types.{Types}
use Rattle.tables.specs.declared.RowTable.{RowTable}
use Rattle.tables.specs.Layout.{pad, row_kind}
use Rattle.heldparts.specs.Held.{HoldsRows}
use Rattle.merged.specs.Merge.{kept_rows, names_from, types_agree, variables, variables_from, written_of}
use Rattle.renaming.specs.declared.Names.{Names}

-- the tables hold the rows of two guards with the same types
pub record TwoRows (first second : RowTable) : Type 0 where
  pub types : Types
  pub rows : List Row
  pub others : List Row
  pub holds : HoldsRows first types rows
  pub holds-others : HoldsRows second types others

-- a column of the kinds of rows
pub record KindsOf (kinds : List ℕ) (many : ℕ) (rs : List Row) : Type 0 where
  pub all : many ≡ length rs
  pub kind : (k : ℕ) → k < many → get_or kinds k 0 ≡ row_kind (row_at rs k)

-- row r is the next variable, or there is none
pub record NextVariable (kinds : List ℕ) (many from r : ℕ) : Type 0 where
  pub within : r ≤ many
  pub is : r < many → get_or kinds r 0 ≡ 0
  pub next : (rs : List Row) → KindsOf kinds many rs → variables_from from (drop from rs) ≡ variables_from r (drop r rs)

pub record AreNames (ts : Types) (rs ss : List Row) (r : Names) : Type 0 where
  pub names : r.names ≡ pad 24 (names_from (variables rs) (length rs) ss)
  pub small : All (λ n. n < 48) r.names
  pub long : length r.names ≡ 24
  pub kept : kept_rows r.skipped ss ≡ written_of (variables rs) ss
  pub rows : r.rows ≡ length rs + length (written_of (variables rs) ss)
  pub agree : r.agree ≡ types_agree ts rs (variables rs) ss

pub record NamesOf (first second : RowTable) (r : Names) : Type 0 where
  pub are : (ts : Types) (rs ss : List Row) → HoldsRows first ts rs → HoldsRows second ts ss → AreNames ts rs ss r
