-- Numbers of rows that tables hold, and what is put of them by column. Assumes nothing: definitions.
use Rattle.std.specs.Prelude.{◌≡◌, Option, Some, None, List, [], ◌∷◌, ◌++◌, ℕ, ◌<◌, length}
use Rattle.guard.specs.Guard.{Guard, Row, row_at}
use Rattle.guard.specs.Types.{Types}
use Rattle.tables.specs.declared.RowTable.{RowTable}
use Rattle.tables.specs.declared.TypeTable.{TypeTable}
use Rattle.reader.specs.declared.Tables.{Tables}
use Rattle.encoding.specs.Encoding.{encoded}
use Rattle.heldparts.specs.Held.{HoldsRows, HoldsTypes}
use Rattle.bytebuffer.specs.declared.Writer.{Writer}
use Rattle.bytebuffer.specs.Appends.{Appends}
use Rattle.bytebuffer.specs.Puts.{Puts}
use Rattle.rowterms.specs.Rows.{SomeRows}
use Rattle.mergewriter.specs.Merging.{TablesOf}
use Rattle.columnfile.specs.Columns.{bytes_for, column_bytes, columns_bytes, entry, line_part, stored_bytes}

-- ---- what is asked of tables

pub record HasRow (types : TypeTable) (rows : RowTable) (r : ℕ) : Type 0 where
  pub some : SomeRows types rows
  pub inside : r < rows.many

pub record SomeGuard (t : Tables) : Type 0 where
  pub g : Guard
  pub is : TablesOf t g

-- ---- one number of a row

-- as a list of one number, or of none
abbrev pub listed : Option ℕ → List ℕ
listed (Some n) = n ∷ []
listed None = []

pub record IsEntry (types : TypeTable) (rows : RowTable) (r j : ℕ) (e : Option ℕ) : Type 0 where
  pub is : (ts : Types) (rs : List Row) → HoldsTypes types ts → HoldsRows rows ts rs → listed e ≡ entry j (row_at rs r)

-- ---- what is put, for all that the tables may hold

pub record PutsEntry (types : TypeTable) (rows : RowTable) (r j : ℕ) (w : Writer) (result : Option (Unit {0})) (w' : Writer) : Type 0 where
  pub puts : (ts : Types) (rs : List Row) → HoldsTypes types ts → HoldsRows rows ts rs → Appends (bytes_for (entry j (row_at rs r))) w result w'

pub record PutsColumn (types : TypeTable) (rows : RowTable) (j : ℕ) (w : Writer) (result : Option (Unit {0})) (w' : Writer) : Type 0 where
  pub puts : (ts : Types) (rs : List Row) → HoldsTypes types ts → HoldsRows rows ts rs → Appends (column_bytes j rs) w result w'

pub record PutsColumns (types : TypeTable) (rows : RowTable) (w : Writer) (result : Option (Unit {0})) (w' : Writer) : Type 0 where
  pub puts : (ts : Types) (rs : List Row) → HoldsTypes types ts → HoldsRows rows ts rs → Appends (columns_bytes rs) w result w'

pub record PutsRows (t : Tables) (w : Writer) (result : Option (Unit {0})) (w' : Writer) : Type 0 where
  pub puts : (g : Guard) → TablesOf t g → Appends (encoded (length g.rows) ++ columns_bytes g.rows) w result w'

pub record PutsLines (t : Tables) (w : Writer) (result : Option (Unit {0})) (w' : Writer) : Type 0 where
  pub puts : (g : Guard) → TablesOf t g → Appends (line_part g) w result w'

pub record PutsStored (t : Tables) (out : List ℕ) (result : Option ℕ) (out' : List ℕ) : Type 0 where
  pub puts : (g : Guard) → TablesOf t g → Puts (stored_bytes g) out 0 result out'
