-- Rows that cells hold, put in row order. Assumes nothing: definitions.
use Rattle.std.specs.Prelude.{◌≡◌, Option, List, ℕ, length}
use Rattle.guard.specs.Types.{Types}
use Rattle.bytebuffer.specs.declared.Writer.{Writer}
use Rattle.bytebuffer.specs.Appends.{Appends}
use Rattle.bytebuffer.specs.Puts.{Puts}
use Rattle.columnfile.specs.Columns.{bytes_for, restored_row, restored_rows}
use Rattle.columnreader.specs.Cells.{Holds}

pub record SomeColumns (cells : List ℕ) : Type 0 where
  pub cs : List (List ℕ)
  pub holds : Holds cells cs
  pub many : length cs ≡ 6

-- what is put, for all columns that the cells may hold
pub record PutsRow (ts : Types) (cells : List ℕ) (i : ℕ) (w : Writer) (result : Option (Unit {0})) (w' : Writer) : Type 0 where
  pub puts : (cs : List (List ℕ)) → Holds cells cs → length cs ≡ 6 → Appends (bytes_for (restored_row ts cs i)) w result w'

pub record PutsRows (ts : Types) (cells : List ℕ) (n : ℕ) (out : List ℕ) (result : Option ℕ) (out' : List ℕ) : Type 0 where
  pub puts : (cs : List (List ℕ)) → Holds cells cs → length cs ≡ 6 → Puts (restored_rows ts n cs) out 0 result out'
