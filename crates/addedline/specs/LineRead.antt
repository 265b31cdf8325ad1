-- What reading an added line gives: the table of the lines of the guard with it. Assumes nothing: definitions.
use Rattle.std.specs.Prelude.{List, ℕ, Result}
use Rattle.guard.specs.Guard.{Guard}
use Rattle.guard.specs.Limits.{base}
use Rattle.guard.specs.Number.{Parser, ◌>>=◌, return}
use Rattle.guard.specs.declared.Question.{Question}
use Rattle.tables.specs.Layout.{literal_table}
use Rattle.tables.specs.declared.LiteralTable.{LiteralTable}
use Rattle.tables.specs.declared.RowTable.{RowTable}
use Rattle.tables.specs.declared.TypeTable.{TypeTable}
use Rattle.numbers.specs.Reader.{ReadsAll}
use Rattle.summaries.specs.AddedLine.{added_line}
use Rattle.summaries.specs.InTables.{InTables}

-- the table of the lines of a guard with the added one
abbrev pub added_table : Guard → Parser LiteralTable
added_table g = added_line g >>= λ h. return (literal_table h.literals)

-- whatever guard the tables hold
pub record ReadsLine (types : TypeTable) (rows : RowTable) (lines : LiteralTable) (bytes : List ℕ) (r : Result LiteralTable Question) : Type 0 where
  pub reads : (g : Guard) → InTables base types rows lines g → ReadsAll (added_table g bytes) r
