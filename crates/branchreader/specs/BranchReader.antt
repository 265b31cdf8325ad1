-- What reading the file of a procedure gives, in terms of its parser. Assumes nothing: definitions.
use Rattle.std.specs.Prelude.{List, [], map, length}
use Rattle.guard.specs.Grammar.{ended}
use Rattle.guard.specs.Guard.{Literal}
use Rattle.guard.specs.Number.{Parser, ◌>>=◌, ◌>>◌, return, times}
use Rattle.tables.specs.Layout.{literal_table, pad_to, row_table, type_table}
use Rattle.tables.specs.declared.LiteralTable.{LiteralTable}
use Rattle.branches.specs.Procedure.{Procedure, branch_count, branch_limit}
use Rattle.branchreader.specs.declared.Branches.{Branches}
use Rattle.branchreader.specs.declared.Procedure as tables

-- ---- B and the branches, to the end of the file

abbrev pub branches_by : Parser (List Literal) → Parser (List (List Literal))
branches_by p = do
  b ← branch_count
  bs ← times b p
  ended
  return bs

-- the tables of branches, filled up with those of no lines
abbrev pub branch_tables : List (List Literal) → List LiteralTable
branch_tables bs = pad_to (literal_table []) branch_limit (map literal_table bs)

unfoldable pub as_branches : List (List Literal) → Branches
as_branches bs = record { many = length bs; lines = branch_tables bs }

-- the branches in their tables
abbrev pub in_branches : Parser (List (List Literal)) → Parser Branches
in_branches p = p >>= λ bs. return (as_branches bs)

-- ---- the whole file

-- the tables of a procedure
unfoldable pub procedure_tables : Procedure → tables.Procedure
procedure_tables p =
    record { types = type_table p.types; rows = row_table p.types p.rows; many = length p.branches; lines = branch_tables p.branches }

-- the procedure in its tables
abbrev pub in_tables : Parser Procedure → Parser tables.Procedure
in_tables p = p >>= λ x. return (procedure_tables x)
