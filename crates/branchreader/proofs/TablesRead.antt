-- For callers: the tables that are read are those of the procedure that the file has, and a question that refuses the tables refuses the file.
-- Assumes nothing.
use Rattle.std.proofs.Common.{◌≡◌, sym, List, [], ℕ}
use Rattle.guard.specs.Limits.{base}
use Rattle.guard.specs.Number.{Parsed.accepted, Parsed.refused}
use Rattle.numbers.proofs.Mapped.{mapped, mapped_refused}
use Rattle.branches.specs.Procedure.{Procedure, procedure}
use Rattle.branchreader.specs.BranchReader.{in_tables, procedure_tables}
use Rattle.branchreader.specs.declared.Procedure as tables

-- the tables of an accepted file
pub record FileTables (bytes : List ℕ) (t : tables.Procedure) : Type 0 where
  pub holds : Procedure
  pub parsed : procedure base bytes ≡ accepted holds []
  pub is : t ≡ procedure_tables holds

pub taken-file : (bytes : List ℕ) (t : tables.Procedure) → in_tables (procedure base) bytes ≡ accepted t [] → FileTables bytes t
taken-file bytes t e = let (p, parsed, is) = mapped procedure_tables (procedure base bytes) t [] e in record { holds = p; parsed = parsed; is = sym is }

pub refused-file : (bytes : List ℕ) (q : ℕ) → in_tables (procedure base) bytes ≡ refused q → procedure base bytes ≡ refused q
refused-file bytes q e = mapped_refused procedure_tables (procedure base bytes) q e
