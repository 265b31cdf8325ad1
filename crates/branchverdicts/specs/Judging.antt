-- What the parts of the call put into the buffer, whatever procedure the tables hold, and what it answers. Assumes nothing: definitions.
use Rattle.std.specs.Prelude.{◌≡◌, List, ◌++◌, map, ℕ, ◌-◌, length, drop}
use Rattle.guard.specs.Guard.{Literal}
use Rattle.guard.specs.Limits.{base}
use Rattle.guard.specs.Number.{Parsed, and_then, return}
use Rattle.tables.specs.Layout.{literal_table, pad}
use Rattle.tables.specs.declared.LiteralTable.{LiteralTable}
use Rattle.writing.specs.Written.{Written}
use Rattle.verdictcodes.specs.Codes.{code_for}
use Rattle.branches.specs.Procedure.{Procedure, guard_with}
use Rattle.branches.specs.Verdicts.{codes, pairs}
use Rattle.branches.proofs.Fits.{LinesIn, ProcedureFits}
use Rattle.branchreader.specs.BranchReader.{procedure_tables}
use Rattle.branchreader.specs.declared.Procedure as tables

-- ---- tables that hold a procedure

pub record Holds (t : tables.Procedure) (p : Procedure) : Type 0 where
  pub tables : t ≡ procedure_tables p
  pub fits : ProcedureFits base p

-- a table of lines that fit under the procedure's types and rows, as many as a branch has at most
pub record HoldsLines (p : Procedure) (first : LiteralTable) (ls : List Literal) : Type 0 where
  pub table : first ≡ literal_table ls
  pub lines : LinesIn base.lines p.types p.rows ls

-- they hold some
pub record Taken (t : tables.Procedure) : Type 0 where
  pub procedure : Procedure
  pub holds : Holds t procedure

pub record TakenWith (t : tables.Procedure) (first : LiteralTable) : Type 0 where
  pub procedure : Procedure
  pub holds : Holds t procedure
  pub literals : List Literal
  pub held : HoldsLines procedure first literals

-- ---- what is put

-- the numbers for these lines
abbrev pub codes_of : ℕ → Procedure → List (List Literal) → List ℕ
codes_of budget p lss = map (λ ls. code_for budget (guard_with p ls)) lss

pub record PutsWith (t : tables.Procedure) (first : LiteralTable) (from budget : ℕ) (out : List ℕ) (at r : ℕ) (out' : List ℕ) : Type 0 where
  pub puts : (p : Procedure) (ls : List Literal) → Holds t p → HoldsLines p first ls
      → Written (t.many - from) out at (codes_of budget p (map (λ ms. ls ++ ms) (drop from p.branches))) out' r

pub record PutsPairs (t : tables.Procedure) (budget : ℕ) (out : List ℕ) (at r : ℕ) (out' : List ℕ) : Type 0 where
  pub puts : (p : Procedure) → Holds t p → Written 28 out at (codes_of budget p (pairs p.branches)) out' r

pub record Fills (t : tables.Procedure) (budget : ℕ) (out out' : List ℕ) : Type 0 where
  pub fills : (p : Procedure) → Holds t p → out' ≡ pad (length out) (codes budget p)

-- ---- the answer

-- how many branches there are
abbrev pub count_in : Parsed Procedure → Parsed ℕ
count_in r = and_then (λ p. return (length p.branches)) r
