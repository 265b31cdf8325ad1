-- What the desk says of the guard in tables with lines behind its own. Assumes nothing: definitions.
use Rattle.std.specs.Prelude.{◌≡◌, Option, Some, None, List, ℕ}
use Rattle.guard.specs.Guard.{Guard, Literal}
use Rattle.tables.specs.declared.LiteralTable.{LiteralTable}
use Rattle.tables.specs.declared.RowTable.{RowTable}
use Rattle.tables.specs.declared.TypeTable.{TypeTable}
use Rattle.verdictcodes.specs.Codes.{code_for, with_more}
use Rattle.verdicts.specs.declared.Verdict.{Verdict}
use Rattle.verdicts.specs.declared.Verdict.TheVariants.{Sat, Unsat, Spent}
pub use Rattle.guardwriter.specs.GuardBytes.{Askable, AskedOf, wide}

-- document 02, #113: "1 SAT, 2 UNSAT, 3 SPENT"
abbrev pub code : Verdict → ℕ
code Sat = 1
code Unsat = 2
code Spent = 3

-- a refusal is no verdict
abbrev pub code_or_none : Option Verdict → ℕ
code_or_none (Some v) = code v
code_or_none None = 0

-- the verdict, whatever guard and lines the tables hold
pub record VerdictOn (types : TypeTable) (rows : RowTable) (first second : LiteralTable) (budget : ℕ) (v : Verdict) : Type 0 where
  pub on : (g : Guard) (more : List Literal) → AskedOf types rows first second g more → code v ≡ code_for budget (with_more g more)
