-- What is computed from the tables of an accepted guard is its problem. Assumes nothing.
use mathlib.Core.Path.{◌≡◌}
use mathlib.Core.List.{List}
use Prim.Native.Nat.{ℕ}
use Rattle.guard.specs.File.{file}
use Rattle.guard.specs.Guard.{Guard}
use Rattle.guard.specs.Limits.{Limits, Supported}
use Rattle.guard.specs.Number.{Parsed.accepted}
use Rattle.guard.proofs.Accepted.{accepted-total, accepted_well_formed}
use Rattle.reader.specs.Reader.{guard_tables}
use Rattle.problem.specs.Problem.{problem_of}
use Rattle.problem.specs.Columns.{problem_by}
use Rattle.problem.proofs.ProblemLaws.{problem_is}

pub accepted_problem : (limits : Limits) → Supported limits → (bytes : List ℕ) (g : Guard) (rest : List ℕ) → file limits bytes ≡ accepted g rest → problem_by (guard_tables g) ≡ problem_of g
accepted_problem limits supported bytes g rest e = problem_is limits supported g (accepted_well_formed limits supported bytes g rest e) (accepted-total limits supported bytes g rest e)
