-- Tables of a guard that a reader took. Assumes nothing: definitions.
use Rattle.std.specs.Prelude.{◌≡◌}
use Rattle.guard.specs.Guard.{Guard}
use Rattle.reader.specs.declared.Tables.{Tables}
use Rattle.reader.specs.Reader.{guard_tables}
use Rattle.search.specs.Nodes.{Accepted}

-- the tables are those of a guard that a reader took
pub record GuardsTables (tables : Tables) : Type 0 where
  pub guard : Guard
  pub accepted : Accepted guard
  pub is : tables ≡ guard_tables guard
