-- What a search of a guard begins with, by its tables. Assumes nothing: definitions.
use Rattle.std.specs.Prelude.{◌≡◌, ◌≤◌}
use Rattle.guard.specs.Guard.{Guard}
use Rattle.reader.specs.declared.Tables.{Tables}
use Rattle.reader.specs.Reader.{guard_tables}
use Rattle.reasons.specs.Reasons.{LinesFit}
use Rattle.search.specs.Nodes.{Accepted, ArraysOf, Begun}
pub use Rattle.roots.specs.Guards.{GuardsTables}
use Rattle.roots.specs.declared.Root.{Root}

-- What is looked at is that of any guard with these tables, and so is the state; the lines are few, and their terms are there.
pub record IsRoot (tables : Tables) (root : Root) : Type 0 where
  pub lines_fit : LinesFit root.instance.lines.terms root.instance.lines.others
  pub few_lines : root.instance.lines.many ≤ 64
  pub arrays : (g : Guard) → Accepted g → tables ≡ guard_tables g → ArraysOf g root.instance root.reads.slots
  pub begun : (g : Guard) → Accepted g → tables ≡ guard_tables g → Begun g g.literals root.state
