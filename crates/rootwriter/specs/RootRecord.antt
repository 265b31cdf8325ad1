-- What is written of a guard from its root on. Assumes nothing: definitions.
use Rattle.std.specs.Prelude.{◌≡◌, Option, List, ℕ}
use Rattle.guard.specs.Guard.{Guard}
use Rattle.reader.specs.declared.Tables.{Tables}
use Rattle.reader.specs.Reader.{guard_tables}
use Rattle.search.specs.Nodes.{Accepted}
use Rattle.refutations.specs.Record.{record_bytes}
use Rattle.bytebuffer.specs.Puts.{Puts}

-- the record of a guard that a reader took, from the start of the buffer on
pub record RootPuts (tables : Tables) (out : List ℕ) (r : Option ℕ) (out' : List ℕ) : Type 0 where
  pub puts : (g : Guard) → Accepted g → tables ≡ guard_tables g → Puts (record_bytes g) out 0 r out'
