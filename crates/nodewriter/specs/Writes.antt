-- What is written of a node: the bytes of its entries. Assumes nothing: definitions.
use Rattle.std.specs.Prelude.{Option, List, ℕ}
use Rattle.laws.specs.Lists.{concat_map}
use Rattle.guard.specs.Closure.{State}
use Rattle.guard.specs.Guard.{Guard, Literal}
use Rattle.guard.specs.Terms.{table_of}
use Rattle.instance.specs.declared.Instance.{Instance}
use Rattle.search.specs.Nodes.{Accepted, ArraysOf, Begun}
use Rattle.refutations.specs.Record.{bytes_of, entries}
use Rattle.bytebuffer.specs.declared.Writer.{Writer}
use Rattle.bytebuffer.specs.Appends.{Appends}

-- From a node that has begun: the bytes of its entries are put behind those that are written, as far as they fit.
pub record Writes (i : Instance) (reads : List ℕ) (s : State) (w : Writer) (r : Option (Unit {0})) (w' : Writer) : Type 0 where
  pub puts : (g : Guard) (ls : List Literal) → Accepted g → ArraysOf g i reads → Begun g ls s → Appends (concat_map bytes_of (entries (table_of g) g.literals ls)) w r w'
