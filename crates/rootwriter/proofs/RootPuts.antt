-- The root begins with what is given. Assumes nothing.
use mathlib.Core.Path.{◌≡◌}
use mathlib.Core.List.{List}
use Prim.Native.Nat.{ℕ}
use Rattle.std.specs.Prelude.{Option, Some, None}
use Rattle.guard.specs.Guard.{Guard}
use Rattle.reader.specs.declared.Tables.{Tables}
use Rattle.reader.specs.Reader.{guard_tables}
use Rattle.search.specs.Nodes.{Accepted}
use Rattle.roots.specs.Guards.{GuardsTables}
use Rattle.roots.specs.Roots.{IsRoot}
use Rattle.roots.specs.declared.Root.{Root}
use Rattle.refutations.specs.Record.{record_bytes, record_of}
use Rattle.bytebuffer.specs.declared.Writer.{Writer}
use Rattle.bytebuffer.specs.Appends.{Appends}
use Rattle.bytebuffer.proofs.PutLaws.{from_start, full_from_start}
use Rattle.nodewriter.specs.Writes.{Writes}
use Rattle.rootwriter.specs.RootRecord.{RootPuts}

module _ {tables : Tables} {root : Root} (is : IsRoot tables root) {w w' : Writer} where
  written : {r : Option (Unit {0})} → Writes root.instance root.reads.slots root.state w r w' → (g : Guard) → Accepted g → tables ≡ guard_tables g → Appends (record_bytes g) w r w'
  unfolding record_of
  written p g ok e = p.puts g g.literals ok (is.arrays g ok e) (is.begun g ok e)

  -- the writer still has the buffer
  pub same_buffer : GuardsTables tables → {r : Option (Unit {0})} → Writes root.instance root.reads.slots root.state w r w' → w'.out.ghost_name ≡ w.out.ghost_name
  same_buffer k p = (written p k.guard k.accepted k.is).same

  module _ {out : List ℕ} (e : w.out.now ≡ out) (z : w.at ≡ 0) where
    pub root-puts : Writes root.instance root.reads.slots root.state w (Some tt) w' → RootPuts tables out (Some w'.at) w'.out.now
    root-puts p = record { puts = λ g ok is. from_start e z (written p g ok is) }

    pub root_outgrows : Writes root.instance root.reads.slots root.state w None w' → RootPuts tables out None w'.out.now
    root_outgrows p = record { puts = λ g ok is. full_from_start e z (written p g ok is) }
