-- `write_root` meets its contract. Assumes nothing.
use Rattle.std.proofs.Common.{rules}
use mathlib.Core.Path.{◌∙◌}
use Rattle.std.specs.Prelude.{Some, None}
use Rattle.rootwriter.specs.RootRecord.{RootPuts}
use Rattle.rootwriter.proofs.RootPuts.{root-puts, root_outgrows, same_buffer}
use Rattle.rootwriter.proofs.write_root.Goals as goal

pub returns-in_err-write_node : goal.returns-in_err-write_node
returns-in_err-write_node c =
    let a = c.args in
    let new = c.new-writer.ensures in
    let is = c.root_of-root.ensures in
    let p : RootPuts a.tables.now a.out.now None c.write_node.new.out.out.now = root_outgrows is new.out new.at c.in_err-write_node.ensures in
    let same = same_buffer is c.requires.guards_tables c.in_err-write_node.ensures ∙ new.same in
    rw c.from_residual.ensures (search (rules, p, same))

pub returns : goal.returns
returns c =
    let a = c.args in
    let new = c.new-writer.ensures in
    let is = c.root_of-root.ensures in
    let w = c.write_node.new.out in
    let p : RootPuts a.tables.now a.out.now (Some w.at) w.out.now = root-puts is new.out new.at c.in_ok-write_node.ensures in
    let same = same_buffer is c.requires.guards_tables c.in_ok-write_node.ensures ∙ new.same in
    search (rules, p, same)
