-- `put_rows`: N, and then the rows. Assumes nothing.
use Rattle.std.proofs.Common.{rules}
use mathlib.Core.Path.{◌∙◌}
use Rattle.std.specs.Prelude.{Some, None}
use Rattle.tables.specs.Layout.{types_of}
use Rattle.restoredrows.specs.Restored.{PutsRows}
use Rattle.restoredrows.proofs.RowLaws.{put_all, put_full, rows_all, rows_full}
use Rattle.restoredrows.proofs.put_rows.Goals as goal

pub returns-in_err-put_row : goal.returns-in_err-put_row
returns-in_err-put_row c = let a = c.args in
    let new = c.new-writer.ensures in
    let counted = c.in_ok-put.ensures in
    let some = c.requires.some_columns in
    let rows = c.loop-i.invariant in
    let row = c.in_err-put_row.ensures in
    let p : PutsRows (types_of a.types.now) a.cells.now a.n a.out.now None c.put_row.new.out.out.now =
    put_full c.requires.n_bound new.out new.at counted (rows_full rows c.loop-i-test.true row) in
    let same = (row.puts some.cs some.holds some.many).same ∙ (rows.so_far some.cs some.holds some.many).same ∙ counted.same ∙ new.same in
    rw c.from_residual-in_err-put_row.ensures (search (rules, p, same))

pub returns : goal.returns
returns c = let a = c.args in
    let new = c.new-writer.ensures in
    let counted = c.in_ok-put.ensures in
    let some = c.requires.some_columns in
    let rows = c.loop-i.invariant in
    let w = c.loop-i.writer in
    let p : PutsRows (types_of a.types.now) a.cells.now a.n a.out.now (Some w.at) w.out.now =
    put_all c.requires.n_bound new.out new.at counted (rows_all rows c.loop-i-test.false) in
    let same = (rows.so_far some.cs some.holds some.many).same ∙ counted.same ∙ new.same in
    search (rules, p, same)
