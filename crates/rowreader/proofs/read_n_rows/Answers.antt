-- `read_n_rows` meets its contract. Assumes nothing.
use Rattle.std.proofs.Common.{sym, subst, arith}
use Rattle.std.proofs.lemmas.Result.{err_from_is_err_and}
use Rattle.tables.specs.declared.RowTable.{RowTable}
use Rattle.tables.specs.Layout.{types_of}
use Rattle.rowreader.proofs.RowLaws.{RowsSoFar, before-row, kind_stops, row_next, row_stops, rows-done, rows-many, rows_start}
use Rattle.rowreader.proofs.read_n_rows.Goals as goal

pub loop-i-init : goal.loop-i-init
loop-i-init c = let a = c.args in
    subst (λ (x : RowTable). RowsSoFar a.bytes.now a.at a.n (types_of a.table) x a.at 0) (sym c.no_rows-rows.ensures) (rows_start a.bytes.now a.at a.n a.table c.requires.within)

pub returns-in_err-k : goal.returns-in_err-k
returns-in_err-k c = let a = c.args in
    let l = c.loop-i in
    let p = err_from_is_err_and c.from_residual.result c.from_residual.ensures.1 in
    rw (p.1, p.2) (kind_stops a.bytes.now a.at a.n a.table l.rows l.next l.i l.invariant c.requires.in_range c.requires.few c.loop-i-test.true _ c.in_err-k.ensures)

pub read_row-requires : goal.read_row-requires
read_row-requires c = let a = c.args in
    let l = c.loop-i in
    (c.requires.in_range, before-row a.bytes.now a.at a.n a.table l.rows l.next l.i l.invariant c.requires.in_range c.requires.few c.loop-i-test.true)

pub returns-in_err-r : goal.returns-in_err-r
returns-in_err-r c = let a = c.args in
    let l = c.loop-i in
    let k = c.in_ok-k in
    let p = err_from_is_err_and c.from_residual-in_err-r.result c.from_residual-in_err-r.ensures.1 in
    rw (p.1, p.2) (row_stops a.bytes.now a.at a.n a.table l.rows l.next l.i l.invariant c.requires.in_range c.requires.few c.loop-i-test.true k.k.value k.k.at k.ensures.accepts _ c.in_err-r.ensures)

pub store-rows-requires : goal.store-rows-requires
store-rows-requires c = let a = c.args in
    let l = c.loop-i in
    omega (arith, rows-many a.bytes.now a.at a.n a.table l.rows l.next l.i l.invariant, c.loop-i-test.true, c.requires.few)

pub loop-i-preserved : goal.loop-i-preserved
loop-i-preserved c = let a = c.args in
    let l = c.loop-i in
    let k = c.in_ok-k in
    let r = c.in_ok-r in
    rw c.store-rows.ensures
    (row_next a.bytes.now a.at a.n a.table l.rows l.next l.i l.invariant c.requires.in_range c.requires.few c.loop-i-test.true k.k.value k.k.at k.ensures.accepts r.r.value r.r.at r.ensures.accepts r.ensures.within)

pub returns : goal.returns
returns c = let a = c.args in
    let l = c.loop-i in
    record { accepts = rows-done a.bytes.now a.at a.n a.table l.rows l.next l.i l.invariant c.loop-i-test.false; within = l.invariant.within }
