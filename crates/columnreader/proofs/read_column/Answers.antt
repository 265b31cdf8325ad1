-- `read_column`: the numbers of the rows before i are read, and stand in the cells. Assumes nothing.
use Rattle.std.proofs.lemmas.Result.{err_from_is_err_and}
use Rattle.columnreader.proofs.ColumnLaws.{column-next, column-start, column_stops}
use Rattle.columnreader.proofs.read_column.Goals as goal

pub loop-i-init : goal.loop-i-init
loop-i-init c = record { within = c.requires.at_in_bounds.0; so_far = λ cs h e. column-start _ _ _ _ _ cs h }

pub returns-in_err-x : goal.returns-in_err-x
returns-in_err-x c =
    let p = err_from_is_err_and c.from_residual.result c.from_residual.ensures.1 in
    rw (p.1, p.2) (λ cs h e. column_stops (c.loop-i.invariant.so_far cs h e) e c.loop-i-test.true c.requires.at_in_bounds.1 c.requires.at_in_bounds.2 _ c.in_err-x.ensures)

pub loop-i-preserved : goal.loop-i-preserved
loop-i-preserved c = record {
  within = c.in_ok-x.ensures.within;
  so_far = λ cs h e. column-next (c.loop-i.invariant.so_far cs h e) e c.loop-i-test.true c.requires.at_in_bounds.1 c.requires.at_in_bounds.2 _ _ c.in_ok-x.ensures.accepts;
}
