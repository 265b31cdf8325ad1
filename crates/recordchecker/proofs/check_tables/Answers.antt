-- `check_tables` meets its contract. Assumes nothing.
use Rattle.std.proofs.lemmas.Result.{err_from_is_err_and}
use Rattle.recordchecker.proofs.RootChecked.{ends, root-refused, runs_on}
use Rattle.recordchecker.proofs.check_tables.Goals as goal

pub returns-in_err-end : goal.returns-in_err-end
returns-in_err-end c = let p = err_from_is_err_and c.from_residual.result c.from_residual.ensures.1 in
    rw (p.1, p.2) (root-refused c.args.tables.now c.args.written.now c.in_err-end.field-0.0 c.in_err-end.ensures)

pub returns-then-end-written : goal.returns-then-end-written
returns-then-end-written c = runs_on c.args.tables.now c.args.written.now c.in_ok-end.end c.in_ok-end.ensures c.if-end-written.true

pub returns : goal.returns
returns c = ends c.args.tables.now c.args.written.now c.in_ok-end.end c.in_ok-end.ensures c.if-end-written.false
