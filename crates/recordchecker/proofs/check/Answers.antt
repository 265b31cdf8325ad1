-- `check` meets its contract. Assumes nothing.
use Rattle.std.proofs.lemmas.Result.{err_from_is_err_and}
use Rattle.guard.specs.Question.{number_of}
use Rattle.guard.proofs.Claims.{base-supported}
use Rattle.roots.proofs.TablesRead.{tables-read}
use Rattle.recordchecker.proofs.RootChecked.{file-refuses, file_takes}
use Rattle.recordchecker.proofs.check.Goals as goal

pub returns-in_err-t : goal.returns-in_err-t
returns-in_err-t c = let p = err_from_is_err_and c.from_residual.result c.from_residual.ensures.1 in
    rw (p.1, p.2) (file-refuses c.args.file.now c.args.written.now (number_of c.in_err-t.field-0.0) c.in_err-t.ensures)

pub check_tables-requires : goal.check_tables-requires
check_tables-requires c = tables-read _ base-supported c.args.file.now c.in_ok-t.t c.in_ok-t.ensures

pub returns : goal.returns
returns c = file_takes c.args.file.now c.args.written.now c.in_ok-t.t c.in_ok-t.ensures c.check_tables.result c.check_tables.ensures
