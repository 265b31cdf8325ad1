-- `read_count` meets its contract: a number of at most 8, and not 0. Assumes nothing.
use Rattle.std.proofs.Common.{drop}
use Rattle.std.proofs.lemmas.Result.{err_from_is_err_and}
use Rattle.guard.specs.Question.{number_of}
use Rattle.branchreader.proofs.CountLaws.{limit_refuses}
use Rattle.branchreader.proofs.read_count.Goals as goal

pub returns-in_err-n : goal.returns-in_err-n
returns-in_err-n c = let a = c.args in
    let p = err_from_is_err_and c.from_residual.result c.from_residual.ensures.1 in
    rw (p.1, p.2) (limit_refuses (drop a.at a.bytes.now) (number_of c.in_err-n.field-0.0) c.in_err-n.ensures)
