-- `read_procedure` meets its contract: the head, and then the branches. Assumes nothing.
use Rattle.std.proofs.lemmas.Result.{err_from_is_err_and}
use Rattle.guard.specs.Question.{number_of}
use Rattle.branchreader.proofs.ReaderLaws.{all_read, branches_stop, few-rows, few-variants, head_stop, types-there}
use Rattle.branchreader.proofs.read_procedure.Goals as goal

pub returns-in_err-h : goal.returns-in_err-h
returns-in_err-h c =
    let p = err_from_is_err_and c.from_residual.result c.from_residual.ensures.1 in
    rw (p.1, p.2) (head_stop c.args.bytes.now (number_of c.in_err-h.field-0.0) c.in_err-h.ensures)

pub read_branches-requires : goal.read_branches-requires
read_branches-requires c = let bytes = c.args.bytes.now in
    let h = c.in_ok-h.h in
    record {
      rows_bound = few-rows bytes h.value h.at c.in_ok-h.ensures;
      each_below = few-variants bytes h.value h.at c.in_ok-h.ensures;
      each_below_2 = types-there bytes h.value h.at c.in_ok-h.ensures;
    }

pub returns-in_err-b : goal.returns-in_err-b
returns-in_err-b c = let h = c.in_ok-h.h in
    let p = err_from_is_err_and c.from_residual-in_err-b.result c.from_residual-in_err-b.ensures.1 in
    rw (p.1, p.2) (branches_stop c.args.bytes.now h.value h.at c.in_ok-h.ensures (number_of c.in_err-b.field-0.0) c.in_err-b.ensures)

pub returns : goal.returns
returns c = let h = c.in_ok-h.h in
    all_read c.args.bytes.now h.value h.at c.in_ok-h.ensures c.in_ok-b.b c.in_ok-b.ensures
