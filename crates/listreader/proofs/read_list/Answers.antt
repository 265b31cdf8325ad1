-- `listreader::read_list`: the question about the types of the plain bytes, and their tables. Assumes nothing.
use Rattle.std.proofs.lemmas.Result.{err_from_is_err_and}
use Rattle.guard.specs.Question.{number_of}
use Rattle.listreader.proofs.ListReaderLaws.{answered, types-refused}
use Rattle.listreader.proofs.read_list.Goals as goal

pub returns-in_err-types_question : goal.returns-in_err-types_question
returns-in_err-types_question c = let p = c.plain_bytes-many in
    let k = types-refused c.args.list.now p.new.out p.result p.ensures (number_of c.in_err-types_question.field-0.0) c.in_err-types_question.ensures in
    let e = err_from_is_err_and c.from_residual.result c.from_residual.ensures.1 in
    rw (e.1, e.2) (record { reads_list = k.refuses; not_malformed = k.not_malformed })

pub returns : goal.returns
returns c = let p = c.plain_bytes-many in
    let k = answered c.args.list.now p.new.out p.result p.ensures c.in_ok-types_question.ensures c.read.result c.read.ensures in
    record { reads_list = k.0; not_malformed = k.1 }
