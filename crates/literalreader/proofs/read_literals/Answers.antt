-- `read_literals` meets its contract. Assumes nothing.
use Rattle.std.proofs.Common.{arith, drop}
use lib.ListN.{length-drop}
use Rattle.std.proofs.lemmas.Result.{err_from_is_err_and}
use Rattle.guard.specs.Question.{number_of}
use Rattle.literalkinds.specs.OneLiteral.{literal_by}
use Rattle.literalreader.proofs.LiteralLaws.{at_the_end, lines_refuse, not_ended}
use Rattle.literalreader.proofs.read_literals.Goals as goal

pub returns-in_err-l : goal.returns-in_err-l
returns-in_err-l c = let a = c.args in
    let p = err_from_is_err_and c.from_residual.result c.from_residual.ensures.1 in
    rw (p.1, p.2) (lines_refuse a.limit (literal_by a.counts.now a.rows a.types.now) (drop a.at a.bytes.now) (number_of c.in_err-l.field-0.0) c.in_err-l.ensures)

pub returns-then-l-bytes : goal.returns-then-l-bytes
returns-then-l-bytes c = let a = c.args in
    let l = c.in_ok-l.l in
    not_ended a.limit (literal_by a.counts.now a.rows a.types.now) (drop a.at a.bytes.now) l.value (drop l.at a.bytes.now) c.in_ok-l.ensures.accepts (omega (arith, length-drop l.at a.bytes.now))

pub returns : goal.returns
returns c = let a = c.args in
    let l = c.in_ok-l.l in
    at_the_end a.limit (literal_by a.counts.now a.rows a.types.now) (drop a.at a.bytes.now) l.value (drop l.at a.bytes.now) c.in_ok-l.ensures.accepts (omega (arith, length-drop l.at a.bytes.now))
