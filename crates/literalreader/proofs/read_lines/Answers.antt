-- `read_lines` meets its contract. Assumes nothing.
use Rattle.std.proofs.Common.{◌≡◌, ◌∙◌, ◌<◌, ◌+◌, ap, sym, arith, drop}
use Rattle.std.proofs.lemmas.Result.{err_from_is_err_and}
use Rattle.guard.specs.Number.{Parsed.accepted, and_then, return}
use Rattle.guard.specs.Question.{number_of}
use Rattle.tables.specs.declared.LiteralTable.{LiteralTable}
use Rattle.tables.specs.Layout.{literal_table}
use Rattle.numbers.proofs.CountLaws.{below_is}
use Rattle.literalkinds.specs.OneLiteral.{literal_by}
use Rattle.literalreader.proofs.LiteralLaws.{all_read, count_refuses, counted, one_more, stops_here, table_read}
use Rattle.literalreader.proofs.read_lines.Goals as goal

pub returns-in_err-n : goal.returns-in_err-n
returns-in_err-n c = let a = c.args in
    let p = err_from_is_err_and c.from_residual.result c.from_residual.ensures.1 in
    rw (p.1, p.2) (count_refuses a.limit (literal_by a.counts.now a.rows a.types.now) (drop a.at a.bytes.now) (number_of c.in_err-n.field-0.0) c.in_err-n.ensures)

pub returns-in_err-l : goal.returns-in_err-l
returns-in_err-l c = let a = c.args in
    let n = c.in_ok-n.n in
    let l = c.loop-i in
    let p = err_from_is_err_and c.from_residual-in_err-l.result c.from_residual-in_err-l.ensures.1 in
    let one = literal_by a.counts.now a.rows a.types.now in
    rw (p.1, p.2) (counted a.limit one (drop a.at a.bytes.now) n.value (drop n.at a.bytes.now) c.in_ok-n.ensures.accepts
    ∙ ap (and_then (λ ls. return (literal_table ls))) (stops_here one a.bytes.now n.value n.at l.kinds l.terms l.others l.cursor l.i l.invariant (omega arith) (number_of c.in_err-l.field-0.0) c.in_err-l.ensures))

pub loop-i-preserved : goal.loop-i-preserved
loop-i-preserved c = let a = c.args in
    let n = c.in_ok-n.n in
    let l = c.loop-i in
    let few : n.value < a.limit + 1 = below_is (a.limit + 1) 4 (drop a.at a.bytes.now) n.value (drop n.at a.bytes.now) c.in_ok-n.ensures.accepts in
    one_more (literal_by a.counts.now a.rows a.types.now) a.bytes.now n.value n.at l.kinds l.terms l.others l.cursor l.i l.invariant
    (omega arith) (omega (arith, few, c.requires.limit_bound)) c.in_ok-l.l.value c.in_ok-l.l.at c.in_ok-l.ensures.0 c.in_ok-l.ensures.1

pub returns : goal.returns
returns c = let a = c.args in
    let n = c.in_ok-n.n in
    let l = c.loop-i in
    let one = literal_by a.counts.now a.rows a.types.now in
    let done : n.value ≡ l.i = omega arith in
    record {
      accepts =
          counted a.limit one (drop a.at a.bytes.now) n.value (drop n.at a.bytes.now) c.in_ok-n.ensures.accepts
          ∙ ap (and_then (λ ls. return (literal_table ls))) (all_read one a.bytes.now n.value n.at l.kinds l.terms l.others l.cursor l.i l.invariant done)
          ∙ ap (λ (t : LiteralTable). accepted t (drop l.cursor a.bytes.now)) (sym (table_read one a.bytes.now n.value n.at l.kinds l.terms l.others l.cursor l.i l.invariant done));
      within = l.invariant.within;
    }
