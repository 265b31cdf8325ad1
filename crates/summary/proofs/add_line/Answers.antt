-- `add_line` meets its contract: it asks in the order of the definition. Assumes nothing.
use Rattle.std.proofs.Common.{ap, sym, ◌∙◌, arith, length}
use Rattle.std.proofs.lemmas.Result.{err_from_is_err_and}
use Rattle.guard.specs.Question.{number_of}
use Rattle.summaries.specs.AddedLine.{brought}
use Rattle.summary.specs.Passed.{passed}
use Rattle.summary.proofs.Asked.{added, asked, line_refused, line_unread, short-line}
use Rattle.summary.proofs.add_line.Goals as goal

pub returns-then-summary-lt48 : goal.returns-then-summary-lt48
returns-then-summary-lt48 c = let a = c.args in
    let e = short-line a.file.now (length a.summary.now) a.line.now (omega arith) in
    record {
      value = ap passed e;
      summary_after = sym (ap (brought a.budget a.summary.now) e);
    }

pub returns-in_err-t : goal.returns-in_err-t
returns-in_err-t c = let a = c.args in
    let p = err_from_is_err_and c.from_residual.result c.from_residual.ensures.1 in
    let e = line_unread a.file.now (length a.summary.now) c.if-summary-lt48.false a.line.now (number_of c.in_err-t.field-0.0) c.in_err-t.ensures in
    record {
      value = rw (p.1, p.2) (ap passed e);
      summary_after = sym (ap (brought a.budget a.summary.now) e);
    }

pub read_line-requires : goal.read_line-requires
read_line-requires c = let a = c.args in
    let k = asked a.file.now (length a.summary.now) c.if-summary-lt48.false c.in_ok-t.t c.in_ok-t.ensures in
    record { guard = k.guard; held = k.held }

pub returns-in_err-lines : goal.returns-in_err-lines
returns-in_err-lines c = let a = c.args in
    let p = err_from_is_err_and c.from_residual-in_err-lines.result c.from_residual-in_err-lines.ensures.1 in
    let k = asked a.file.now (length a.summary.now) c.if-summary-lt48.false c.in_ok-t.t c.in_ok-t.ensures in
    let e = line_refused a.file.now (length a.summary.now) c.if-summary-lt48.false c.in_ok-t.t c.in_ok-t.ensures k a.line.now (number_of c.in_err-lines.field-0.0) (c.in_err-lines.ensures.reads k.guard k.held) in
    record {
      value = rw (p.1, p.2) (ap passed e);
      summary_after = sym (ap (brought a.budget a.summary.now) e);
    }

pub fill-requires : goal.fill-requires
fill-requires c = let a = c.args in
    let k = asked a.file.now (length a.summary.now) c.if-summary-lt48.false c.in_ok-t.t c.in_ok-t.ensures in
    let x = added a.file.now (length a.summary.now) c.if-summary-lt48.false c.in_ok-t.t c.in_ok-t.ensures k a.line.now c.in_ok-lines.lines (c.in_ok-lines.ensures.reads k.guard k.held) in
    record {
      some_guard = record { guard = x.guard; held = x.held };
      summary_length_in_bounds = c.if-summary-lt48.false;
    }

pub returns : goal.returns
returns c = let a = c.args in
    let k = asked a.file.now (length a.summary.now) c.if-summary-lt48.false c.in_ok-t.t c.in_ok-t.ensures in
    let x = added a.file.now (length a.summary.now) c.if-summary-lt48.false c.in_ok-t.t c.in_ok-t.ensures k a.line.now c.in_ok-lines.lines (c.in_ok-lines.ensures.reads k.guard k.held) in
    record {
      value = ap passed x.asks;
      summary_after = c.fill.ensures.fills x.guard x.held ∙ sym (ap (brought a.budget a.summary.now) x.asks);
    }
