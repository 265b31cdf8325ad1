-- `summarize` meets its contract: it asks in the order of the definition. Assumes nothing.
use Rattle.std.proofs.Common.{ap, sym, ◌∙◌, arith, length}
use Rattle.std.proofs.lemmas.Result.{err_from_is_err_and}
use Rattle.guard.specs.Question.{number_of}
use Rattle.summaries.specs.AddedLine.{made_anew}
use Rattle.summary.specs.Passed.{passed}
use Rattle.summary.proofs.Asked.{asked, file-refused, short}
use Rattle.summary.proofs.summarize.Goals as goal

pub returns-then-summary-lt48 : goal.returns-then-summary-lt48
returns-then-summary-lt48 c = let a = c.args in
    let e = short a.file.now (length a.summary.now) (omega arith) in
    record {
      value = ap passed e;
      summary_after = sym (ap (made_anew a.budget a.summary.now) e);
    }

pub returns-in_err-t : goal.returns-in_err-t
returns-in_err-t c = let a = c.args in
    let p = err_from_is_err_and c.from_residual.result c.from_residual.ensures.1 in
    let e = file-refused a.file.now (length a.summary.now) c.if-summary-lt48.false (number_of c.in_err-t.field-0.0) c.in_err-t.ensures in
    record {
      value = rw (p.1, p.2) (ap passed e);
      summary_after = sym (ap (made_anew a.budget a.summary.now) e);
    }

pub fill-requires : goal.fill-requires
fill-requires c = let a = c.args in
    let k = asked a.file.now (length a.summary.now) c.if-summary-lt48.false c.in_ok-t.t c.in_ok-t.ensures in
    record {
      some_guard = record { guard = k.guard; held = k.summarized };
      summary_length_in_bounds = c.if-summary-lt48.false;
    }

pub returns : goal.returns
returns c = let a = c.args in
    let k = asked a.file.now (length a.summary.now) c.if-summary-lt48.false c.in_ok-t.t c.in_ok-t.ensures in
    record {
      value = ap passed k.asks;
      summary_after = c.fill.ensures.fills k.guard k.summarized ∙ sym (ap (made_anew a.budget a.summary.now) k.asks);
    }
