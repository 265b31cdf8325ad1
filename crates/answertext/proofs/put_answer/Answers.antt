-- `put_answer`: what is matched is the answer. Assumes nothing.
use mathlib.Core.Path.{ap}
use native.Mathlib.Omega.{arith}
use Rattle.guard.specs.Answer.{rows_of}
use Rattle.guard.specs.File.{file}
use Rattle.guard.specs.Limits.{base}
use Rattle.answertext.specs.Text.{answer_text}
use Rattle.answertext.proofs.AnswerKnown.{of_known}
use Rattle.writing.proofs.Wrote.{and_then}
use Rattle.answertext.proofs.put_answer.Goals as goal

pub put_shown-requires : goal.put_shown-requires
unfolding rows_of
put_shown-requires c = omega (arith, ap rows_of c.in-Sat.is)

pub returns-in-Refused : goal.returns-in-Refused
unfolding answer_text rows_of
returns-in-Refused c = let a = c.args in
    of_known (file base a.bytes.now) a.rows.now a.places.now a.answer _ c.in-Refused.is (omega arith) c.put_verdict.ensures

pub returns-in-Sat : goal.returns-in-Sat
unfolding answer_text rows_of
returns-in-Sat c = let a = c.args in
    of_known (file base a.bytes.now) a.rows.now a.places.now a.answer _ c.in-Sat.is (omega arith) (and_then c.put_verdict-in-Sat.ensures c.put_shown.ensures)

pub returns-in-Unsat : goal.returns-in-Unsat
unfolding answer_text rows_of
returns-in-Unsat c = let a = c.args in
    of_known (file base a.bytes.now) a.rows.now a.places.now a.answer _ c.in-Unsat.is (omega arith) c.put_verdict-in-Unsat.ensures

pub returns-in-Spent : goal.returns-in-Spent
unfolding answer_text rows_of
returns-in-Spent c = let a = c.args in
    of_known (file base a.bytes.now) a.rows.now a.places.now a.answer _ c.in-Spent.is (omega arith) c.put_verdict-in-Spent.ensures
