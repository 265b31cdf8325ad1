-- `put_answer`: what is matched is the answer, so its numbers are put. Assumes nothing.
use lib.ListN.{drop}
use Rattle.answernumbers.specs.Numbers.{answer_numbers}
use Rattle.answernumbers.proofs.NumberLaws.{of_answer}
use Rattle.answernumbers.proofs.put_answer.Goals as goal

pub returns-in-Refused : goal.returns-in-Refused
unfolding answer_numbers
returns-in-Refused c = of_answer c.args.answer _ (drop 5 c.args.numbers.now) _ c.in-Refused.is c.put.ensures

pub returns-in-Sat : goal.returns-in-Sat
unfolding answer_numbers
returns-in-Sat c = of_answer c.args.answer _ (drop 5 c.args.numbers.now) _ c.in-Sat.is c.put-in-Sat.ensures

pub returns-in-Unsat : goal.returns-in-Unsat
unfolding answer_numbers
returns-in-Unsat c = of_answer c.args.answer _ (drop 5 c.args.numbers.now) _ c.in-Unsat.is c.put-in-Unsat.ensures

pub returns-in-Spent : goal.returns-in-Spent
unfolding answer_numbers
returns-in-Spent c = of_answer c.args.answer _ (drop 5 c.args.numbers.now) _ c.in-Spent.is c.put-in-Spent.ensures
