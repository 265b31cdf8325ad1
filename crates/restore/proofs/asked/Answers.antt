-- `asked`: what the rows and the lines say. Assumes nothing.
use native.Mathlib.Omega.{arith}
use lib.ListN.{drop}
use Rattle.std.proofs.lemmas.Result.{err_from_is_err_and}
use Rattle.guard.specs.Question.{number_of}
use Rattle.restore.proofs.AskLaws.{few-rows, lines-read, lines_stop, rows_stop, types-there}
use Rattle.restore.proofs.asked.Goals as goal

pub read_rows-requires : goal.read_rows-requires
read_rows-requires c = (c.requires.taken.range, omega arith)

pub returns-in_err-n : goal.returns-in_err-n
returns-in_err-n c = let a = c.args in
    let p = err_from_is_err_and c.from_residual.result c.from_residual.ensures.1 in
    rw (p.1, p.2) (λ ts k. rows_stop a.rows.now (drop a.at a.stored.now) k (number_of c.in_err-n.field-0.0) c.in_err-n.ensures)

pub read_literals-requires : goal.read_literals-requires
read_literals-requires c = let a = c.args in
    let k = c.requires.taken in
    let n = c.in_ok-n.n in
    record {
      limit_bound = omega arith;
      rows_bound = few-rows a.rows.now (drop a.at a.stored.now) k n.value n.at c.in_ok-n.ensures;
      each_below = λ i. omega (arith, k.range.variants i);
      each_below_2 = types-there a.rows.now (drop a.at a.stored.now) k n.value n.at c.in_ok-n.ensures;
    }

pub returns-in_err-read_literals : goal.returns-in_err-read_literals
returns-in_err-read_literals c = let a = c.args in
    let n = c.in_ok-n.n in
    let p = err_from_is_err_and c.from_residual-in_err-read_literals.result c.from_residual-in_err-read_literals.ensures.1 in
    rw (p.1, p.2) (λ ts k. lines_stop a.rows.now (drop a.at a.stored.now) k n.value n.at c.in_ok-n.ensures (number_of c.in_err-read_literals.field-0.0) c.in_err-read_literals.ensures)

pub returns : goal.returns
returns c = let a = c.args in
    let n = c.in_ok-n.n in
    λ ts k. lines-read a.rows.now (drop a.at a.stored.now) k n.value n.at c.in_ok-n.ensures c.in_ok-read_literals.field-0 c.in_ok-read_literals.ensures
