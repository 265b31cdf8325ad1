-- `put_lines`: L, the guard's own lines, and those behind them. Assumes nothing.
use mathlib.Core.Path.{refl}
use native.Mathlib.Omega.{arith}
use Rattle.mergewriter.proofs.Held.{own_small}
use Rattle.mergewriter.proofs.ThreePuts.{all_put, first_full, second_full}
use Rattle.guardwriter.proofs.AskedLaws.{line-part, lines_byte, more-held, own_held, some_more, some_own}
use Rattle.guardwriter.proofs.put_lines.Goals as goal

pub overflow_add-first : goal.overflow_add-first
overflow_add-first c = omega (arith, lines_byte c.requires.asked)

pub overflow_cast-first : goal.overflow_cast-first
overflow_cast-first c = record { fits = omega (arith, lines_byte c.requires.asked) }

pub returns-in_err-put : goal.returns-in_err-put
returns-in_err-put c = rw c.from_residual.ensures (record { puts = λ g more b. first_full (line-part b _ refl) c.in_err-put.ensures })

pub put_literals-requires : goal.put_literals-requires
put_literals-requires c = record { some_literals = some_own c.requires.asked; small_names = own_small _ c.own_names-own.ensures }

pub returns-in_err-put_literals : goal.returns-in_err-put_literals
returns-in_err-put_literals c = let own = c.own_names-own.ensures in
    let lines = c.in_err-put_literals.ensures in
    rw c.from_residual-in_err-put_literals.ensures (record { puts = λ g more b. second_full (line-part b _ own) c.in_ok-put.ensures (lines.puts g.types g.rows g.literals (own_held b)) })

pub put_literals-requires-2 : goal.put_literals-requires-2
put_literals-requires-2 c = record { some_literals = some_more c.requires.asked; small_names = own_small _ c.own_names-own.ensures }

pub returns : goal.returns
returns c = let lines = c.in_ok-put_literals.ensures in
    record {
      puts = λ g more b. all_put (line-part b _ c.own_names-own.ensures) c.in_ok-put.ensures (lines.puts g.types g.rows g.literals (own_held b)) (c.put_literals-2.ensures.puts g.types g.rows more (more-held b));
    }
