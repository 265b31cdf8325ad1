-- `put_field`: kind, term, and two numbers behind them. Assumes nothing.
use Rattle.rowterms.proofs.ByteLaws.{field_none, field_put, field_short}
use Rattle.rowterms.proofs.put_field.Goals as goal

pub returns-in_err-put_small : goal.returns-in_err-put_small
returns-in_err-put_small c = let a = c.args in rw c.from_residual.ensures (field_none a.names.now a.a a.v a.p c.in_err-put_small.ensures)

pub returns-in_err-put_small-2 : goal.returns-in_err-put_small-2
returns-in_err-put_small-2 c = let a = c.args in rw c.from_residual-in_err-put_small-2.ensures (field_short a.names.now a.a a.v a.p c.in_ok-put_small.ensures c.in_err-put_small-2.ensures)

pub returns : goal.returns
returns c = let a = c.args in field_put a.names.now a.a a.v a.p c.in_ok-put_small.ensures c.requires.1 c.requires.2 c.in_ok-put_small-2.ensures c.put.ensures
