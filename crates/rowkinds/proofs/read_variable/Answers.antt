-- `read_variable` meets its contract. Assumes nothing.
use Rattle.std.proofs.Common.{refl}
use Rattle.std.proofs.lemmas.Result.{err_from_is_err_and}
use Rattle.guard.specs.Guard.{Row.variable}
use Rattle.guard.specs.Number.{return}
use Rattle.rowkinds.proofs.RowLaws.{type-left}
use Rattle.rowkinds.proofs.read_variable.Goals as goal

pub returns-in_err-t : goal.returns-in_err-t
returns-in_err-t c = let a = c.args in
    let p = err_from_is_err_and c.from_residual.result c.from_residual.ensures.1 in
    rw (p.1, p.2, type-left a.table a.bytes.now a.at (λ t. return (variable t)), c.in_err-t.ensures) refl

pub returns : goal.returns
returns c = let a = c.args in
    let t = c.in_ok-t in
    record { accepts = rw (type-left a.table a.bytes.now a.at (λ t. return (variable t)), t.ensures.accepts) refl; within = t.ensures.within }
