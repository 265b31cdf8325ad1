-- `read_variant_term` meets its contract. Assumes nothing.
use Rattle.std.proofs.Common.{refl}
use Rattle.std.proofs.lemmas.Result.{err_from_is_err_and}
use Rattle.rowkinds.proofs.RowLaws.{term-left}
use Rattle.rowkinds.proofs.read_variant_term.Goals as goal

pub returns-in_err-a-clause-term : goal.returns-in_err-a-clause-term
returns-in_err-a-clause-term c = let a = c.args in
    let p = err_from_is_err_and c.from_residual.result c.from_residual.ensures.1 in
    rw (p.1, p.2, term-left a.table a.rows a.types.now c.requires.1 a.bytes.now a.at, c.in_err-a.ensures) refl
