-- `put_shown`: the file is read once more. Assumes nothing.
use native.Mathlib.Omega.{arith}
use Rattle.answertext.proofs.TablesShown.{arities-fit, no_terms, none_of, shown-is, tables_of}
use Rattle.writing.proofs.Wrote.{and_then, more_room, same_text}
use Rattle.answertext.proofs.put_shown.Goals as goal

pub put_rows-requires-clause-arities_fit : goal.put_rows-requires-clause-arities_fit
put_rows-requires-clause-arities_fit c = arities-fit (tables_of c.args.bytes.now c.in-Ok.t c.in-Ok.ensures)

pub overflow_cast-t : goal.overflow_cast-t
overflow_cast-t c = let r = tables_of c.args.bytes.now c.in-Ok.t c.in-Ok.ensures in omega (arith, r.terms_of, r.few)

pub put_terms-requires : goal.put_terms-requires
put_terms-requires c = let r = tables_of c.args.bytes.now c.in-Ok.t c.in-Ok.ensures in omega (arith, r.terms_of, r.few)

pub returns-in-Ok : goal.returns-in-Ok
returns-in-Ok c = let a = c.args in
    let r = tables_of a.bytes.now c.in-Ok.t c.in-Ok.ensures in
    same_text (shown-is r a.many a.rows.now a.places.now) (more_room _ (omega (arith, r.terms_of, r.few)) (and_then c.put_rows.ensures c.put_terms.ensures))

pub put_rows-requires-in-Err-clause-arities_fit : goal.put_rows-requires-in-Err-clause-arities_fit
put_rows-requires-in-Err-clause-arities_fit c = arities-fit (none_of c.args.bytes.now _ c.in-Err.ensures c.no_types.result c.no_types.ensures)

pub returns-in-Err : goal.returns-in-Err
returns-in-Err c = let a = c.args in
    let r = none_of a.bytes.now _ c.in-Err.ensures c.no_types.result c.no_types.ensures in
    same_text (no_terms r a.many a.rows.now a.places.now) (more_room _ (omega arith) c.put_rows-in-Err.ensures)
