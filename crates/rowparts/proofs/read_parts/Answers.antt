-- `read_parts` meets its contract. Assumes nothing.
use Rattle.std.proofs.lemmas.Result.{err_from_is_err_and}
use Rattle.rowparts.proofs.PartLaws.{part-next, part_stops, part_unlike}
use Rattle.rowparts.proofs.read_parts.Goals as goal

pub returns-in_err-p : goal.returns-in_err-p
returns-in_err-p c = let a = c.args in
    let l = c.loop-j in
    let p = err_from_is_err_and c.from_residual.result c.from_residual.ensures.1 in
    rw (p.1, p.2)
    (part_stops a.bytes.now a.at a.rows a.types.now a.sorts.now a.w a.arity l.parts l.next l.j l.invariant c.requires.few c.requires.long c.loop-j-test.true _ c.in_err-p.ensures)

pub returns-then-types-p : goal.returns-then-types-p
returns-then-types-p c = let a = c.args in
    let l = c.loop-j in
    let p = c.in_ok-p in
    part_unlike a.bytes.now a.at a.rows a.types.now a.sorts.now a.w a.arity l.parts l.next l.j l.invariant c.requires.few c.requires.long c.loop-j-test.true
    p.p.value p.p.at p.ensures.accepts c.if-types-p.true

pub loop-j-preserved : goal.loop-j-preserved
loop-j-preserved c = let a = c.args in
    let l = c.loop-j in
    let p = c.in_ok-p in
    part-next a.bytes.now a.at a.rows a.types.now a.sorts.now a.w a.arity l.parts l.next l.j l.invariant c.requires.few c.requires.long c.loop-j-test.true
    p.p.value p.p.at p.ensures.accepts c.if-types-p.false c.requires.in_fields p.ensures.within
