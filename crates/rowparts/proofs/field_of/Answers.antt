-- `field_of` meets its contract. Assumes nothing.
use Rattle.std.proofs.Common.{refl, drop, get_or}
use Rattle.std.proofs.lemmas.Result.{err_from_is_err_and}
use Rattle.rowparts.proofs.BelowLaws.{below-small}
use Rattle.rowparts.proofs.VariantLaws.{field-sort, position-left}
use Rattle.rowparts.proofs.field_of.Goals as goal

pub returns-in_err-p : goal.returns-in_err-p
returns-in_err-p c = let a = c.args in
    let v = c.in_ok-v in
    let left = position-left a.table a.bytes.now a.at a.t c.variants_of.result c.requires.1 c.variants_of.ensures v.v.value v.v.at v.ensures.accepts c.variant_number-w.result c.variant_number-w.ensures.number a.term in
    let p = err_from_is_err_and c.from_residual-in_err-p.result c.from_residual-in_err-p.ensures.1 in
    rw (p.1, p.2, left, c.in_err-p.ensures) refl

pub returns : goal.returns
returns c = let a = c.args in
    let v = c.in_ok-v in
    let p = c.in_ok-p in
    let left = position-left a.table a.bytes.now a.at a.t c.variants_of.result c.requires.1 c.variants_of.ensures v.v.value v.v.at v.ensures.accepts c.variant_number-w.result c.variant_number-w.ensures.number a.term in
    let placed = below-small (get_or a.table.arities c.variant_number-w.result 0) 5 p.p.value (drop v.v.at a.bytes.now) _ p.ensures.accepts in
    let sort = field-sort a.table a.bytes.now a.at a.t c.variants_of.result c.requires.1 c.variants_of.ensures v.v.value v.v.at v.ensures.accepts c.variant_number-w.result c.variant_number-w.ensures.number p.p.value placed in
    record { accepts = rw (left, p.ensures.accepts, sort) refl; within = p.ensures.within }
