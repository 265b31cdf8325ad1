-- `built_of` meets its contract. Assumes nothing.
use Rattle.std.proofs.Common.{refl, take}
use Rattle.std.proofs.lemmas.Result.{err_from_is_err_and}
use Rattle.rowparts.proofs.VariantLaws.{parts-left}
use Rattle.rowparts.proofs.built_of.Goals as goal

pub returns-in_err-p : goal.returns-in_err-p
returns-in_err-p c = let a = c.args in
    let v = c.in_ok-v in
    let left = parts-left a.table a.bytes.now a.at a.t c.variants_of.result c.requires.2 c.variants_of.ensures v.v.value v.v.at v.ensures.accepts c.variant_number-w.result c.variant_number-w.ensures.number (take a.rows a.types.now) in
    let p = err_from_is_err_and c.from_residual-in_err-p.result c.from_residual-in_err-p.ensures.1 in
    rw (p.1, p.2, left, c.in_err-p.ensures) refl

pub returns : goal.returns
returns c = let a = c.args in
    let v = c.in_ok-v in
    let left = parts-left a.table a.bytes.now a.at a.t c.variants_of.result c.requires.2 c.variants_of.ensures v.v.value v.v.at v.ensures.accepts c.variant_number-w.result c.variant_number-w.ensures.number (take a.rows a.types.now) in
    record { accepts = rw (left, c.in_ok-p.ensures.accepts) refl; within = c.in_ok-p.ensures.within }
