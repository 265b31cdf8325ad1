-- `read_constant` meets its contract: the value read fits, and stays what it is. Assumes nothing.
use Rattle.std.proofs.Common.{refl, drop, rules, w64}
use mir.Val.{SFits}
use mir.Facts.{to_z-of_z}
use Rattle.std.proofs.lemmas.Result.{err_from_is_err_and}
use Rattle.guard.specs.Guard.{Row.constant}
use Rattle.guard.specs.Number.{◌>>=◌, ◌>>◌, ask, return, unfold_signed, unsigned_of, value_width}
use Rattle.guard.specs.Types.{is_number}
use Rattle.tables.specs.Layout.{types_of}
use Rattle.values.proofs.ValueLaws.{value-next, value-stops}
use Rattle.rowkinds.proofs.RowLaws.{type-left, value-left}
use Rattle.rowkinds.proofs.read_constant.Goals as goal

pub returns-in_err-t : goal.returns-in_err-t
returns-in_err-t c = let a = c.args in
    let p = err_from_is_err_and c.from_residual.result c.from_residual.ensures.1 in
    let left = type-left a.table a.bytes.now a.at (λ t. ask 7 (is_number (types_of a.table) t) >> (unsigned_of value_width >>= λ n. return (constant t (unfold_signed n)))) in
    rw (p.1, p.2, left, c.in_err-t.ensures) refl

pub returns-in_err-n : goal.returns-in_err-n
returns-in_err-n c = let a = c.args in
    let t = c.in_ok-t in
    let n = c.variants_of-variants in
    let p = err_from_is_err_and c.from_residual-in_err-n.result c.from_residual-in_err-n.ensures.1 in
    let left = value-left a.table a.bytes.now a.at t.t.value t.t.at t.ensures.accepts n.result n.ensures c.if-variants-ne0.false in
    let stops = value-stops (λ z. return (constant t.t.value z)) (drop t.t.at a.bytes.now) _ c.in_err-n.ensures in
    rw (p.1, p.2, left, stops) refl

pub returns : goal.returns
returns c = let a = c.args in
    let t = c.in_ok-t in
    let n = c.variants_of-variants in
    let v = c.in_ok-n in
    let left = value-left a.table a.bytes.now a.at t.t.value t.t.at t.ensures.accepts n.result n.ensures c.if-variants-ne0.false in
    let next = value-next (λ z. return (constant t.t.value z)) (drop t.t.at a.bytes.now) v.n.value (drop v.n.at a.bytes.now) v.ensures.accepts in
    let fits : SFits w64 v.n.value = search rules in
    record { accepts = rw (left, next, to_z-of_z fits) refl; within = v.ensures.within }
