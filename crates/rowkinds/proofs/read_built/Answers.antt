-- `read_built` meets its contract. Assumes nothing.
use Rattle.std.proofs.Common.{refl, not, take}
use Rattle.std.proofs.lemmas.Result.{err_from_is_err_and}
use Rattle.guard.specs.Number.{◌>>◌, ask}
use Rattle.guard.specs.Types.{is_number}
use Rattle.rowparts.specs.ByTypes.{built_of}
use Rattle.tables.specs.Layout.{types_of}
use Rattle.rowkinds.proofs.RowLaws.{built-left, built_unlike, type-left}
use Rattle.rowkinds.proofs.read_built.Goals as goal

pub returns-in_err-t : goal.returns-in_err-t
returns-in_err-t c = let a = c.args in
    let p = err_from_is_err_and c.from_residual.result c.from_residual.ensures.1 in
    let left = type-left a.table a.bytes.now a.at (λ t. ask 7 (not (is_number (types_of a.table) t)) >> built_of (types_of a.table) (take a.rows a.types.now) t) in
    rw (p.1, p.2, left, c.in_err-t.ensures) refl

pub returns-then-variants-eq0 : goal.returns-then-variants-eq0
returns-then-variants-eq0 c = let a = c.args in
    let t = c.in_ok-t in
    let n = c.variants_of-variants in
    built_unlike a.table a.bytes.now a.at t.t.value t.t.at t.ensures.accepts n.result n.ensures (take a.rows a.types.now) c.if-variants-eq0.true

pub returns : goal.returns
returns c = let a = c.args in
    let t = c.in_ok-t in
    let n = c.variants_of-variants in
    rw (built-left a.table a.bytes.now a.at t.t.value t.t.at t.ensures.accepts n.result n.ensures (take a.rows a.types.now) c.if-variants-eq0.false) c.built_of.ensures
