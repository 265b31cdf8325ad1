-- `read_second`: a built row's type has to be there, and to have variants. Assumes nothing.
use Rattle.std.proofs.Common.{◌∙◌, sym}
use Rattle.std.proofs.lemmas.Result.{err_from_is_err_and}
use Rattle.tables.specs.Layout.{types_of}
use Rattle.tables.proofs.Held.{held-many}
use Rattle.columnreader.proofs.CellLaws.{type-number, type_stops}
use Rattle.columnreader.proofs.read_second.Goals as goal

pub returns-in_err-t : goal.returns-in_err-t
returns-in_err-t c =
    let p = err_from_is_err_and c.from_residual.result c.from_residual.ensures.1 in
    rw (p.1, p.2) (type_stops (types_of c.args.table) c.args.kind _ c.if-kind-ne2.false (held-many c.args.table) _ _ c.in_err-t.ensures)

pub returns-then-variant_count-eq0 : goal.returns-then-variant_count-eq0
returns-then-variant_count-eq0 c =
    type-number (types_of c.args.table) c.args.kind _ c.if-kind-ne2.false (held-many c.args.table) _ _ _ c.in_ok-t.ensures.accepts
    (sym c.variant_count.ensures ∙ c.if-variant_count-eq0.true)
