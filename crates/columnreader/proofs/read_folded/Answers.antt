-- `read_folded`: a value that is refused is refused as it is written. Assumes nothing.
use Rattle.std.proofs.Common.{◌∙◌, sym, drop}
use Rattle.std.proofs.lemmas.Result.{err_from_is_err_and}
use Rattle.guard.specs.Number.{fold_signed, return, unsigned_of, value_width}
use Rattle.values.proofs.ValueLaws.{value-stops}
use Rattle.columnreader.proofs.CellLaws.{folded_again}
use Rattle.columnreader.proofs.read_folded.Goals as goal

pub returns-in_err-x : goal.returns-in_err-x
returns-in_err-x c =
    let p = err_from_is_err_and c.from_residual.result c.from_residual.ensures.1 in
    let bs = drop c.args.at c.args.bytes.now in
    rw (p.1, p.2) (sym (folded_again (unsigned_of value_width bs)) ∙ value-stops (λ z. return (fold_signed z)) bs _ c.in_err-x.ensures)
