-- `number_row` meets its contract. Assumes nothing.
use mathlib.Core.Path.{ap, ◌∙◌}
use native.Mathlib.Omega.{arith}
use mir.Syntax.{w32}
use mir.Val.{SFits}
use mir.Facts.{to_z-of_z}
use Rattle.guard.specs.Words.{high_of, low_of}
use Rattle.rowstore.specs.Store.{number_row}
use Rattle.drawnrows.proofs.RowLaws.{handed, number-drew, number-numbers, number_tag}
use Rattle.drawnrows.proofs.number_row.Goals as goal

pub overflow_sub-tag : goal.overflow_sub-tag
overflow_sub-tag c = rw (number_tag c.args.t c.ranges.t.fits) (record { sfits = omega (arith, c.ranges.t.fits) })

pub returns : goal.returns
returns c = let a = c.args in
    let w = c.words_of-w in
    let both = c.struct_told-1.given in
    let low : SFits w32 w.result.low = record { sfits = both.0.1 } in
    let high : SFits w32 w.result.high = record { sfits = both.1.0.1 } in
    let found = c.row_of-r in
    let d = c.drawn_at in
    let value = to_z-of_z c.ranges.z in
    let numbers = number-numbers a.t a.z w.result.low w.result.high c.ranges.t.fits low high (w.ensures.low_value ∙ ap low_of value) (w.ensures.high_value ∙ ap high_of value) in
    let (is, with_it, many) = handed a.rows.now 0 a.many _ (number_row a.t a.z) found.result found.new.rows d.result.row d.result.many numbers found.ensures.value found.ensures.rows_after d.ensures.row_value d.ensures.many_value in
    number-drew a.rows.now a.many a.t a.z d.result.row found.new.rows d.result.many c.requires.many_in_bounds is with_it many
