-- `put_row`: number j is in the cells. Assumes nothing.
use native.Mathlib.Omega.{arith}
use Rattle.restoredrows.proofs.RowLaws.{in_cells}
use Rattle.restoredrows.proofs.put_row.Goals as goal

pub overflow_mul-j : goal.overflow_mul-j
overflow_mul-j c = record { fits = omega (arith, in_cells c.requires.types_in_range c.args.cells.now c.requires.i_bound c.width_of-width.ensures c.loop-j-test.true) }

pub overflow_add-j : goal.overflow_add-j
overflow_add-j c = record { fits = omega (arith, in_cells c.requires.types_in_range c.args.cells.now c.requires.i_bound c.width_of-width.ensures c.loop-j-test.true) }

pub offset_bounds-cells-j : goal.offset_bounds-cells-j
offset_bounds-cells-j c = record { fits = omega (arith, in_cells c.requires.types_in_range c.args.cells.now c.requires.i_bound c.width_of-width.ensures c.loop-j-test.true) }

pub bounds-cells-j : goal.bounds-cells-j
bounds-cells-j c = in_cells c.requires.types_in_range c.args.cells.now c.requires.i_bound c.width_of-width.ensures c.loop-j-test.true
