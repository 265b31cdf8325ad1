-- `single_row` meets its contract. Assumes nothing.
use Rattle.labels.proofs.LabelLaws.{lowest-is}
use Rattle.splits.specs.Choice.{lowest_in}
use mathlib.Core.Path.{◌∙◌, ap}
use native.Mathlib.Omega.{arith}
use lib.Count.{trailing_le}
use Rattle.classrow.proofs.FixedLaws.{none_low, single_drawn}
use Rattle.classrow.proofs.single_row.Goals as goal

pub overflow_cast-v : goal.overflow_cast-v
overflow_cast-v c = record { fits = omega (arith, c.lowest-v.ensures, lowest-is c.label_of.result, trailing_le 16 c.label_of.result) }

pub made_row-requires : goal.made_row-requires
made_row-requires c = record {
  many_bound = c.requires.many_bound;
  many_in_bounds = c.requires.many_in_bounds;
  low_rows = none_low;
}

pub returns : goal.returns
returns c = let a = c.args in
    let d = c.made_row in
    single_drawn a.leaf.now a.y a.rows.now a.many c.saturating_sub-t.result c.lowest-v.result d.result.row _ _ c.requires.many_in_bounds c.saturating_sub-t.ensures
    (c.lowest-v.ensures ∙ ap lowest_in c.label_of.ensures) d.ensures.row_value d.ensures.rows_after d.ensures.many_value
