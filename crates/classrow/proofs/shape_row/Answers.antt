-- `shape_row` meets its contract. Assumes nothing.
use mathlib.Core.Path.{◌∙◌, ap, sym, subst}
use mathlib.Core.List.{List, map}
use Prim.Native.Nat.{ℕ, ◌-◌, ◌/◌, ◌%◌}
use native.Mathlib.Omega.{arith}
use lib.IntN.{pos}
use Rattle.drawnrows.specs.Drawing.{LowRows}
use Rattle.rowstore.specs.Store.{made_row, row_found, with_row}
use Rattle.classrow.proofs.FixedLaws.{parts_low, shape_drawn, three_parts}
use Rattle.classrow.proofs.shape_row.Goals as goal

pub overflow_cast-kind : goal.overflow_cast-kind
overflow_cast-kind c = record { fits = omega (arith, c.kind.ensures, c.saturating_sub-kind.ensures, c.args.leaf.now.kinds c.args.k c.requires.k_bound) }

pub made_row-requires : goal.made_row-requires
made_row-requires c = let a = c.args in
    record {
      many_bound = c.requires.many_bound;
      many_in_bounds = c.requires.many_in_bounds;
      low_rows = subst LowRows (sym (three_parts a.leaf.now.shapes.slots a.leaf.now.state.classes a.at.now a.k c.part_row-a.ensures c.part_row-b.ensures c.part_row-c.ensures)) (parts_low a.leaf.now.shapes.slots a.leaf.now.state.classes a.at.now a.k c.requires.at_low);
    }

pub returns : goal.returns
returns c = let a = c.args in
    let d = c.made_row in
    let k = c.saturating_sub-kind in
    let kind = k.result in
    let parts = three_parts a.leaf.now.shapes.slots a.leaf.now.state.classes a.at.now a.k c.part_row-a.ensures c.part_row-b.ensures c.part_row-c.ensures in
    shape_drawn a.leaf.now a.at.now a.k c.requires.k_bound a.rows.now a.many d.result.row _ _ c.requires.many_in_bounds kind (k.ensures ∙ ap (λ (n : ℕ). n - 1) c.kind.ensures)
    (d.ensures.row_value ∙ ap (λ (ps : List ℕ). row_found a.rows.now 0 a.many (made_row (kind / 16) (kind % 16) (map pos ps))) parts)
    (d.ensures.rows_after ∙ ap (λ (ps : List ℕ). with_row a.rows.now a.many d.result.row (made_row (kind / 16) (kind % 16) (map pos ps))) parts) d.ensures.many_value
