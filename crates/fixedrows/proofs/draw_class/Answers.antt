-- `draw_class` meets its contract. Assumes nothing.
use mathlib.Core.Path.{◌≡◌, ap}
use Prim.Native.Nat.{ℕ, ◌+◌, suc}
use native.Mathlib.Omega.{arith}
use lib.ListN.{set}
use Rattle.fixedrows.proofs.StageLaws.{due-few, due-long, due-low, row_small}
use Rattle.fixedrows.proofs.draw_class.Goals as goal

pub fixed_row-d-requires : goal.fixed_row-d-requires
fixed_row-d-requires c = let a = c.args in
    let d = c.requires.due_now in
    record {
      at_low = due-low a.leaf.now a.at.now a.rows.now a.many d.rank a.c c.requires.c_bound d.staged d.due;
      many_bound = due-few a.leaf.now a.at.now a.rows.now a.many d.rank a.c c.requires.c_bound d.staged d.due;
      many_in_bounds = due-long a.leaf.now a.at.now a.rows.now a.many d.rank a.c c.requires.c_bound d.staged d.due;
    }

-- the row is below 4,096, so one more fits
pub overflow_add-at : goal.overflow_add-at
overflow_add-at c = let a = c.args in
    let d = c.requires.due_now in
    let f = c.fixed_row-d in
    record { fits = omega (arith, row_small a.leaf.now a.at.now a.rows.now a.many d.rank a.c c.requires.c_bound d.due f.new.rows f.result.many f.result.row f.ensures d.staged, due-few a.leaf.now a.at.now a.rows.now a.many d.rank a.c c.requires.c_bound d.staged d.due) }

pub overflow_cast-at : goal.overflow_cast-at
overflow_cast-at c = let a = c.args in
    let d = c.requires.due_now in
    let f = c.fixed_row-d in
    record { fits = omega (arith, row_small a.leaf.now a.at.now a.rows.now a.many d.rank a.c c.requires.c_bound d.due f.new.rows f.result.many f.result.row f.ensures d.staged, due-few a.leaf.now a.at.now a.rows.now a.many d.rank a.c c.requires.c_bound d.staged d.due) }

pub returns : goal.returns
returns c = let d = c.fixed_row-d in
    let one : d.result.row + 1 ≡ suc d.result.row = omega arith in
    record { row = d.result.row; is = ap (λ (n : ℕ). set c.args.at.now c.args.c n) one; drew = d.ensures }
