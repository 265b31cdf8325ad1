-- `find_row` meets its contract. Invariant: no row before has the numbers. Assumes nothing.
use mathlib.Core.Path.{◌≡◌, ap, sym, ◌∙◌}
use mathlib.Core.List.{[], ◌∷◌}
use native.Mathlib.Omega.{arith}
use mir.Syntax.{w32}
use mir.Val.{of_z, to_z}
use Rattle.rowstore.specs.Store.{row_found}
use Rattle.rowstore.proofs.Numbers.{handed_on, found_here, found_nowhere, none_here}
use Rattle.rowstore.proofs.find_row.Goals as goal
use Rattle.rowstore.proofs.find_row.Goals.{Start}

-- the numbers are handed on to the loop and to the call
numbers : (c : Start) → let a = c.args in (to_z w32 (of_z w32 a.tag) ∷ to_z w32 (of_z w32 a.a) ∷ to_z w32 (of_z w32 a.b) ∷ to_z w32 (of_z w32 a.c) ∷ []) ≡ a.tag ∷ a.a ∷ a.b ∷ a.c ∷ []
numbers c = handed_on c.ranges.tag c.ranges.a c.ranges.b c.ranges.c

pub loop-i-preserved : goal.loop-i-preserved
loop-i-preserved c = let l = c.loop-i in
    none_here c.args.rows.now c.args.start _ l.i l.invariant (sym c.is_row.ensures ∙ c.if-is_row.false)

pub returns-then-is_row : goal.returns-then-is_row
returns-then-is_row c = let l = c.loop-i in
    found_here c.args.rows.now c.args.start _ c.args.many l.i (omega arith) c.loop-i-test.true l.invariant (sym c.is_row.ensures ∙ c.if-is_row.true)
    ∙ ap (row_found c.args.rows.now c.args.start c.args.many) (numbers c.before.before.before.before)

pub returns : goal.returns
returns c = let l = c.loop-i in
    found_nowhere c.args.rows.now c.args.start _ c.args.many l.i c.loop-i-test.false l.invariant
    ∙ ap (row_found c.args.rows.now c.args.start c.args.many) (numbers c.before.before)
