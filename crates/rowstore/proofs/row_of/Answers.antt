-- `row_of` meets its contract. Assumes nothing.
use mathlib.Core.Path.{◌≡◌, ap, ◌∙◌}
use mathlib.Core.List.{[], ◌∷◌}
use native.Mathlib.Omega.{arith}
use mir.Syntax.{w32}
use mir.Val.{of_z, to_z}
use Rattle.rowstore.specs.Store.{appended, row_found}
use Rattle.rowstore.proofs.Numbers.{found_all, handed_on, with_found, with_new}
use Rattle.rowstore.proofs.row_of.Goals as goal
use Rattle.rowstore.proofs.row_of.Goals.{After-find_row-r, Start}

-- the numbers are handed on to both calls
numbers : (c : Start) → let a = c.args in (to_z w32 (of_z w32 a.tag) ∷ to_z w32 (of_z w32 a.a) ∷ to_z w32 (of_z w32 a.b) ∷ to_z w32 (of_z w32 a.c) ∷ []) ≡ a.tag ∷ a.a ∷ a.b ∷ a.c ∷ []
numbers c = handed_on c.ranges.tag c.ranges.a c.ranges.b c.ranges.c

found : (c : After-find_row-r) → let a = c.args in c.find_row-r.result ≡ row_found a.rows.now a.start a.many (a.tag ∷ a.a ∷ a.b ∷ a.c ∷ [])
found c =
    let a = c.args in
    c.find_row-r.ensures ∙ ap (row_found a.rows.now a.start a.many) (numbers c.before)

pub returns-then-r-many : goal.returns-then-r-many
returns-then-r-many c = let a = c.args in
    record {
      value = found c.before;
      rows_after = with_found a.rows.now a.many _ _ c.if-r-many.true;
    }

pub returns : goal.returns
returns c = let a = c.args in record {
  value = found_all a.rows.now a.start _ a.many (omega (arith, c.if-r-many.false, found c.before.before.before.before));
  rows_after = c.append.ensures ∙ ap (appended a.rows.now a.many) (numbers c.before.before.before.before.before) ∙ with_new a.rows.now a.many a.many _ (omega arith);
}
