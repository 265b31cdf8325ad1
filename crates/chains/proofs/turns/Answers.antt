-- `turns` meets its contract. Assumes nothing.
use Rattle.chains.proofs.ChainLaws.{period-some, turns_lap, turns_small}
use Rattle.forms.proofs.FormLaws.{type-small}
use Rattle.tables.proofs.Held.{held-many}
use native.Mathlib.Omega.{arith}
use Prim.Native.Nat.{◌+◌, ◌-◌}
use Rattle.chains.proofs.turns.Goals as goal

pub bounds-growth-root : goal.bounds-growth-root
bounds-growth-root c = let a = c.args in
    type-small a.forms c.requires.forms_fit a.root c.requires.root_in_bounds

pub overflow_sub-result : goal.overflow_sub-result
overflow_sub-result c = let a = c.args in
    omega (arith, held-many a.forms.table, c.requires.root_in_bounds)

pub nonzero_div-result : goal.nonzero_div-result
nonzero_div-result c = let a = c.args in
    period-some a.forms c.requires.forms_fit a.root c.requires.root_in_bounds

pub overflow_add-result-2 : goal.overflow_add-result-2
overflow_add-result-2 c = let a = c.args in
    record { fits = omega (arith, turns_small a.forms c.requires.forms_fit a.root c.requires.root_in_bounds (a.most + (a.forms.table.many - 1)), c.ranges.most.fits, c.requires.forms_fit.range.many) }

pub returns : goal.returns
returns c = let a = c.args in
    turns_lap a.forms c.requires.forms_fit a.root c.requires.root_in_bounds a.most
