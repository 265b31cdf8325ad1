-- `is_row` meets its contract. Assumes nothing.
use mathlib.Core.Path.{◌≡◌, ◌∙◌}
use mathlib.Core.Bool.{true}
use Prim.Native.Nat.{◌+◌}
use lib.IntN.{pos}
use lib.ListN.{get_or}
use Rattle.guard.specs.Closure.{eq_z}
use Rattle.rowstore.proofs.Numbers.{agrees, compared, differs, first_differs, fourth_decides, second_differs, third_differs}
use Rattle.rowstore.proofs.is_row.Goals as goal
use Rattle.rowstore.proofs.is_row.Goals.{Else-rows-at, Else-rows-second, Else-rows-third}

first : (c : Else-rows-at) → let a = c.args in eq_z (get_or a.rows.now a.at (pos 0)) a.tag ≡ true
first c =
    agrees c.args.rows.now c.args.at c.args.tag (record { sfits = c.t12-1.given }) c.ranges.tag c.if-rows-at.false

second : (c : Else-rows-second) → let a = c.args in eq_z (get_or a.rows.now (a.at + 1) (pos 0)) a.a ≡ true
second c =
    agrees c.args.rows.now (c.args.at + 1) c.args.a (record { sfits = c.t12-2-1.given }) c.ranges.a c.if-rows-second.false

third : (c : Else-rows-third) → let a = c.args in eq_z (get_or a.rows.now (a.at + 2) (pos 0)) a.b ≡ true
third c =
    agrees c.args.rows.now (c.args.at + 2) c.args.b (record { sfits = c.t12-3-1.given }) c.ranges.b c.if-rows-third.false

pub returns-then-rows-at : goal.returns-then-rows-at
returns-then-rows-at c = let a = c.args in
    first_differs a.rows.now a.at c.requires a.tag a.a a.b a.c (differs a.rows.now a.at a.tag (record { sfits = c.t12-1.given }) c.ranges.tag c.if-rows-at.true)

pub returns-then-rows-second : goal.returns-then-rows-second
returns-then-rows-second c = let a = c.args in
    second_differs a.rows.now a.at c.requires a.tag a.a a.b a.c (first c.before.before) (differs a.rows.now (a.at + 1) a.a (record { sfits = c.t12-2-1.given }) c.ranges.a c.if-rows-second.true)

pub returns-then-rows-third : goal.returns-then-rows-third
returns-then-rows-third c = let a = c.args in
    third_differs a.rows.now a.at c.requires a.tag a.a a.b a.c (first c.before.before.before.before) (second c.before.before) (differs a.rows.now (a.at + 2) a.b (record { sfits = c.t12-3-1.given }) c.ranges.b c.if-rows-third.true)

pub returns : goal.returns
returns c = let a = c.args in
    compared a.rows.now (a.at + 3) a.c (record { sfits = c.result-1.given }) c.ranges.c
    ∙ fourth_decides a.rows.now a.at c.requires a.tag a.a a.b a.c (first c.before.before.before.before.before) (second c.before.before.before) (third c.before)
