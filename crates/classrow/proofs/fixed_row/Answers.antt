-- `fixed_row` meets its contract. Assumes nothing.
use mathlib.Core.Path.{ap, sym, ◌∙◌}
use mathlib.Core.List.{List}
use Prim.Native.Nat.{ℕ}
use Rattle.loops.specs.Lowest.{lowest}
use Rattle.unlikeconstants.specs.Unlike.{is_constant_of}
use Rattle.classrow.proofs.FixedLaws.{by_constant, by_shape, by_single}
use Rattle.classrow.proofs.fixed_row.Goals as goal

pub returns-in-Some : goal.returns-in-Some
returns-in-Some c = let a = c.args in
    let d = c.shape_row in
    let k = c.in-Some in
    by_shape a.leaf.now a.at.now a.rows.now a.many a.c d.new.rows d.result.many d.result.row k.k k.ensures.0 k.ensures.1 d.ensures

pub returns-in-Some-first_constant : goal.returns-in-Some-first_constant
returns-in-Some-first_constant c = let a = c.args in
    let d = c.constant_row in
    let k = c.in-Some-first_constant in
    let first = ap (λ (cs : List ℕ). lowest (is_constant_of a.leaf.now.constants.sorts cs a.c) 30) c.classes.ensures in
    by_constant a.leaf.now a.at.now a.rows.now a.many a.c d.new.rows d.result.many d.result.row k.k k.ensures.0 (k.ensures.1 ∙ first) d.ensures

pub returns : goal.returns
returns c = let a = c.args in
    let y = c.single_of-y in
    let d = c.single_row in
    let first = ap (λ (cs : List ℕ). lowest (is_constant_of a.leaf.now.constants.sorts cs a.c) 30) c.classes.ensures in
    by_single a.leaf.now a.at.now a.rows.now a.many a.c d.new.rows d.result.many d.result.row y.result c.unwrap_or.result c.unwrap_or.ensures y.ensures c.in_default.ensures (sym first ∙ c.in_default-first_constant.ensures) d.ensures
