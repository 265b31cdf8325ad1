-- `number_planned` meets its contract. Assumes nothing.
use Rattle.freerows.proofs.FreeLaws.{fresh-fits, fresh-number}
use mathlib.Core.Path.{◌≡◌, subst}
use lib.IntN.{ℤ, pos}
use mir.Syntax.{w64}
use mir.Val.{to_z}
use Rattle.drawnrows.specs.Drawing.{NumberDrawn}
use Rattle.freerows.proofs.number_planned.Goals as goal

pub overflow_cast-z : goal.overflow_cast-z
overflow_cast-z c = let a = c.args in
    let z = c.next_fresh-z in
    fresh-fits a.leaf.now.constants.sorts a.leaf.now.constants.values a.last z.result c.requires.last_bound z.ensures

pub returns : goal.returns
returns c = let a = c.args in
    let z = c.next_fresh-z in
    let d = c.number_row-d in
    let same : to_z w64 z.result ≡ pos z.result = fresh-number a.leaf.now.constants.sorts a.leaf.now.constants.values a.last z.result c.requires.last_bound z.ensures in
    record {
      last_value = z.ensures;
      number_drawn = subst (λ (y : ℤ). NumberDrawn a.rows.now a.many a.t y d.new.rows d.result.many d.result.row) same d.ensures;
    }
