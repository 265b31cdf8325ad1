-- `ended_planned` meets its contract. Assumes nothing.
use Rattle.freerows.proofs.FreeLaws.{fresh-fits, fresh-number}
use mathlib.Core.Path.{◌≡◌, subst}
use Prim.Native.Nat.{◌*◌, ◌-◌}
use lib.IntN.{ℤ, pos}
use lib.ListN.{length}
use mir.Syntax.{w64}
use mir.Val.{to_z}
use Rattle.growth.proofs.Growth.{chosen_type, steps_to_number}
use Rattle.growth.proofs.Plans.{Plan.into, planned_message}
use Rattle.forms.specs.Forms.{types_in}
use Rattle.drawnrows.specs.Drawing.{Drew}
use Rattle.freerows.proofs.ended_planned.Goals as goal

pub overflow_cast-z : goal.overflow_cast-z
overflow_cast-z c = let a = c.args in
    let z = c.next_fresh-z in
    fresh-fits a.leaf.now.constants.sorts a.leaf.now.constants.values a.last z.result c.requires.last_bound z.ensures

pub ended_row-d-requires : goal.ended_row-d-requires
ended_row-d-requires c = record {
  forms_fit = c.requires.forms_fit;
  store = c.requires.store;
  room = c.requires.room;
  starts = c.requires.starts;
  s_in_bounds = c.requires.s_in_bounds;
}

pub returns : goal.returns
returns c = let a = c.args in
    let z = c.next_fresh-z in
    let d = c.ended_row-d in
    let ts = types_in a.forms.now in
    let same : to_z w64 z.result ≡ pos z.result = fresh-number a.leaf.now.constants.sorts a.leaf.now.constants.values a.last z.result c.requires.last_bound z.ensures in
    record {
      last_value = z.ensures;
      drew = subst (λ (y : ℤ). Drew ts a.rows.now a.many a.drawn.now (3 * length ts - 1) (planned_message ts a.t (into a.v (steps_to_number ts (chosen_type ts a.t a.v)) y)) d.new.rows d.result.many d.new.drawn d.result.row) same d.ensures;
    }
