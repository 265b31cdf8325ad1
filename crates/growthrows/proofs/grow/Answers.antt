-- `grow` meets its contract. Invariant: the last steps are drawn, all but those that are left. Assumes nothing.
use mathlib.Core.Path.{◌≡◌, refl, ap, sym}
use Prim.Native.Nat.{ℕ, ◌-◌}
use native.Mathlib.Omega.{arith}
use Rattle.growth.proofs.Growth.{next_type}
use Rattle.growth.proofs.Orbit.{iterate}
use Rattle.forms.specs.Forms.{types_in}
use Rattle.forms.proofs.FormLaws.{type-small}
use Rattle.growthrows.proofs.StepLaws.{grew_is, grew_nothing, step_chosen, step_drew, step_fields, step_room, step_type, step_variant}
use Rattle.growthrows.proofs.grow.Goals as goal

pub loop-left-init : goal.loop-left-init
loop-left-init c = let a = c.args in
    let ts = types_in a.forms in
    let none : a.steps - a.steps ≡ 0 = omega arith in
    (omega arith, grew_is ts a.rows.now a.many a.drawn.now a.row 0 (a.steps - a.steps) (iterate (next_type ts) a.steps a.t) (iterate (next_type ts) a.steps a.t) a.rows.now a.many a.drawn.now a.row (sym none) refl (grew_nothing ts a.rows.now a.many a.drawn.now a.row (iterate (next_type ts) a.steps a.t) c.requires.store c.requires.row_lt_many))

pub after-u-requires : goal.after-u-requires
after-u-requires c = record {
  forms_fit = c.requires.forms_fit;
  t_in_bounds = c.requires.t_in_bounds;
}

pub bounds-growth-u : goal.bounds-growth-u
bounds-growth-u c = let a = c.args in
    let l = c.loop-left in
    let x = c.after-u in
    type-small a.forms c.requires.forms_fit x.result (step_type a.forms c.requires.forms_fit a.t c.requires.t_in_bounds a.steps c.requires.grows_by a.rows.now a.many a.drawn.now c.requires.room a.row c.requires.row_value l.left (omega (arith, c.loop-left-test.true)) l.invariant.0 l.rows l.count l.drawn l.at l.invariant.1 x.result x.ensures)

pub wrap-d-requires : goal.wrap-d-requires
wrap-d-requires c = let a = c.args in
    let l = c.loop-left in
    let x = c.after-u in
    record {
      forms_fit = c.requires.forms_fit;
      store = l.invariant.1.0.store;
      room = step_room a.forms c.requires.forms_fit a.t c.requires.t_in_bounds a.steps c.requires.grows_by a.rows.now a.many a.drawn.now c.requires.room a.row c.requires.row_value l.left (omega (arith, c.loop-left-test.true)) l.invariant.0 l.rows l.count l.drawn l.at l.invariant.1 x.result x.ensures;
      t_in_bounds = step_type a.forms c.requires.forms_fit a.t c.requires.t_in_bounds a.steps c.requires.grows_by a.rows.now a.many a.drawn.now c.requires.room a.row c.requires.row_value l.left (omega (arith, c.loop-left-test.true)) l.invariant.0 l.rows l.count l.drawn l.at l.invariant.1 x.result x.ensures;
      v_in_bounds = step_variant a.forms c.requires.forms_fit a.t c.requires.t_in_bounds a.steps c.requires.grows_by a.rows.now a.many a.drawn.now c.requires.room a.row c.requires.row_value l.left (omega (arith, c.loop-left-test.true)) l.invariant.0 l.rows l.count l.drawn l.at l.invariant.1 x.result x.ensures;
      nonzero = step_fields a.forms c.requires.forms_fit a.t c.requires.t_in_bounds a.steps c.requires.grows_by a.rows.now a.many a.drawn.now c.requires.room a.row c.requires.row_value l.left (omega (arith, c.loop-left-test.true)) l.invariant.0 l.rows l.count l.drawn l.at l.invariant.1 x.result x.ensures;
      row_lt_many = l.invariant.1.0.there;
      row_value = step_chosen a.forms c.requires.forms_fit a.t c.requires.t_in_bounds a.steps c.requires.grows_by a.rows.now a.many a.drawn.now c.requires.room a.row c.requires.row_value l.left (omega (arith, c.loop-left-test.true)) l.invariant.0 l.rows l.count l.drawn l.at l.invariant.1 x.result x.ensures;
    }

pub loop-left-preserved : goal.loop-left-preserved
loop-left-preserved c = let a = c.args in
    let l = c.loop-left in
    let x = c.after-u in
    let d = c.wrap-d in
    (omega (arith, l.invariant.0), step_drew a.forms c.requires.forms_fit a.t c.requires.t_in_bounds a.steps c.requires.grows_by a.rows.now a.many a.drawn.now c.requires.room a.row c.requires.row_value l.left (omega (arith, c.loop-left-test.true)) l.invariant.0 l.rows l.count l.drawn l.at l.invariant.1 x.result x.ensures d.new.rows d.result.many d.new.drawn d.result.row d.ensures.drew d.ensures.under)

pub shape_of-rows : goal.shape_of-rows
shape_of-rows c = c.loop-left.invariant.1.0.grown.long

pub returns : goal.returns
returns c = let a = c.args in
    let ts = types_in a.forms in
    let l = c.loop-left in
    let none : l.left ≡ 0 = omega (arith, c.loop-left-test.false) in
    let all : a.steps - l.left ≡ a.steps = omega arith in
    let g = grew_is ts a.rows.now a.many a.drawn.now a.row (a.steps - l.left) a.steps (iterate (next_type ts) l.left a.t) a.t l.rows l.count l.drawn l.at all (ap (λ (k : ℕ). iterate (next_type ts) k a.t) none) l.invariant.1 in
    record { drew = g.0; under = g.1 }
