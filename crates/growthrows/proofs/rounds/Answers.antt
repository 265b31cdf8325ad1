-- `rounds` meets its contract. Invariant: the rounds so far are drawn. Assumes nothing.
use mathlib.Core.Path.{◌≡◌, refl, ap, sym}
use Prim.Native.Nat.{ℕ, ◌*◌}
use native.Mathlib.Omega.{arith}
use Rattle.growth.proofs.Growth.{period_of}
use Rattle.forms.specs.Forms.{types_in}
use Rattle.forms.proofs.FormLaws.{type-small}
use Rattle.growthrows.proofs.StepLaws.{grew_is, grew_nothing, round_drew, round_grows, round_room, round_type}
use Rattle.growthrows.proofs.rounds.Goals as goal

pub bounds-growth-t : goal.bounds-growth-t
bounds-growth-t c = let a = c.args in
    type-small a.forms c.requires.forms_fit a.t c.requires.t_in_bounds

pub loop-init : goal.loop-init
loop-init c = let a = c.args in
    let ts = types_in a.forms in
    let none : 0 * period_of ts a.t ≡ 0 = omega arith in
    grew_is ts a.rows.now a.many a.drawn.now a.row 0 (0 * period_of ts a.t) a.t a.t a.rows.now a.many a.drawn.now a.row (sym none) refl (grew_nothing ts a.rows.now a.many a.drawn.now a.row a.t c.requires.store c.requires.row_lt_many)

pub grow-d-requires : goal.grow-d-requires
grow-d-requires c = let a = c.args in
    let l = c.loop in
    record {
      forms_fit = c.requires.forms_fit;
      store = l.invariant.0.store;
      room = round_room a.forms c.requires.forms_fit a.t c.requires.t_in_bounds c.requires.cyclic c.requires.t_value a.turns a.rows.now a.many a.drawn.now c.requires.room a.row c.requires.row_value l.counter c.loop-test.true l.rows l.count l.drawn l.at l.invariant;
      t_in_bounds = c.requires.t_in_bounds;
      grows_by = round_grows a.forms c.requires.forms_fit a.t c.requires.t_in_bounds c.requires.cyclic c.requires.t_value a.turns a.rows.now a.many a.drawn.now c.requires.room a.row c.requires.row_value l.counter c.loop-test.true l.rows l.count l.drawn l.at l.invariant;
      row_lt_many = l.invariant.0.there;
      row_value = round_type a.forms c.requires.forms_fit a.t c.requires.t_in_bounds c.requires.cyclic c.requires.t_value a.turns a.rows.now a.many a.drawn.now c.requires.room a.row c.requires.row_value l.counter c.loop-test.true l.rows l.count l.drawn l.at l.invariant;
    }

pub loop-preserved : goal.loop-preserved
loop-preserved c = let a = c.args in
    let l = c.loop in
    let d = c.grow-d in
    round_drew a.forms c.requires.forms_fit a.t c.requires.t_in_bounds c.requires.cyclic c.requires.t_value a.turns a.rows.now a.many a.drawn.now c.requires.room a.row c.requires.row_value l.counter c.loop-test.true l.rows l.count l.drawn l.at l.invariant d.new.rows d.result.many d.new.drawn d.result.row d.ensures.drew d.ensures.under

pub shape_of-rows : goal.shape_of-rows
shape_of-rows c = c.loop.invariant.0.grown.long

pub returns : goal.returns
returns c = let a = c.args in
    let ts = types_in a.forms in
    let l = c.loop in
    let all : l.counter ≡ a.turns = omega (arith, c.loop-test.false) in
    let g = grew_is ts a.rows.now a.many a.drawn.now a.row (l.counter * period_of ts a.t) (a.turns * period_of ts a.t) a.t a.t l.rows l.count l.drawn l.at (ap (λ (k : ℕ). k * period_of ts a.t) all) refl l.invariant in
    record { drew = g.0; under = g.1 }
