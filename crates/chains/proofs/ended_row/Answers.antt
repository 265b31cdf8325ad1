-- `ended_row` meets its contract. Assumes nothing.
use Rattle.chains.proofs.ChainLaws.{end_grows, end_room, end_store, end_there, end_type, ended-drew, room-place, start-less, steps-read}
use Prim.Native.Nat.{◌*◌, ◌-◌}
use native.Mathlib.Omega.{arith}
use lib.ListN.{get_or, length}
use Rattle.forms.specs.Forms.{types_in}
use Rattle.forms.proofs.FormLaws.{type-small}
use mathlib.Core.Path.{subst}
use lib.IntN.{ℤ}
use mir.Facts.{to_z-of_z}
use Rattle.drawnrows.specs.Drawing.{NumberDrawn}
use Rattle.chains.proofs.ended_row.Goals as goal

pub bounds-growth-s : goal.bounds-growth-s
bounds-growth-s c = let a = c.args in
    let fit = c.requires.forms_fit in
    let less = start-less a.forms fit a.t a.v a.s c.requires.starts in
    type-small a.forms fit a.s less

pub after-u-requires : goal.after-u-requires
after-u-requires c = let a = c.args in
    let fit = c.requires.forms_fit in
    let less = start-less a.forms fit a.t a.v a.s c.requires.starts in
    record {
      forms_fit = fit;
      t_in_bounds = less;
    }

pub number_row-e-requires : goal.number_row-e-requires
number_row-e-requires c = let a = c.args in
    let p = room-place a.rows.now a.many a.drawn.now (3 * length (types_in a.forms) - 1) (omega (arith, c.requires.s_in_bounds)) c.requires.room in
    record { many_bound = p.0; many_in_bounds = p.1 }

pub grown_row-requires : goal.grown_row-requires
grown_row-requires c = let a = c.args in
    let fit = c.requires.forms_fit in
    let less = start-less a.forms fit a.t a.v a.s c.requires.starts in
    let e = c.number_row-e in
    let u = c.after-u in
    let number-drawn = subst (λ (y : ℤ). NumberDrawn a.rows.now a.many u.result y e.new.rows e.result.many e.result.row) (to_z-of_z c.ranges.z) e.ensures in
    record {
      forms_fit = fit;
      store = end_store a.forms fit a.t a.v a.s c.requires.starts c.requires.s_in_bounds (get_or a.forms.growth.steps a.s 0) (steps-read a.forms fit a.s less) u.result u.ensures a.rows.now a.many a.drawn.now c.requires.store c.requires.room a.z e.new.rows e.result.many e.result.row number-drawn;
      room = end_room a.forms fit a.t a.v a.s c.requires.starts c.requires.s_in_bounds (get_or a.forms.growth.steps a.s 0) (steps-read a.forms fit a.s less) u.result u.ensures a.rows.now a.many a.drawn.now c.requires.store c.requires.room a.z e.new.rows e.result.many e.result.row number-drawn;
      starts = c.requires.starts;
      grows_by = end_grows a.forms fit a.t a.v a.s c.requires.starts c.requires.s_in_bounds (get_or a.forms.growth.steps a.s 0) (steps-read a.forms fit a.s less);
      row_lt_many = end_there a.forms fit a.t a.v a.s c.requires.starts c.requires.s_in_bounds (get_or a.forms.growth.steps a.s 0) (steps-read a.forms fit a.s less) u.result u.ensures a.rows.now a.many a.drawn.now c.requires.store c.requires.room a.z e.new.rows e.result.many e.result.row number-drawn;
      row_value = end_type a.forms fit a.t a.v a.s c.requires.starts c.requires.s_in_bounds (get_or a.forms.growth.steps a.s 0) (steps-read a.forms fit a.s less) u.result u.ensures a.rows.now a.many a.drawn.now c.requires.store c.requires.room a.z e.new.rows e.result.many e.result.row number-drawn;
    }

pub returns : goal.returns
returns c = let a = c.args in
    let fit = c.requires.forms_fit in
    let less = start-less a.forms fit a.t a.v a.s c.requires.starts in
    let e = c.number_row-e in
    let u = c.after-u in
    let number-drawn = subst (λ (y : ℤ). NumberDrawn a.rows.now a.many u.result y e.new.rows e.result.many e.result.row) (to_z-of_z c.ranges.z) e.ensures in
    let g = c.grown_row in
    ended-drew a.forms fit a.t a.v a.s c.requires.starts c.requires.s_in_bounds (get_or a.forms.growth.steps a.s 0) (steps-read a.forms fit a.s less) u.result u.ensures a.rows.now a.many a.drawn.now c.requires.store c.requires.room a.z e.new.rows e.result.many e.result.row number-drawn g.new.rows g.result.many g.new.drawn g.result.row g.ensures.drew g.ensures.under
