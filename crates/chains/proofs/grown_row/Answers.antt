-- `grown_row` meets its contract. Assumes nothing.
use Rattle.chains.proofs.ChainLaws.{over_drew, over_room, over_type, over_under, room-less, start-less}
use Prim.Native.Nat.{◌+◌}
use native.Mathlib.Omega.{arith}
use Rattle.chains.proofs.grown_row.Goals as goal

pub grow-g-requires : goal.grow-g-requires
grow-g-requires c = let a = c.args in
    record {
      forms_fit = c.requires.forms_fit;
      store = c.requires.store;
      room = room-less a.rows.now a.many a.drawn.now (a.steps + 1) a.steps (omega arith) c.requires.room;
      t_in_bounds = start-less a.forms c.requires.forms_fit a.t a.v a.s c.requires.starts;
      grows_by = c.requires.grows_by;
      row_lt_many = c.requires.row_lt_many;
      row_value = c.requires.row_value;
    }

pub wrap-requires : goal.wrap-requires
wrap-requires c = let a = c.args in
    let g = c.grow-g in
    record {
      forms_fit = c.requires.forms_fit;
      store = g.ensures.drew.store;
      room = over_room a.forms c.requires.forms_fit a.t a.v a.s c.requires.starts a.steps a.row a.rows.now a.many a.drawn.now c.requires.room c.requires.row_value g.new.rows g.result.many g.new.drawn g.result.row (g.ensures.drew, g.ensures.under);
      t_in_bounds = c.requires.starts.known;
      v_in_bounds = c.requires.starts.fits;
      nonzero = c.requires.starts.wide;
      row_lt_many = g.ensures.drew.there;
      row_value = over_type a.forms c.requires.forms_fit a.t a.v a.s c.requires.starts a.steps a.row a.rows.now a.many a.drawn.now c.requires.room c.requires.row_value g.new.rows g.result.many g.new.drawn g.result.row (g.ensures.drew, g.ensures.under);
    }

pub returns : goal.returns
returns c = let a = c.args in
    let g = c.grow-g in
    let w = c.wrap in
    record {
      drew = over_drew a.forms c.requires.forms_fit a.t a.v a.s c.requires.starts a.steps a.row a.rows.now a.many a.drawn.now c.requires.room c.requires.row_value g.new.rows g.result.many g.new.drawn g.result.row (g.ensures.drew, g.ensures.under) w.new.rows w.result.many w.new.drawn w.result.row w.ensures.drew w.ensures.under;
      under = over_under a.forms c.requires.forms_fit a.t a.v a.s c.requires.starts a.steps a.row a.rows.now a.many a.drawn.now c.requires.room c.requires.row_value g.new.rows g.result.many g.new.drawn g.result.row (g.ensures.drew, g.ensures.under) w.new.rows w.result.many w.new.drawn w.result.row w.ensures.drew w.ensures.under;
    }
