-- `lapped_row` meets its contract. Assumes nothing.
use Rattle.chains.proofs.ChainLaws.{lap_drew, lap_room, lap_start, room-less}
use mathlib.Core.Path.{ap}
use native.Mathlib.Omega.{arith}
use native.Mathlib.Numerals.{add-one}
use lib.ListN.{set}
use Rattle.growth.proofs.ClosedPlans.{lap}
use Rattle.forms.specs.Forms.{types_in}
use Rattle.forms.proofs.FormLaws.{type-small}
use Rattle.chains.proofs.lapped_row.Goals as goal

pub top_row-d-requires : goal.top_row-d-requires
top_row-d-requires c = let a = c.args in
    record {
      forms_fit = c.requires.forms_fit;
      store = c.requires.store;
      room = room-less a.rows.now a.many a.drawn.now (lap (types_in a.forms) a.most a.root) 0 (omega arith) c.requires.room;
      tops_typed = c.requires.tops_typed;
      root_in_bounds = c.requires.root_in_bounds;
    }

pub rounds-e-requires : goal.rounds-e-requires
rounds-e-requires c = let a = c.args in
    let d = c.top_row-d in
    let n = c.turns-n in
    record {
      forms_fit = c.requires.forms_fit;
      store = d.ensures.store;
      room = lap_room a.forms c.requires.forms_fit a.rows.now a.many a.tops.now c.requires.tops_typed a.root c.requires.root_in_bounds a.drawn.now c.requires.store a.most c.requires.room n.result n.ensures d.new.rows d.result.many d.new.drawn d.result.row d.ensures;
      t_in_bounds = c.requires.root_in_bounds;
      cyclic = c.requires.cyclic;
      t_value = c.requires.root_value;
      row_lt_many = d.ensures.there;
      row_value = lap_start a.forms c.requires.forms_fit a.rows.now a.many a.tops.now c.requires.tops_typed a.root c.requires.root_in_bounds a.drawn.now c.requires.store a.most c.requires.room n.result n.ensures d.new.rows d.result.many d.new.drawn d.result.row d.ensures;
    }

pub bounds-tops-root : goal.bounds-tops-root
bounds-tops-root c = let a = c.args in
    type-small a.forms c.requires.forms_fit a.root c.requires.root_in_bounds

pub returns : goal.returns
returns c = let a = c.args in
    let d = c.top_row-d in
    let n = c.turns-n in
    let e = c.rounds-e in
    record {
      drew = lap_drew a.forms c.requires.forms_fit a.rows.now a.many a.tops.now c.requires.tops_typed a.root c.requires.root_in_bounds a.drawn.now c.requires.store a.most c.requires.room n.result n.ensures d.new.rows d.result.many d.new.drawn d.result.row d.ensures e.new.rows e.result.many e.new.drawn e.result.row e.ensures.drew e.ensures.under;
      tops_after = ap (set a.tops.now a.root) (add-one e.result.row);
    }
