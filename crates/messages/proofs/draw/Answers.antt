-- `draw` meets its contract. Assumes nothing.
use native.Mathlib.Omega.{arith}
use Rattle.messages.proofs.CallLaws.{call_draws, few-terms, forms_fit, free-fits, labels-small, leaf_drawable, many-terms, many-types, rows-low, rows-room, types-range, types_same}
use Rattle.freerows.proofs.StageLaws.{blank_zeros}
use Rattle.messages.specs.Messages.{DrawsFor}
use Rattle.messages.proofs.draw.Goals as goal

pub growth_of-requires : goal.growth_of-requires
growth_of-requires c = let t = c.requires.open_tables in types-range c.args.tables.now t.guard t.accepted t.is

pub draw_rows-many-requires : goal.draw_rows-many-requires
draw_rows-many-requires c = let tables = c.args.tables.now in
    let t = c.requires.open_tables in
    let held = c.held.ensures.held in
    let l = c.leaf_of-leaf in
    let is = l.ensures t.guard t.accepted t.is in
    let st = c.args.state.now in
    let small = labels-small st c.held.ensures.small in
    let gr = c.growth_of in
    let same = types_same tables t.guard t.accepted t.is gr.result gr.ensures in
    record {
      forms_fit = forms_fit tables t.guard t.accepted t.is gr.result gr.ensures;
      free_fits = free-fits t.guard t.accepted st t.leaf held small l.result is _ same;
      drawable = leaf_drawable t.guard t.accepted st t.leaf held small l.result is _ same;
      blank = blank_zeros;
      enough = rows-room t.guard t.accepted st t.leaf held small l.result is _ same tables.types.many tables.rows.many c.args.rows.now (many-types tables t.guard t.accepted t.is) (many-terms tables t.guard t.accepted t.is) c.requires.room_for.0;
    }

pub set_places-requires : goal.set_places-requires
set_places-requires c = let tables = c.args.tables.now in
    let t = c.requires.open_tables in
    let held = c.held.ensures.held in
    let l = c.leaf_of-leaf in
    let is = l.ensures t.guard t.accepted t.is in
    let st = c.args.state.now in
    let small = labels-small st c.held.ensures.small in
    let gr = c.growth_of in
    let same = types_same tables t.guard t.accepted t.is gr.result gr.ensures in
    let d = c.draw_rows-many in
    record {
      at_low = rows-low t.guard t.accepted st t.leaf held small l.result is _ same c.args.rows.now d.new.at d.new.rows d.result d.ensures;
      many_bound = omega (arith, few-terms tables t.guard t.accepted t.is);
      many_in_bounds = c.requires.room_for.1;
    }

pub returns : goal.returns
unfolding DrawsFor
returns c = λ g ok is open'.
    let tables = c.args.tables.now in
    let held = c.held.ensures.held in
    let l = c.leaf_of-leaf in
    let leafIs = l.ensures g ok is in
    let st = c.args.state.now in
    let small = labels-small st c.held.ensures.small in
    let gr = c.growth_of in
    let same = types_same tables g ok is gr.result gr.ensures in
    let d = c.draw_rows-many in
    let p = c.set_places in
    call_draws g ok st open' held small l.result leafIs _ same c.args.rows.now d.new.at d.new.rows d.result d.ensures tables.rows.many c.args.places.now p.new.places (many-terms tables g ok is) p.ensures
