-- `free_row` meets its contract. Assumes nothing.
use Rattle.freerows.proofs.FreeLaws.{last-low, number-free, read_number, read-variants, type-known}
use Rattle.chains.proofs.ChainLaws.{room-place}
use Rattle.drawnrows.specs.Drawing.{growth_rows}
use Rattle.forms.specs.Forms.{types_in}
use Rattle.forms.proofs.FormLaws.{type-small}
use Rattle.leaf.specs.Leaf.{open_state}
use native.Mathlib.Omega.{arith}
use Rattle.freerows.proofs.free_row.Goals as goal

pub bounds-forms-t : goal.bounds-forms-t
bounds-forms-t c = let a = c.args in
    let t = c.type_of-t in
    type-small a.forms.now c.requires.forms_fit t.result (type-known a.forms.now c.requires.forms_fit a.leaf.now a.c c.requires.free_now.fits t.result t.ensures)

pub number_planned-requires : goal.number_planned-requires
number_planned-requires c = let a = c.args in
    let place = room-place a.rows.now a.many a.drawn.now (growth_rows (types_in a.forms.now) a.most) (omega (arith, c.requires.free_now.fits.known)) c.requires.free_now.room in
    record {
      many_bound = place.0;
      many_in_bounds = place.1;
      last_bound = last-low (open_state (types_in a.forms.now) a.leaf.now) a.c a.last c.requires.free_now.small c.requires.free_now.fresh;
    }

pub returns-then-forms-t-eq0 : goal.returns-then-forms-t-eq0
returns-then-forms-t-eq0 c = let a = c.args in
    let t = c.type_of-t in
    let d = c.number_planned in
    let n = c.requires.free_now in
    let known = type-known a.forms.now c.requires.forms_fit a.leaf.now a.c n.fits t.result t.ensures in
    number-free a.forms.now c.requires.forms_fit a.leaf.now a.c n.fits t.result t.ensures (read_number a.forms.now c.requires.forms_fit t.result known c.if-forms-t-eq0.true) a.rows.now a.many a.drawn.now a.tops.now a.most a.last n d.result.last d.ensures.last_value d.new.rows d.result.many d.result.row d.ensures.number_drawn

pub variant_planned-requires : goal.variant_planned-requires
variant_planned-requires c = let a = c.args in
    let t = c.type_of-t in
    let n = c.requires.free_now in
    let known = type-known a.forms.now c.requires.forms_fit a.leaf.now a.c n.fits t.result t.ensures in
    record {
      forms_fit = c.requires.forms_fit;
      free_now = n;
      t_value = t.ensures;
      t_value_2 = read-variants a.forms.now c.requires.forms_fit t.result known c.if-forms-t-eq0.false;
    }
