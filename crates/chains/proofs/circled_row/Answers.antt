-- `circled_row` meets its contract. Assumes nothing.
use Rattle.chains.proofs.ChainLaws.{circle_room, circled_drew, circled_noted, circled_room, circled_type, distance_grows, distance_read, root-back, root_cyclic, root-inside, root-read, start-less}
use lib.ListN.{get_or}
use Rattle.forms.proofs.FormLaws.{type-small}
use Rattle.chains.proofs.circled_row.Goals as goal

pub bounds-growth-s : goal.bounds-growth-s
bounds-growth-s c = let a = c.args in
    let fit = c.requires.forms_fit in
    let less = start-less a.forms fit a.t a.v a.s c.requires.starts in
    type-small a.forms fit a.s less

pub bounds-growth-s-2 : goal.bounds-growth-s-2
bounds-growth-s-2 c = let a = c.args in
    let fit = c.requires.forms_fit in
    let less = start-less a.forms fit a.t a.v a.s c.requires.starts in
    type-small a.forms fit a.s less

pub lapped_row-e-requires : goal.lapped_row-e-requires
lapped_row-e-requires c = let a = c.args in
    let fit = c.requires.forms_fit in
    let less = start-less a.forms fit a.t a.v a.s c.requires.starts in
    record {
      forms_fit = fit;
      store = c.requires.store;
      room = circle_room a.forms fit a.t a.v a.s c.requires.starts c.requires.forms_len_bound (get_or a.forms.growth.root a.s 0) (root-read a.forms fit a.s less) (get_or a.forms.growth.distance a.s 0) (distance_read a.forms fit a.s less) a.most a.rows.now a.many a.drawn.now a.tops.now c.requires.room c.requires.tops_typed;
      tops_typed = c.requires.tops_typed;
      root_in_bounds = root-inside a.forms fit a.t a.v a.s c.requires.starts c.requires.forms_len_bound (get_or a.forms.growth.root a.s 0) (root-read a.forms fit a.s less) (get_or a.forms.growth.distance a.s 0) (distance_read a.forms fit a.s less);
      cyclic = root_cyclic a.forms fit a.t a.v a.s c.requires.starts c.requires.forms_len_bound (get_or a.forms.growth.root a.s 0) (root-read a.forms fit a.s less) (get_or a.forms.growth.distance a.s 0) (distance_read a.forms fit a.s less);
      root_value = root-back a.forms fit a.t a.v a.s c.requires.starts c.requires.forms_len_bound (get_or a.forms.growth.root a.s 0) (root-read a.forms fit a.s less) (get_or a.forms.growth.distance a.s 0) (distance_read a.forms fit a.s less);
    }

pub grown_row-requires : goal.grown_row-requires
grown_row-requires c = let a = c.args in
    let fit = c.requires.forms_fit in
    let less = start-less a.forms fit a.t a.v a.s c.requires.starts in
    let e = c.lapped_row-e in
    record {
      forms_fit = fit;
      store = e.ensures.drew.store;
      room = circled_room a.forms fit a.t a.v a.s c.requires.starts c.requires.forms_len_bound (get_or a.forms.growth.root a.s 0) (root-read a.forms fit a.s less) (get_or a.forms.growth.distance a.s 0) (distance_read a.forms fit a.s less) a.most a.rows.now a.many a.drawn.now a.tops.now c.requires.room c.requires.tops_typed e.new.rows e.result.many e.new.drawn e.result.row e.ensures.drew;
      starts = c.requires.starts;
      grows_by = distance_grows a.forms fit a.t a.v a.s c.requires.starts c.requires.forms_len_bound (get_or a.forms.growth.root a.s 0) (root-read a.forms fit a.s less) (get_or a.forms.growth.distance a.s 0) (distance_read a.forms fit a.s less);
      row_lt_many = e.ensures.drew.there;
      row_value = circled_type a.forms fit a.t a.v a.s c.requires.starts c.requires.forms_len_bound (get_or a.forms.growth.root a.s 0) (root-read a.forms fit a.s less) (get_or a.forms.growth.distance a.s 0) (distance_read a.forms fit a.s less) a.most a.rows.now a.many a.drawn.now a.tops.now c.requires.room c.requires.tops_typed e.new.rows e.result.many e.new.drawn e.result.row e.ensures.drew;
    }

pub returns : goal.returns
returns c = let a = c.args in
    let fit = c.requires.forms_fit in
    let less = start-less a.forms fit a.t a.v a.s c.requires.starts in
    let e = c.lapped_row-e in
    let g = c.grown_row in
    record {
      drew = circled_drew a.forms fit a.t a.v a.s c.requires.starts c.requires.forms_len_bound (get_or a.forms.growth.root a.s 0) (root-read a.forms fit a.s less) (get_or a.forms.growth.distance a.s 0) (distance_read a.forms fit a.s less) a.most a.rows.now a.many a.drawn.now a.tops.now c.requires.room c.requires.tops_typed e.new.rows e.result.many e.new.drawn e.result.row e.ensures.drew g.new.rows g.result.many g.new.drawn g.result.row g.ensures.drew g.ensures.under;
      lap_noted = circled_noted a.forms fit a.t a.v a.s c.requires.starts c.requires.forms_len_bound (get_or a.forms.growth.root a.s 0) (root-read a.forms fit a.s less) (get_or a.forms.growth.distance a.s 0) (distance_read a.forms fit a.s less) a.most a.rows.now a.many a.drawn.now a.tops.now c.requires.room c.requires.tops_typed e.new.rows e.result.many e.new.drawn e.result.row e.ensures.drew g.new.rows g.result.many g.new.drawn g.result.row g.ensures.drew g.ensures.under e.new.tops e.ensures.tops_after;
    }
