-- `wrap` meets its contract. Assumes nothing.
use Rattle.defaultrows.proofs.DefaultForms.{parted_low}
use Rattle.growthrows.proofs.StepLaws.{wrap_drew, wrap_few, wrap_given, wrap_long, wrap_room, wrap_under}
use Rattle.growthrows.proofs.wrap.Goals as goal

pub parts-p-requires : goal.parts-p-requires
parts-p-requires c = let a = c.args in
    let x = c.chosen-c in
    record {
      forms_fit = c.requires.forms_fit;
      store = c.requires.store;
      room = wrap_room a.forms c.requires.forms_fit a.t a.v c.requires.t_in_bounds c.requires.v_in_bounds c.requires.nonzero a.rows.now a.many a.drawn.now c.requires.store c.requires.room a.row c.requires.row_lt_many c.requires.row_value x.result x.ensures;
      t_in_bounds = c.requires.t_in_bounds;
      v_in_bounds = c.requires.v_in_bounds;
      given = wrap_given a.forms c.requires.forms_fit a.t a.v c.requires.t_in_bounds c.requires.v_in_bounds c.requires.nonzero a.rows.now a.many a.drawn.now c.requires.store c.requires.room a.row c.requires.row_lt_many c.requires.row_value x.result x.ensures;
    }

pub made_row-requires : goal.made_row-requires
made_row-requires c = let a = c.args in
    let x = c.chosen-c in
    let y = c.parts-p in
    let few = wrap_few a.forms c.requires.forms_fit a.t a.v c.requires.t_in_bounds c.requires.v_in_bounds c.requires.nonzero a.rows.now a.many a.drawn.now c.requires.store c.requires.room a.row c.requires.row_lt_many c.requires.row_value x.result x.ensures y.result.rows y.new.rows y.result.many y.new.drawn y.ensures.parted in
    record {
      many_bound = few;
      many_in_bounds = wrap_long a.forms c.requires.forms_fit a.t a.v c.requires.t_in_bounds c.requires.v_in_bounds c.requires.nonzero a.rows.now a.many a.drawn.now c.requires.store c.requires.room a.row c.requires.row_lt_many c.requires.row_value x.result x.ensures y.result.rows y.new.rows y.result.many y.new.drawn y.ensures.parted;
      low_rows = parted_low _ _ _ _ _ _ _ _ _ _ _ _ y.ensures.parted few;
    }

pub returns : goal.returns
returns c = let a = c.args in
    let x = c.chosen-c in
    let y = c.parts-p in
    let z = c.made_row in
    record {
      drew = wrap_drew a.forms c.requires.forms_fit a.t a.v c.requires.t_in_bounds c.requires.v_in_bounds c.requires.nonzero a.rows.now a.many a.drawn.now c.requires.store c.requires.room a.row c.requires.row_lt_many c.requires.row_value x.result x.ensures y.result.rows y.new.rows y.result.many y.new.drawn y.ensures.parted z.result.row z.new.rows z.result.many z.ensures.row_value z.ensures.rows_after z.ensures.many_value;
      under = wrap_under a.forms c.requires.forms_fit a.t a.v c.requires.t_in_bounds c.requires.v_in_bounds c.requires.nonzero a.rows.now a.many a.drawn.now c.requires.store c.requires.room a.row c.requires.row_lt_many c.requires.row_value x.result x.ensures y.result.rows y.new.rows y.result.many y.new.drawn y.ensures.parted z.result.row z.new.rows z.result.many z.ensures.row_value z.ensures.rows_after z.ensures.many_value;
    }
