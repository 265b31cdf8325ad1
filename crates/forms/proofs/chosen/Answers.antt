-- `chosen` meets its contract. Assumes nothing.
use Rattle.forms.proofs.FormLaws.{chosen-read, place-below, type-small}
use Rattle.forms.proofs.chosen.Goals as goal

pub bounds-table-t : goal.bounds-table-t
bounds-table-t c = type-small c.args.forms c.requires.forms_fit c.args.t c.requires.t_in_bounds

pub bounds-growth-w : goal.bounds-growth-w
bounds-growth-w c = place-below c.args.forms c.requires.forms_fit c.args.t c.args.v c.requires.t_in_bounds c.requires.v_in_bounds

pub returns : goal.returns
returns c = chosen-read c.args.forms c.requires.forms_fit c.args.t c.args.v c.requires.t_in_bounds c.requires.v_in_bounds
