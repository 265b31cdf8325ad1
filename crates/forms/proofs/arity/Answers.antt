-- `arity` meets its contract. Assumes nothing.
use Rattle.forms.proofs.FormLaws.{arity-read, place-below, type-small}
use Rattle.forms.proofs.arity.Goals as goal

pub bounds-table-t : goal.bounds-table-t
bounds-table-t c = type-small c.args.forms c.requires.forms_fit c.args.t c.requires.t_in_bounds

pub bounds-table-w : goal.bounds-table-w
bounds-table-w c = place-below c.args.forms c.requires.forms_fit c.args.t c.args.v c.requires.t_in_bounds c.requires.v_in_bounds

pub returns : goal.returns
returns c = arity-read c.args.forms c.requires.forms_fit c.args.t c.args.v c.requires.t_in_bounds c.requires.v_in_bounds
