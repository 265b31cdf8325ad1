-- `sort` meets its contract. Assumes nothing.
use native.Mathlib.Omega.{arith}
use Rattle.forms.proofs.FormLaws.{fields-three, place-below, sort-read, type-small}
use Rattle.forms.proofs.sort.Goals as goal

pub bounds-table-t : goal.bounds-table-t
bounds-table-t c = type-small c.args.forms c.requires.forms_fit c.args.t c.requires.t_in_bounds

pub overflow_add-result : goal.overflow_add-result
overflow_add-result c = omega (arith, place-below c.args.forms c.requires.forms_fit c.args.t c.args.v c.requires.t_in_bounds c.requires.v_in_bounds, fields-three c.args.forms c.requires.forms_fit c.args.t c.args.v, c.requires.p_in_bounds)

pub bounds-table-w : goal.bounds-table-w
bounds-table-w c = omega (arith, place-below c.args.forms c.requires.forms_fit c.args.t c.args.v c.requires.t_in_bounds c.requires.v_in_bounds, fields-three c.args.forms c.requires.forms_fit c.args.t c.args.v, c.requires.p_in_bounds)

pub returns : goal.returns
returns c = sort-read c.args.forms c.requires.forms_fit c.args.t c.args.v c.requires.t_in_bounds c.requires.v_in_bounds c.args.p c.requires.p_in_bounds
