-- `part_count` meets its contract. Assumes nothing.
use Rattle.rowterms.proofs.RowLaws.{arity-is, built-place, built-sort, entry}
use Rattle.rowterms.proofs.part_count.Goals as goal

pub returns : goal.returns
returns c = record { is = λ ts rs t h. arity-is t (entry t h c.args.r c.requires.inside) c.requires.built }

pub bounds-types-t : goal.bounds-types-t
bounds-types-t c = built-sort c.requires

pub bounds-types-place : goal.bounds-types-place
bounds-types-place c = built-place c.requires
