-- `top_row` meets its contract. Assumes nothing.
use Rattle.chains.proofs.ChainLaws.{top_default, top_known, top_low}
use Rattle.forms.proofs.FormLaws.{type-small}
use native.Mathlib.Omega.{arith}
use Rattle.chains.proofs.top_row.Goals as goal

pub bounds-tops-root : goal.bounds-tops-root
bounds-tops-root c = let a = c.args in
    type-small a.forms c.requires.forms_fit a.root c.requires.root_in_bounds

pub overflow_cast-known-2 : goal.overflow_cast-known-2
overflow_cast-known-2 c = let a = c.args in
    record { fits = omega (arith, top_low a.forms c.requires.forms_fit a.rows.now a.many a.tops.now c.requires.tops_typed a.root, c.requires.room.few) }

pub returns-then-known-gt0 : goal.returns-then-known-gt0
returns-then-known-gt0 c = let a = c.args in
    top_known a.forms c.requires.forms_fit a.rows.now a.many a.tops.now c.requires.tops_typed a.root c.requires.root_in_bounds a.drawn.now c.requires.store c.if-known-gt0.true

pub returns : goal.returns
returns c = let a = c.args in
    top_default a.forms c.requires.forms_fit a.rows.now a.many a.tops.now c.requires.tops_typed a.root c.requires.root_in_bounds a.drawn.now c.requires.store c.if-known-gt0.false c.default_row.ensures.drew
