-- `default_row` and `parts` meet their contracts. Assumes nothing.
use Prim.Native.Nat.{◌+◌, ◌-◌}
use native.Mathlib.Omega.{arith}
use lib.ListN.{get_or, set}
use Rattle.guard.specs.Types.{default_of, fields_of}
use Rattle.forms.specs.Forms.{types_in}
use Rattle.drawnrows.specs.Drawing.{Drew}
use Rattle.forms.proofs.FormLaws.{fields-three, sort-inside, type-small}
use Rattle.defaultrows.proofs.PartLaws.{part_smaller, parted_default, parted_given, parted_room, sparing-next}
use Rattle.defaultrows.proofs.DefaultRowLaws.{default-known}
use Rattle.defaultrows.proofs.DefaultForms.{default-given, default-inside, is-number, made-default, made-room, made-sparing, not_number, number-default, number-sparing, parted_low, parts_smaller, room-here}
use Rattle.defaultrows.proofs.+default_row_parts.Goals as goal

pub default_row-bounds-drawn-t : goal.default_row-bounds-drawn-t
default_row-bounds-drawn-t t c = type-small c.args.forms c.requires.forms_fit c.args.t c.requires.t_in_bounds

pub default_row-returns-then-known-gt0-clause-drew : goal.default_row-returns-then-known-gt0-clause-drew
default_row-returns-then-known-gt0-clause-drew t c = default-known (types_in c.args.forms) c.args.rows.now c.args.many c.args.drawn.now c.args.t c.requires.store c.if-known-gt0.true

pub default_row-bounds-table-t : goal.default_row-bounds-table-t
default_row-bounds-table-t t c = type-small c.args.forms c.requires.forms_fit c.args.t c.requires.t_in_bounds

pub default_row-number_row-d-requires-clause-many_bound : goal.default_row-number_row-d-requires-clause-many_bound
default_row-number_row-d-requires-clause-many_bound t c = (room-here c.args.forms c.requires.forms_fit c.args.t c.requires.t_in_bounds c.args.rows.now c.args.many c.args.drawn.now c.requires.store c.requires.room (omega (arith, c.if-known-gt0.false))).0

pub default_row-number_row-d-requires-clause-many_in_bounds : goal.default_row-number_row-d-requires-clause-many_in_bounds
default_row-number_row-d-requires-clause-many_in_bounds t c = (room-here c.args.forms c.requires.forms_fit c.args.t c.requires.t_in_bounds c.args.rows.now c.args.many c.args.drawn.now c.requires.store c.requires.room (omega (arith, c.if-known-gt0.false))).1

pub default_row-overflow_add-drawn : goal.default_row-overflow_add-drawn
default_row-overflow_add-drawn t c = let d : Drew (types_in c.args.forms) c.args.rows.now c.args.many c.args.drawn.now 0 (default_of (types_in c.args.forms) c.args.t) c.number_row-d.new.rows c.number_row-d.result.many (set c.args.drawn.now c.args.t (c.number_row-d.result.row + 1)) c.number_row-d.result.row = number-default c.args.forms c.requires.forms_fit c.args.t c.requires.t_in_bounds c.args.rows.now c.args.many c.args.drawn.now c.requires.store c.requires.room (omega (arith, c.if-known-gt0.false)) c.number_row-d.result.row c.number_row-d.new.rows c.number_row-d.result.many (is-number c.args.forms c.requires.forms_fit c.args.t c.requires.t_in_bounds c.args.rows.now c.args.many c.args.drawn.now c.requires.store c.requires.room c.if-table-t-eq0.true) c.number_row-d.ensures in
    omega (arith, d.there, d.cost, c.requires.room.few)

pub default_row-overflow_cast-drawn : goal.default_row-overflow_cast-drawn
default_row-overflow_cast-drawn t c = let d : Drew (types_in c.args.forms) c.args.rows.now c.args.many c.args.drawn.now 0 (default_of (types_in c.args.forms) c.args.t) c.number_row-d.new.rows c.number_row-d.result.many (set c.args.drawn.now c.args.t (c.number_row-d.result.row + 1)) c.number_row-d.result.row = number-default c.args.forms c.requires.forms_fit c.args.t c.requires.t_in_bounds c.args.rows.now c.args.many c.args.drawn.now c.requires.store c.requires.room (omega (arith, c.if-known-gt0.false)) c.number_row-d.result.row c.number_row-d.new.rows c.number_row-d.result.many (is-number c.args.forms c.requires.forms_fit c.args.t c.requires.t_in_bounds c.args.rows.now c.args.many c.args.drawn.now c.requires.store c.requires.room c.if-table-t-eq0.true) c.number_row-d.ensures in
    omega (arith, d.there, d.cost, c.requires.room.few)

pub default_row-bounds-drawn-t-then-table-t-eq0 : goal.default_row-bounds-drawn-t-then-table-t-eq0
default_row-bounds-drawn-t-then-table-t-eq0 t c = type-small c.args.forms c.requires.forms_fit c.args.t c.requires.t_in_bounds

pub default_row-returns-then-table-t-eq0-clause-drew : goal.default_row-returns-then-table-t-eq0-clause-drew
default_row-returns-then-table-t-eq0-clause-drew t c = number-default c.args.forms c.requires.forms_fit c.args.t c.requires.t_in_bounds c.args.rows.now c.args.many c.args.drawn.now c.requires.store c.requires.room (omega (arith, c.if-known-gt0.false)) c.number_row-d.result.row c.number_row-d.new.rows c.number_row-d.result.many (is-number c.args.forms c.requires.forms_fit c.args.t c.requires.t_in_bounds c.args.rows.now c.args.many c.args.drawn.now c.requires.store c.requires.room c.if-table-t-eq0.true) c.number_row-d.ensures

pub default_row-returns-then-table-t-eq0-clause-sparing : goal.default_row-returns-then-table-t-eq0-clause-sparing
default_row-returns-then-table-t-eq0-clause-sparing t c = number-sparing c.args.forms c.requires.forms_fit c.args.t c.requires.t_in_bounds c.args.rows.now c.args.many c.args.drawn.now c.requires.store c.requires.room (omega (arith, c.if-known-gt0.false)) c.number_row-d.result.row

pub default_row-parts-p-requires : goal.default_row-parts-p-requires
default_row-parts-p-requires t c = (
  omega (arith, parts_smaller c.args.forms c.requires.forms_fit c.args.t c.requires.t_in_bounds c.args.rows.now c.args.many c.args.drawn.now c.requires.store c.requires.room (omega (arith, c.if-known-gt0.false)) (not_number c.args.forms c.requires.forms_fit c.args.t c.requires.t_in_bounds c.args.rows.now c.args.many c.args.drawn.now c.requires.store c.requires.room c.if-table-t-eq0.false), c.decreases),
  (c.requires.forms_fit, (c.requires.store, (c.requires.room, (c.requires.t_in_bounds, (default-inside c.args.forms c.requires.forms_fit c.args.t c.requires.t_in_bounds c.args.rows.now c.args.many c.args.drawn.now c.requires.store c.requires.room (omega (arith, c.if-known-gt0.false)) (not_number c.args.forms c.requires.forms_fit c.args.t c.requires.t_in_bounds c.args.rows.now c.args.many c.args.drawn.now c.requires.store c.requires.room c.if-table-t-eq0.false), default-given c.args.forms c.requires.forms_fit c.args.t c.requires.t_in_bounds c.args.rows.now c.args.many c.args.drawn.now c.requires.store c.requires.room (omega (arith, c.if-known-gt0.false)) (not_number c.args.forms c.requires.forms_fit c.args.t c.requires.t_in_bounds c.args.rows.now c.args.many c.args.drawn.now c.requires.store c.requires.room c.if-table-t-eq0.false)))))),
)

pub default_row-made_row-d-requires-clause-many_bound : goal.default_row-made_row-d-requires-clause-many_bound
default_row-made_row-d-requires-clause-many_bound t c = (made-room c.args.forms c.requires.forms_fit c.args.t c.requires.t_in_bounds c.args.rows.now c.args.many c.args.drawn.now c.requires.store c.requires.room (omega (arith, c.if-known-gt0.false)) (not_number c.args.forms c.requires.forms_fit c.args.t c.requires.t_in_bounds c.args.rows.now c.args.many c.args.drawn.now c.requires.store c.requires.room c.if-table-t-eq0.false) c.parts-p.result.rows c.parts-p.new.rows c.parts-p.result.many c.parts-p.new.drawn c.parts-p.ensures.parted c.parts-p.ensures.sparing).0

pub default_row-made_row-d-requires-clause-many_in_bounds : goal.default_row-made_row-d-requires-clause-many_in_bounds
default_row-made_row-d-requires-clause-many_in_bounds t c = (made-room c.args.forms c.requires.forms_fit c.args.t c.requires.t_in_bounds c.args.rows.now c.args.many c.args.drawn.now c.requires.store c.requires.room (omega (arith, c.if-known-gt0.false)) (not_number c.args.forms c.requires.forms_fit c.args.t c.requires.t_in_bounds c.args.rows.now c.args.many c.args.drawn.now c.requires.store c.requires.room c.if-table-t-eq0.false) c.parts-p.result.rows c.parts-p.new.rows c.parts-p.result.many c.parts-p.new.drawn c.parts-p.ensures.parted c.parts-p.ensures.sparing).1

pub default_row-made_row-d-requires-clause-low_rows : goal.default_row-made_row-d-requires-clause-low_rows
default_row-made_row-d-requires-clause-low_rows t c = parted_low _ _ _ _ _ _ _ _ _ _ _ _ c.parts-p.ensures.parted (made-room c.args.forms c.requires.forms_fit c.args.t c.requires.t_in_bounds c.args.rows.now c.args.many c.args.drawn.now c.requires.store c.requires.room (omega (arith, c.if-known-gt0.false)) (not_number c.args.forms c.requires.forms_fit c.args.t c.requires.t_in_bounds c.args.rows.now c.args.many c.args.drawn.now c.requires.store c.requires.room c.if-table-t-eq0.false) c.parts-p.result.rows c.parts-p.new.rows c.parts-p.result.many c.parts-p.new.drawn c.parts-p.ensures.parted c.parts-p.ensures.sparing).0

pub default_row-overflow_add-drawn-2 : goal.default_row-overflow_add-drawn-2
default_row-overflow_add-drawn-2 t c = let d : Drew (types_in c.args.forms) c.args.rows.now c.args.many c.args.drawn.now 0 (default_of (types_in c.args.forms) c.args.t) c.made_row-d.new.rows c.made_row-d.result.many (set c.parts-p.new.drawn c.args.t (c.made_row-d.result.row + 1)) c.made_row-d.result.row = made-default c.args.forms c.requires.forms_fit c.args.t c.requires.t_in_bounds c.args.rows.now c.args.many c.args.drawn.now c.requires.store c.requires.room (omega (arith, c.if-known-gt0.false)) (not_number c.args.forms c.requires.forms_fit c.args.t c.requires.t_in_bounds c.args.rows.now c.args.many c.args.drawn.now c.requires.store c.requires.room c.if-table-t-eq0.false) c.parts-p.result.rows c.parts-p.new.rows c.parts-p.result.many c.parts-p.new.drawn c.parts-p.ensures.parted c.parts-p.ensures.sparing c.made_row-d.result.row c.made_row-d.new.rows c.made_row-d.result.many c.made_row-d.ensures.row_value c.made_row-d.ensures.rows_after c.made_row-d.ensures.many_value in
    omega (arith, d.there, d.cost, c.requires.room.few)

pub default_row-overflow_cast-drawn-2 : goal.default_row-overflow_cast-drawn-2
default_row-overflow_cast-drawn-2 t c = let d : Drew (types_in c.args.forms) c.args.rows.now c.args.many c.args.drawn.now 0 (default_of (types_in c.args.forms) c.args.t) c.made_row-d.new.rows c.made_row-d.result.many (set c.parts-p.new.drawn c.args.t (c.made_row-d.result.row + 1)) c.made_row-d.result.row = made-default c.args.forms c.requires.forms_fit c.args.t c.requires.t_in_bounds c.args.rows.now c.args.many c.args.drawn.now c.requires.store c.requires.room (omega (arith, c.if-known-gt0.false)) (not_number c.args.forms c.requires.forms_fit c.args.t c.requires.t_in_bounds c.args.rows.now c.args.many c.args.drawn.now c.requires.store c.requires.room c.if-table-t-eq0.false) c.parts-p.result.rows c.parts-p.new.rows c.parts-p.result.many c.parts-p.new.drawn c.parts-p.ensures.parted c.parts-p.ensures.sparing c.made_row-d.result.row c.made_row-d.new.rows c.made_row-d.result.many c.made_row-d.ensures.row_value c.made_row-d.ensures.rows_after c.made_row-d.ensures.many_value in
    omega (arith, d.there, d.cost, c.requires.room.few)

pub default_row-returns-clause-drew : goal.default_row-returns-clause-drew
default_row-returns-clause-drew t c = made-default c.args.forms c.requires.forms_fit c.args.t c.requires.t_in_bounds c.args.rows.now c.args.many c.args.drawn.now c.requires.store c.requires.room (omega (arith, c.if-known-gt0.false)) (not_number c.args.forms c.requires.forms_fit c.args.t c.requires.t_in_bounds c.args.rows.now c.args.many c.args.drawn.now c.requires.store c.requires.room c.if-table-t-eq0.false) c.parts-p.result.rows c.parts-p.new.rows c.parts-p.result.many c.parts-p.new.drawn c.parts-p.ensures.parted c.parts-p.ensures.sparing c.made_row-d.result.row c.made_row-d.new.rows c.made_row-d.result.many c.made_row-d.ensures.row_value c.made_row-d.ensures.rows_after c.made_row-d.ensures.many_value

pub default_row-returns-clause-sparing : goal.default_row-returns-clause-sparing
default_row-returns-clause-sparing t c = made-sparing c.args.forms c.requires.forms_fit c.args.t c.requires.t_in_bounds c.args.rows.now c.args.many c.args.drawn.now c.requires.store c.requires.room (omega (arith, c.if-known-gt0.false)) (not_number c.args.forms c.requires.forms_fit c.args.t c.requires.t_in_bounds c.args.rows.now c.args.many c.args.drawn.now c.requires.store c.requires.room c.if-table-t-eq0.false) c.parts-p.result.rows c.parts-p.new.rows c.parts-p.result.many c.parts-p.new.drawn c.parts-p.ensures.parted c.parts-p.ensures.sparing c.made_row-d.result.row c.made_row-d.new.rows c.made_row-d.result.many c.made_row-d.ensures.row_value c.made_row-d.ensures.rows_after c.made_row-d.ensures.many_value

pub parts-bounds-list-p : goal.parts-bounds-list-p
parts-bounds-list-p t c = (omega (arith, c.loop-p-test.true, c.arity-n.ensures, fields-three c.args.forms c.requires.forms_fit c.args.t c.args.v))

pub parts-loop-p-preserved-then-p-c : goal.parts-loop-p-preserved-then-p-c
parts-loop-p-preserved-then-p-c t c = record {
  parted = parted_given (types_in c.args.forms) (fields_of (types_in c.args.forms) c.args.t c.args.v) c.args.c c.args.row c.args.rows.now c.args.many c.args.drawn.now c.loop-p.p c.loop-p.list c.loop-p.rows c.loop-p.count c.loop-p.drawn c.loop-p.invariant.parted (omega (arith, c.loop-p-test.true, c.arity-n.ensures, fields-three c.args.forms c.requires.forms_fit c.args.t c.args.v)) (omega (arith, c.loop-p-test.true, c.arity-n.ensures)) c.if-p-c.true c.requires.given;
  sparing = c.loop-p.invariant.sparing;
}

pub parts-bounds-drawn-s : goal.parts-bounds-drawn-s
parts-bounds-drawn-s t c = type-small c.args.forms c.requires.forms_fit c.sort-s.result (omega (arith, c.sort-s.ensures, sort-inside c.args.forms c.requires.forms_fit c.args.t c.args.v c.loop-p.p (omega (arith, c.loop-p-test.true, c.arity-n.ensures))))

pub parts-bounds-list-p-then-known-gt0 : goal.parts-bounds-list-p-then-known-gt0
parts-bounds-list-p-then-known-gt0 t c = (omega (arith, c.loop-p-test.true, c.arity-n.ensures, fields-three c.args.forms c.requires.forms_fit c.args.t c.args.v))

pub parts-loop-p-preserved-then-known-gt0 : goal.parts-loop-p-preserved-then-known-gt0
parts-loop-p-preserved-then-known-gt0 t c = record {
  parted = parted_default (types_in c.args.forms) (fields_of (types_in c.args.forms) c.args.t c.args.v) c.args.c c.args.row c.args.rows.now c.args.many c.args.drawn.now c.loop-p.p c.loop-p.list c.loop-p.rows c.loop-p.count c.loop-p.drawn c.loop-p.invariant.parted (omega (arith, c.loop-p-test.true, c.arity-n.ensures, fields-three c.args.forms c.requires.forms_fit c.args.t c.args.v)) (omega (arith, c.loop-p-test.true, c.arity-n.ensures)) c.if-p-c.false c.sort-s.result c.sort-s.ensures (get_or c.loop-p.drawn c.sort-s.result 0 - 1) c.loop-p.rows c.loop-p.count c.loop-p.drawn (default-known (types_in c.args.forms) c.loop-p.rows c.loop-p.count c.loop-p.drawn c.sort-s.result c.loop-p.invariant.parted.store c.if-known-gt0.true);
  sparing = c.loop-p.invariant.sparing;
}

pub parts-default_row-d-requires : goal.parts-default_row-d-requires
parts-default_row-d-requires t c = (
  omega (arith, part_smaller (types_in c.args.forms) (fields_of (types_in c.args.forms) c.args.t c.args.v) c.loop-p.p (omega (arith, c.loop-p-test.true, c.arity-n.ensures)) c.sort-s.result c.sort-s.ensures, c.decreases),
  (c.requires.forms_fit, (c.loop-p.invariant.parted.store, (parted_room (types_in c.args.forms) (fields_of (types_in c.args.forms) c.args.t c.args.v) c.args.c c.args.row c.args.rows.now c.args.many c.args.drawn.now c.loop-p.p c.loop-p.list c.loop-p.rows c.loop-p.count c.loop-p.drawn c.loop-p.invariant.parted 0 c.requires.room, (omega (arith, c.sort-s.ensures, sort-inside c.args.forms c.requires.forms_fit c.args.t c.args.v c.loop-p.p (omega (arith, c.loop-p-test.true, c.arity-n.ensures))))))),
)

pub parts-bounds-list-p-in-loop-p : goal.parts-bounds-list-p-in-loop-p
parts-bounds-list-p-in-loop-p t c = (omega (arith, c.loop-p-test.true, c.arity-n.ensures, fields-three c.args.forms c.requires.forms_fit c.args.t c.args.v))

pub parts-loop-p-preserved : goal.parts-loop-p-preserved
parts-loop-p-preserved t c = record {
  parted = parted_default (types_in c.args.forms) (fields_of (types_in c.args.forms) c.args.t c.args.v) c.args.c c.args.row c.args.rows.now c.args.many c.args.drawn.now c.loop-p.p c.loop-p.list c.loop-p.rows c.loop-p.count c.loop-p.drawn c.loop-p.invariant.parted (omega (arith, c.loop-p-test.true, c.arity-n.ensures, fields-three c.args.forms c.requires.forms_fit c.args.t c.args.v)) (omega (arith, c.loop-p-test.true, c.arity-n.ensures)) c.if-p-c.false c.sort-s.result c.sort-s.ensures c.default_row-d.result.row c.default_row-d.new.rows c.default_row-d.result.many c.default_row-d.new.drawn c.default_row-d.ensures.drew;
  sparing = sparing-next (types_in c.args.forms) (fields_of (types_in c.args.forms) c.args.t c.args.v) c.loop-p.p (omega (arith, c.loop-p-test.true, c.arity-n.ensures)) c.sort-s.result c.sort-s.ensures c.args.drawn.now c.loop-p.drawn c.default_row-d.new.drawn c.loop-p.invariant.sparing c.default_row-d.ensures.sparing;
}
