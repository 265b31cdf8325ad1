-- `field_count`: where there is such a variant, the table says it. Assumes nothing.
use mathlib.Core.Path.{sym}
use Prim.Native.Nat.{◌+◌, ◌<◌}
use native.Mathlib.Omega.{arith}
use lib.ListN.{length, get_or}
use Rattle.guard.specs.Types.{variants_of}
use Rattle.tables.specs.Layout.{types_of}
use Rattle.columnreader.proofs.TypeLaws.{arity-is, no_variant_lem, place_inside, some-type}
use Rattle.columnreader.proofs.field_count.Goals as goal
use Rattle.columnreader.proofs.field_count.Goals.{Else-variant_count-v}

-- the variant is there
inside : (c : Else-variant_count-v) → c.args.v < length (variants_of (types_of c.args.table) c.args.t)
inside c = omega (arith, c.if-variant_count-v.false, c.variant_count.ensures)

place : (c : Else-variant_count-v) → get_or c.args.table.first c.args.t 0 + c.args.v < 48
place c = place_inside c.args.table c.args.t c.args.v (inside c) c.requires

pub returns-then-variant_count-v : goal.returns-then-variant_count-v
returns-then-variant_count-v c = sym (no_variant_lem c.args.table c.args.t c.args.v (omega (arith, c.if-variant_count-v.true, c.variant_count.ensures)))

pub bounds-table-t : goal.bounds-table-t
bounds-table-t c = omega (arith, some-type c.args.table c.args.t c.args.v (inside c), c.requires.many)

pub returns : goal.returns
returns c = arity-is c.args.table c.args.t c.args.v (inside c.before.before)

pub overflow_add-place : goal.overflow_add-place
overflow_add-place c = omega (arith, place c.before)

pub bounds-table-place : goal.bounds-table-place
bounds-table-place c = place c.before
