-- What falls is the size of the default, twice, and that of the defaults of the fields. Invariant of the loop: the rows of the
-- parts so far are drawn. Assumes nothing.
use Prim.Native.Nat.{suc, ◌*◌}
use Rattle.guard.specs.Types.{default_of, fields_of}
use Rattle.guard.proofs.MessageLaws.{message_size}
use Rattle.forms.specs.Forms.{types_in}
use Rattle.drawnrows.specs.Drawing.{Parted, Sparing, default_sizes}
use Rattle.defaultrows.proofs.+default_row_parts.Given as goal

abbrev pub decreases-default_row : goal.decreases-default_row
decreases-default_row l = 2 * message_size (default_of (types_in l.forms) l.t)

abbrev pub decreases-parts : goal.decreases-parts
decreases-parts l = suc (2 * default_sizes (types_in l.forms) (fields_of (types_in l.forms) l.t l.v))

abbrev pub invariant-parts-loop-p : goal.invariant-parts-loop-p
invariant-parts-loop-p l = record {
  parted : Parted (types_in l.forms) (fields_of (types_in l.forms) l.t l.v) l.c l.row l.fn.rows l.many l.fn.drawn l.p l.list l.rows l.count l.drawn;
  sparing : Sparing (types_in l.forms) l.fn.drawn (default_sizes (types_in l.forms) (fields_of (types_in l.forms) l.t l.v)) l.drawn;
}
