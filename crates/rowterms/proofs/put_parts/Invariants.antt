-- `put_parts`: the parts before i are put. Assumes nothing.
use Rattle.std.specs.Prelude.{Some}
use Rattle.bytebuffer.specs.Appends.{Appends}
use Rattle.rowterms.specs.Rows.{part_bytes, up_to}
use Rattle.rowterms.proofs.put_parts.Given as goal

abbrev pub invariant-loop-i : goal.invariant-loop-i
invariant-loop-i l = Appends (up_to (part_bytes l.names l.rows l.r) l.i) l.initial.out (Some tt) l.out
