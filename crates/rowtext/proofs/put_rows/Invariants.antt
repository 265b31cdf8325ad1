-- `put_rows`: the loop has put the lines of the first i rows. Assumes nothing.
use Prim.Native.Nat.{◌*◌}
use Rattle.laws.specs.Lists.{concat_map, from}
use Rattle.writing.specs.Wrote.{Wrote}
use Rattle.rowtext.specs.Arity.{arity_in}
use Rattle.rowtext.specs.Rows.{row_line}
use Rattle.rowtext.proofs.put_rows.Given as goal

abbrev pub invariant-loop-i : goal.invariant-loop-i
invariant-loop-i l = Wrote (96 * l.i) (concat_map (row_line (arity_in l.types) l.rows) (from l.i 0)) l.initial.out l.out
