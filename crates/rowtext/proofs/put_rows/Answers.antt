-- `put_rows`: the loop has put the lines of the first i rows. Assumes nothing.
use mathlib.Core.Path.{ap}
use Rattle.rowtext.specs.Arity.{arity_in}
use Rattle.rowtext.specs.Rows.{row_line}
use Rattle.writing.proofs.Writing.{from_zero}
use Rattle.writing.proofs.Wrote.{next_turn, same_text}
use Rattle.rowtext.proofs.put_rows.Goals as goal

pub loop-i-preserved : goal.loop-i-preserved
loop-i-preserved c = next_turn (row_line (arity_in c.args.types.now) c.args.rows.now) 0 c.loop-i.i 96 c.loop-i.invariant (same_text (ap (row_line (arity_in c.args.types.now) c.args.rows.now) (from_zero c.loop-i.i)) c.put_row.ensures)
