-- `put_row`: a word and the number of the row, what it says, the end of the line. Assumes nothing.
use native.Mathlib.Omega.{arith}
use Rattle.rowtext.specs.Rows.{row_line}
use Rattle.writing.proofs.Wrote.{and_then, more_room}
use Rattle.rowtext.proofs.put_row.Goals as goal

pub returns : goal.returns
unfolding row_line
returns c = more_room 96 (omega arith) (and_then (and_then c.put_named.ensures c.put_row_text.ensures) c.put_bytes.ensures)
