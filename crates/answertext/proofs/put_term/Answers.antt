-- `put_term`: a word and the number of the term, a word and its row, the end of the line. Assumes nothing.
use native.Mathlib.Omega.{arith}
use Rattle.answertext.specs.Text.{term_line}
use Rattle.writing.proofs.Wrote.{and_then, more_room}
use Rattle.answertext.proofs.put_term.Goals as goal

pub returns : goal.returns
unfolding term_line
returns c = more_room 96 (omega arith) (and_then (and_then (and_then c.put_named.ensures c.put_bytes.ensures) c.put_number_at.ensures) c.put_bytes-2.ensures)
