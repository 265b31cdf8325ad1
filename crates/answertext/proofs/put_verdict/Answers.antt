-- `put_verdict`: a word, a number and the end of the line. Assumes nothing.
use native.Mathlib.Omega.{arith}
use Rattle.writing.proofs.Wrote.{and_then, more_room}
use Rattle.answertext.specs.Text.{verdict_line}
use Rattle.answertext.proofs.put_verdict.Goals as goal

pub returns : goal.returns
unfolding verdict_line
returns c = more_room _ (omega arith) (and_then c.put_named.ensures c.put_bytes.ensures)
