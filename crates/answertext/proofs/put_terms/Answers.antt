-- `put_terms`: the loop has put the lines of the first i terms. Assumes nothing.
use mathlib.Core.Path.{ap}
use Rattle.answertext.specs.Text.{term_line}
use Rattle.writing.proofs.Writing.{from_zero}
use Rattle.writing.proofs.Wrote.{next_turn, same_text}
use Rattle.answertext.proofs.put_terms.Goals as goal

pub loop-i-preserved : goal.loop-i-preserved
loop-i-preserved c = next_turn (term_line c.args.places.now) 0 c.loop-i.i 96 c.loop-i.invariant (same_text (ap (term_line c.args.places.now) (from_zero c.loop-i.i)) c.put_term.ensures)
