-- `put_terms`: the loop has put the lines of the first i terms. Assumes nothing.
use Prim.Native.Nat.{◌*◌}
use Rattle.laws.specs.Lists.{concat_map, from}
use Rattle.writing.specs.Wrote.{Wrote}
use Rattle.answertext.specs.Text.{term_line}
use Rattle.answertext.proofs.put_terms.Given as goal

abbrev pub invariant-loop-i : goal.invariant-loop-i
invariant-loop-i l = Wrote (96 * l.i) (concat_map (term_line l.places) (from l.i 0)) l.initial.out l.out
