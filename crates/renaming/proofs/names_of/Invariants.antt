-- `names_of` meets its contract. Invariant: the second's rows before `i` are gone over. Assumes nothing.
use Rattle.renaming.proofs.HeldWalk.{Walking}
use Rattle.renaming.proofs.names_of.Given as goal

abbrev pub invariant-loop-i : goal.invariant-loop-i
invariant-loop-i l = Walking l.first l.second l.x l.next l.i l.names l.skipped l.agree
