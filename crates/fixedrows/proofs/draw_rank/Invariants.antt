-- `draw_rank` meets its contract. Assumes nothing.
use Rattle.fixedrows.specs.Stage.{Advances}
use Rattle.fixedrows.proofs.draw_rank.Given as goal

abbrev pub invariant-loop-c : goal.invariant-loop-c
invariant-loop-c l = Advances l.leaf l.initial.at l.initial.rows l.many l.n 0 l.at l.rows l.count l.n l.c
