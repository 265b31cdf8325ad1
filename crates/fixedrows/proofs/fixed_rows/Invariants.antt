-- `fixed_rows` meets its contract. Assumes nothing.
use Rattle.fixedrows.specs.Stage.{Advances}
use Rattle.fixedrows.proofs.fixed_rows.Given as goal

abbrev pub invariant-loop-n : goal.invariant-loop-n
invariant-loop-n l = Advances l.leaf l.initial.at l.initial.rows l.many 0 0 l.at l.rows l.count l.n 0
