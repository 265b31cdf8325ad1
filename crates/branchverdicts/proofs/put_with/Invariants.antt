-- `put_with` meets its contract. Invariant: the numbers of the branches before the j-th are put, and those left are the rest of all.
-- Assumes nothing.
use Rattle.branchverdicts.proofs.Putting.{Put}
use Rattle.branchverdicts.proofs.put_with.Given as goal

abbrev pub invariant-loop-j : goal.invariant-loop-j
invariant-loop-j l = Put l.fn.t l.first l.from l.budget l.initial.out l.at l.out l.next l.j
