-- `put_list` meets its contract: the lines of the codes before the k-th are put, and those left are the rest. Assumes nothing.
use Rattle.branchtext.proofs.ListLaws.{Put}
use Rattle.branchtext.proofs.put_list.Given as goal

abbrev pub invariant-loop-k : goal.invariant-loop-k
invariant-loop-k l = Put l.name l.code l.n l.first l.place l.codes l.initial.out l.out l.k
