-- `put_pairs` meets its contract. Invariant: the numbers of the pairs whose lower branch is before the i-th are put, and those left are the
-- rest of all. Assumes nothing.
use Rattle.branchverdicts.proofs.PairLaws.{PutPairs}
use Rattle.branchverdicts.proofs.put_pairs.Given as goal

abbrev pub invariant-loop-i : goal.invariant-loop-i
invariant-loop-i l = PutPairs l.t l.budget l.initial.out l.at l.out l.next l.i
