-- `put_pairs` meets its contract: the lines of the pairs whose lower branch is before the i-th are put, and those left are the rest.
-- Assumes nothing.
use Rattle.branchtext.proofs.PairLaws.{Put}
use Rattle.branchtext.proofs.put_pairs.Given as goal

abbrev pub invariant-loop-i : goal.invariant-loop-i
invariant-loop-i l = Put l.word l.code l.many l.codes l.initial.out l.out l.place l.i
