-- `leb128::byte_count` meets its contract. The loop's invariant: the bytes before this one all have bit 80. Assumes nothing.
use lib.ListN.{drop}
use Rattle.leb128.proofs.Count.{Counting}
use Rattle.leb128.proofs.byte_count.Given as goal

abbrev pub invariant-loop-i : goal.invariant-loop-i
invariant-loop-i l = Counting l.most (drop l.at l.bytes) l.i
