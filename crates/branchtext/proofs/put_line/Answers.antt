-- `put_line`: words, a number and the end of the line. Assumes nothing.
use native.Mathlib.Omega.{arith}
use Rattle.writing.proofs.Wrote.{and_then, more_room}
use Rattle.branchtext.specs.BranchText.{line}
use Rattle.branchtext.proofs.put_line.Goals as goal

pub returns : goal.returns
unfolding line
returns c = more_room 32 (omega arith) (and_then c.put_named.ensures c.put_bytes.ensures)
