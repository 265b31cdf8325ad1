-- `put_lists` meets its contract: the four lists, one behind the other. Assumes nothing.
use native.Mathlib.Omega.{arith}
use Rattle.branches.specs.Verdicts.{lists_of}
use Rattle.writing.proofs.Wrote.{and_then, more_room}
use Rattle.branchtext.specs.BranchText.{lines, lines_of_pairs, lists_text}
use Rattle.branchtext.proofs.put_lists.Goals as goal

pub returns : goal.returns
unfolding lists_text lists_of lines lines_of_pairs
returns c = more_room 4608 (omega (arith, c.requires.many_bound))
    (and_then (and_then (and_then c.put_list.ensures c.put_pairs.ensures) c.put_list-2.ensures) c.put_pairs-2.ensures)
