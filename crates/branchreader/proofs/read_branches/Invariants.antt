-- `read_branches` meets its contract. Invariant: the branches read stand in the tables, and those left come after them. Assumes nothing.
use Rattle.guard.specs.Limits.{base}
use Rattle.literalkinds.specs.OneLiteral.{literal_by}
use Rattle.literalreader.specs.LiteralReader.{lines_by}
use Rattle.branchreader.proofs.BranchLaws.{SoFar}
use Rattle.branchreader.proofs.read_branches.Given as goal

abbrev pub invariant-loop-i : goal.invariant-loop-i
invariant-loop-i l = SoFar (lines_by base.lines (literal_by l.counts l.rows l.types)) l.bytes l.many l.initial.cursor l.lines l.cursor l.i
