-- `read_lines` meets its contract. Invariant: the literals read stand in the columns, and those left come after them. Assumes
-- nothing.
use Rattle.literalkinds.specs.OneLiteral.{literal_by}
use Rattle.literalreader.proofs.LiteralLaws.{SoFar}
use Rattle.literalreader.proofs.read_lines.Given as goal

abbrev pub invariant-loop-i : goal.invariant-loop-i
invariant-loop-i l = SoFar (literal_by l.counts l.rows l.types) l.bytes l.many l.initial.cursor l.kinds l.terms l.others l.cursor l.i
