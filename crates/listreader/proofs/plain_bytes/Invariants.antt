-- `listreader::plain_bytes`: what is written are the plain bytes of the numbers so far. Assumes nothing.
use Rattle.listreader.proofs.PlainLaws.{Front}
use Rattle.listreader.proofs.plain_bytes.Given as goal

abbrev pub invariant-loop-i : goal.invariant-loop-i
invariant-loop-i l = Front l.list l.out l.i
