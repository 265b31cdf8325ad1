-- `put_parts`: the loop has put the first p parts. Assumes nothing.
use mathlib.Core.Path.{sym}
use native.Mathlib.Omega.{arith}
use Rattle.writing.specs.Words.{number_text}
use Rattle.writing.proofs.Wrote.{and_then, more_room, next_turn, nothing, same_text}
use Rattle.rowtext.proofs.RowTexts.{no-parts, some-parts}
use Rattle.rowtext.proofs.put_parts.Goals as goal

pub returns-then-many-eq0 : goal.returns-then-many-eq0
returns-then-many-eq0 c = same_text (sym (no-parts _ _ c.args.many c.if-many-eq0.true)) (more_room 42 (omega arith) (nothing _))

pub loop-p-preserved : goal.loop-p-preserved
loop-p-preserved c = next_turn (number_text c.args.rows.now) c.args.j c.loop-p.p 12 c.loop-p.invariant c.put_number_at.ensures

pub returns : goal.returns
returns c = same_text (sym (some-parts _ _ c.args.many c.loop-p.p c.if-many-eq0.false (omega arith))) (more_room 42 (omega arith) (and_then c.put_bytes.ensures c.loop-p.invariant))
