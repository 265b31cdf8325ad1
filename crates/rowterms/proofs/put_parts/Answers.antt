-- `put_parts`: a part more. Assumes nothing.
use Rattle.rowterms.specs.Rows.{part_bytes}
use Rattle.rowterms.proofs.LoopLaws.{loop_next}
use Rattle.rowterms.proofs.put_parts.Goals as goal

pub loop-i-preserved : goal.loop-i-preserved
loop-i-preserved c = loop_next (part_bytes c.args.names.now c.args.rows.now c.args.r) c.loop-i.invariant c.in_ok-put_small.ensures
