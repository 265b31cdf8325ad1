-- `pass_read` meets its contract. Assumes nothing.
use native.Mathlib.Omega.{arith}
use Rattle.passes.proofs.PassLaws.{all_done, none_yet, one_more_or}
use Rattle.reads.specs.Due.{read_due, reads_meet}
use Rattle.reads.proofs.pass_read.Goals as goal

pub loop-i-init : goal.loop-i-init
loop-i-init c = none_yet (λ j x. reads_meet c.args.reads.now.slots x c.args.k j) _

pub loop-i-preserved : goal.loop-i-preserved
loop-i-preserved c = one_more_or (λ j x. reads_meet c.args.reads.now.slots x c.args.k j) c.loop-i.i _ _ c.loop-i.invariant c.meet_reads-changed.ensures

pub returns : goal.returns
unfolding read_due
returns c = all_done (λ j x. reads_meet c.args.reads.now.slots x c.args.k j) c.loop-i.i c.args.k (omega arith) (omega arith) c.loop-i.invariant
