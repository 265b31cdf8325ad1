-- `pass_defaults` meets its contract. Assumes nothing.
use mathlib.Core.Logic.{inl, inr}
use native.Mathlib.Omega.{arith}
use Rattle.passes.proofs.PassLaws.{all_done, none_yet, one_more}
use Rattle.reads.specs.Due.{default_due, defaults_due}
use Rattle.reads.proofs.pass_defaults.Goals as goal
use Rattle.reads.proofs.pass_defaults.Goals.{else-join_default, then-join_default}

pub loop-k-init : goal.loop-k-init
loop-k-init c = none_yet (λ j x. default_due c.args.reads.now.slots x j) _

pub loop-k-preserved : goal.loop-k-preserved
loop-k-preserved c = let l = c.loop-k in
    one_more (λ j x. default_due c.args.reads.now.slots x j) l.k l.changed c.join_default.result c.if-join_default.changed l.invariant c.join_default.ensures
    (elim c.if-join_default.branch [ then-join_default w ↦ inl (w.if-join_default.true, w.changed-is) | else-join_default w ↦ inr (w.if-join_default.false, w.changed-is) ])

pub returns : goal.returns
unfolding defaults_due
returns c = all_done (λ j x. default_due c.args.reads.now.slots x j) c.loop-k.k 24 (omega arith) (omega arith) c.loop-k.invariant
