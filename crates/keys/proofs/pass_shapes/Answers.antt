-- `pass_shapes` meets its contract. Assumes nothing.
use native.Mathlib.Omega.{arith}
use Rattle.passes.proofs.PassLaws.{all_done, none_yet}
use Rattle.congruence.specs.Due.{shape_due, shapes_due}
use Rattle.keys.proofs.KeyLaws.{changed_at, unchanged_at}
use Rattle.keys.proofs.pass_shapes.Goals as goal

pub loop-k-init : goal.loop-k-init
loop-k-init c = none_yet (λ j x. shape_due c.args.shapes.now.slots x j) _

pub returns-then-pass_keyed : goal.returns-then-pass_keyed
unfolding shapes_due
returns-then-pass_keyed c = changed_at (λ j x. shape_due c.args.shapes.now.slots x j) c.loop-k.k 30 _ (omega arith) c.loop-k.invariant c.pass_keyed.ensures c.if-pass_keyed.true

pub loop-k-preserved : goal.loop-k-preserved
loop-k-preserved c = unchanged_at (λ j x. shape_due c.args.shapes.now.slots x j) c.loop-k.k _ c.loop-k.invariant c.pass_keyed.ensures c.if-pass_keyed.false

pub returns : goal.returns
unfolding shapes_due
returns c = all_done (λ j x. shape_due c.args.shapes.now.slots x j) c.loop-k.k 30 (omega arith) (omega arith) c.loop-k.invariant
