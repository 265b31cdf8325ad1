-- `pass_shape` meets its contract. Assumes nothing.
use mathlib.Core.Path.{◌∙◌, sym}
use native.Mathlib.Omega.{arith}
use Rattle.passes.proofs.PassLaws.{all_done, none_yet, one_more_or}
use Rattle.congruence.specs.Due.{shape_due, shapes_meet}
use Rattle.congruence.proofs.Joins.{inactive_pass}
use Rattle.congruence.proofs.pass_shape.Goals as goal

pub returns-then-not-active : goal.returns-then-not-active
returns-then-not-active c = inactive_pass _ _ _ (sym c.active.ensures ∙ c.if-not-active.true)

pub loop-i-init : goal.loop-i-init
loop-i-init c = none_yet (λ j x. shapes_meet c.args.shapes.now.slots x c.args.k j) _

pub loop-i-preserved : goal.loop-i-preserved
loop-i-preserved c = one_more_or (λ j x. shapes_meet c.args.shapes.now.slots x c.args.k j) c.loop-i.i _ _ c.loop-i.invariant c.meet_shapes-changed.ensures

pub returns : goal.returns
unfolding shape_due
returns c = all_done (λ j x. shapes_meet c.args.shapes.now.slots x c.args.k j) c.loop-i.i c.args.k (omega arith) (omega arith) c.loop-i.invariant
