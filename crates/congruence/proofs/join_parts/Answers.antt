-- `join_parts` meets its contract. Assumes nothing.
use native.Mathlib.Omega.{arith}
use Rattle.passes.proofs.PassLaws.{all_done, none_yet, one_more_or, steps_keep}
use Rattle.congruence.specs.Due.{part_due, parts_due}
use Rattle.congruence.proofs.Joins.{part_joined}
use Rattle.congruence.proofs.join_parts.Goals as goal

pub loop-p-init : goal.loop-p-init
loop-p-init c = none_yet (λ q x. part_due c.args.shapes.now.slots x c.args.k c.args.i q) _

pub loop-p-preserved : goal.loop-p-preserved
loop-p-preserved c = let a = c.args in
    let l = c.loop-p in
    let u = c.unite-changed.ensures in
    let r = c.requires in
    one_more_or (λ q x. part_due a.shapes.now.slots x a.k a.i q) l.p _ _ l.invariant
    (part_joined a.shapes.now.slots a.shapes.now.fit a.k a.i r.k_bound.0 r.k_bound.1 _ r.i_value r.i_value_2 l.state (steps_keep l.invariant.steps) l.p _ _ _ _ c.part.ensures c.part-in-loop-p.ensures u.after u.value)

pub returns : goal.returns
unfolding parts_due
returns c = all_done (λ q x. part_due c.args.shapes.now.slots x c.args.k c.args.i q) c.loop-p.p _ (omega (arith, c.many-p-end.ensures)) (omega (arith, c.many-p-end.ensures)) c.loop-p.invariant
