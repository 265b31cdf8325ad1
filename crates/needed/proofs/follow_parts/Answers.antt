-- `follow_parts` meets its contract. Invariant: steps led here; the sum falls with each round. Assumes nothing.
use Rattle.needed.proofs.Marking.{no_steps, steps_on}
use Rattle.needed.proofs.follow_parts.Goals as goal

pub loop-start-init : goal.loop-start-init
loop-start-init c = let a = c.args in no_steps a.shapes.now.slots a.state.now a.start

pub loop-start-preserved : goal.loop-start-preserved
loop-start-preserved c = let a = c.args in
    steps_on a.shapes.now.slots a.state.now a.start c.loop-start.invariant c.follow_all.ensures.steps
