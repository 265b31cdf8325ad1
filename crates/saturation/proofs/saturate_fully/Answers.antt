-- `saturate_fully` meets its contract. Assumes nothing.
use Rattle.passes.specs.Pass.{Steps.done}
use Rattle.passes.proofs.PassLaws.{steps_on}
use Rattle.saturation.proofs.saturate_fully.Goals as goal

pub loop-init : goal.loop-init
loop-init c = done

pub loop-preserved : goal.loop-preserved
loop-preserved c = steps_on c.loop.invariant c.in-Ok-true.ensures.steps
