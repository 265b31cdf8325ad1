-- `saturate` meets its contract. Assumes nothing.
use Rattle.std.proofs.Common.{rules}
use Rattle.passes.specs.Pass.{Steps.done}
use Rattle.passes.proofs.PassLaws.{steps_on}
use Rattle.saturation.proofs.Rounds.{settled_empty}
use Rattle.saturation.proofs.saturate.Goals as goal

pub loop-init : goal.loop-init
loop-init c = done

pub loop-preserved : goal.loop-preserved
loop-preserved c = steps_on c.loop.invariant c.in-Ok-true.ensures.steps

pub returns-in_default-2 : goal.returns-in_default-2
returns-in_default-2 c = let e = c.in_default.ensures in
    settled_empty _ _ (λ r b h p. search rules) c.loop.invariant e.0 e.1 e.2
