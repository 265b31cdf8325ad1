-- `is_met_after` meets its contract. Assumes nothing.
use Rattle.orbits.specs.Orbits.{met_after}
use Rattle.orbits.proofs.is_met_after.Goals as goal

pub returns : goal.returns
unfolding met_after
returns c = cc
