-- `is_number_after` meets its contract. Assumes nothing.
use Rattle.orbits.specs.Orbits.{number_after}
use Rattle.orbits.proofs.is_number_after.Goals as goal

pub returns : goal.returns
unfolding number_after
returns c = cc
