-- `is_infinite` meets its contract. Assumes nothing.
use Rattle.nexttypes.specs.NextTypes.{infinite_at}
use Rattle.nexttypes.proofs.is_infinite.Goals as goal

pub returns : goal.returns
unfolding infinite_at
returns c = cc
