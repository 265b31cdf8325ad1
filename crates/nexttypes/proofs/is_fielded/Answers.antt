-- `is_fielded` meets its contract. Assumes nothing.
use Rattle.nexttypes.specs.NextTypes.{fielded_at}
use Rattle.nexttypes.proofs.is_fielded.Goals as goal

pub returns : goal.returns
unfolding fielded_at
returns c = cc
