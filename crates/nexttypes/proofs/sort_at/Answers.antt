-- `sort_at` meets its contract. Assumes nothing.
use Rattle.nexttypes.specs.NextTypes.{sort_at}
use Rattle.nexttypes.proofs.sort_at.Goals as goal

pub returns : goal.returns
unfolding sort_at
returns c = cc
