-- `next_entry` meets its contract. Assumes nothing.
use Rattle.nexttypes.specs.NextTypes.{next_entry}
use Rattle.nexttypes.proofs.next_entry.Goals as goal

pub returns : goal.returns
unfolding next_entry
returns c = cc
