-- `load` is the call within its limits. Assumes nothing.
use Rattle.decide.proofs.load.Goals as goal

pub returns : goal.returns
returns c = c.decide_within.ensures
