-- `decide` is the call within its limits. Assumes nothing.
use Rattle.decide.proofs.decide.Goals as goal

pub returns : goal.returns
returns c = c.decide_within.ensures
