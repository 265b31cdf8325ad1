-- `lowest` meets its contract. Assumes nothing.
use Rattle.labels.proofs.LabelLaws.{lowest-is}
use Rattle.labels.proofs.lowest.Goals as goal

pub returns : goal.returns
returns c = lowest-is c.args.label
