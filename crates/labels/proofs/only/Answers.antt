-- `only` meets its contract. Assumes nothing.
use Rattle.labels.proofs.LabelLaws.{shifted_one}
use Rattle.labels.proofs.only.Goals as goal

pub returns : goal.returns
returns c = shifted_one c.args.v c.requires
