-- `lacks` meets its contract. Assumes nothing.
use Rattle.labels.proofs.LabelLaws.{lacks_test}
use Rattle.labels.proofs.lacks.Goals as goal

pub returns : goal.returns
returns c = lacks_test c.args.label c.args.v c.requires
