-- `is_alone` meets its contract. Assumes nothing.
use Rattle.labels.proofs.LabelLaws.{alone_test, other_test}
use Rattle.labels.proofs.is_alone.Goals as goal

pub returns-then-label-v : goal.returns-then-label-v
returns-then-label-v c = alone_test c.args.label c.args.v c.requires c.if-label-v.true

pub returns-else-label-v : goal.returns-else-label-v
returns-else-label-v c = other_test c.args.label c.args.v c.requires c.if-label-v.false
