-- `ruled_out` meets its contract. Assumes nothing.
use Rattle.variantmasks.proofs.RowLaws.{not_settled, settled_so}
use Rattle.variantmasks.proofs.ruled_out.Goals as goal

pub returns-then-lacks : goal.returns-then-lacks
returns-then-lacks c = not_settled _ _ _ c.lacks.ensures c.if-lacks.true

pub returns : goal.returns
returns c = settled_so _ _ _ _ c.lacks.ensures c.if-lacks.false c.lacks-2.ensures
