-- `higher` meets its contract. Assumes nothing.
use mathlib.Core.Path.{◌∙◌}
use Rattle.plans.proofs.CodeTests.{marked-higher, not_marked}
use Rattle.plans.proofs.higher.Goals as goal

pub returns-then-marks-c-ne0 : goal.returns-then-marks-c-ne0
returns-then-marks-c-ne0 c = let a = c.args in not_marked a.marks.now a.ranks.now a.c a.most c.if-marks-c-ne0.true

pub returns : goal.returns
returns c = let a = c.args in c.max.ensures ∙ marked-higher a.marks.now a.ranks.now a.c a.most c.if-marks-c-ne0.false
