-- `lowest_labelled` meets its contract. Assumes nothing.
use mathlib.Core.Path.{subst}
use native.Mathlib.Omega.{arith}
use Rattle.labelled.proofs.Covering.{first-listed, none-first}
use Rattle.labelled.proofs.Sorts.lowest_labelled.Goals as goal

pub returns-then-passes : goal.returns-then-passes
returns-then-passes g c = first-listed (goal.F-post g c.args.passes) _ 78 c.labelled-x-items.result.now _ c.labelled-x-items.ensures.lists.covers c.loop-x.x-index (omega arith) c.loop-x.invariant (subst (goal.F-post g c.args.passes _) c.if-passes.true c.passes.ensures)

pub returns : goal.returns
returns g c = none-first (goal.F-post g c.args.passes) _ 78 c.labelled-x-items.result.now _ c.labelled-x-items.ensures.lists.covers c.loop-x.x-index (omega arith) c.loop-x.invariant
