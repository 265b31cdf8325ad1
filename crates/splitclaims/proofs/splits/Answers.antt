-- `splits` meets its contract. Assumes nothing.
use mathlib.Core.Path.{ap, sym, ◌∙◌}
use Rattle.guard.specs.Closure.{label_of}
use Rattle.splitclaims.proofs.SplitTests.{holds_it, lacks_it, no-split, variant-past}
use Rattle.splitclaims.proofs.splits.Goals as goal

pub returns-in_default : goal.returns-in_default
returns-in_default c = let a = c.args in no-split a.sorts.now a.state.now a.x a.v c.in_default.ensures

pub returns-then-v-ge16 : goal.returns-then-v-ge16
returns-then-v-ge16 c = let a = c.args in variant-past a.sorts.now a.state.now a.x a.v c.if-v-ge16.true

pub returns-then-lacks : goal.returns-then-lacks
returns-then-lacks c = let a = c.args in
    let (small, same, there) = c.in-Some.ensures in
    lacks_it a.sorts.now a.state.now a.x a.v there c.if-v-ge16.false c.label_of-label.result (c.label_of-label.ensures ∙ ap (label_of a.state.now) same)
    (sym c.lacks.ensures ∙ c.if-lacks.true)

pub returns : goal.returns
returns c = let a = c.args in
    let (small, same, there) = c.in-Some.ensures in
    holds_it a.sorts.now a.state.now a.x a.v there c.if-v-ge16.false c.label_of-label.result (c.label_of-label.ensures ∙ ap (label_of a.state.now) same)
    (sym c.lacks.ensures ∙ c.if-lacks.false) c.only.result c.only.ensures
