-- `questions` meets its contract. Assumes nothing.
use Rattle.datatypes.proofs.FactLaws.{facts_8, facts_9, facts_yes}
use Rattle.datatypes.proofs.questions.Goals as goal

pub returns-then-not-all_settled : goal.returns-then-not-all_settled
returns-then-not-all_settled c = let a = c.args in
    let d = c.default_variants-settled in
    facts_8 a.many a.variants.now a.first.now a.arities.now a.sorts.now c.requires d.result d.ensures c.all_settled.ensures c.if-not-all_settled.true

pub returns-then-not-all_growing : goal.returns-then-not-all_growing
returns-then-not-all_growing c = let a = c.args in
    let d = c.default_variants-settled in
    let f = c.finite_types-finite in
    facts_9 a.many a.variants.now a.first.now a.arities.now a.sorts.now c.requires d.result f.result d.ensures f.ensures c.all_settled.ensures c.if-not-all_settled.false c.all_growing.ensures c.if-not-all_growing.true

pub returns : goal.returns
returns c = let a = c.args in
    let d = c.default_variants-settled in
    let f = c.finite_types-finite in
    facts_yes a.many a.variants.now a.first.now a.arities.now a.sorts.now c.requires d.result f.result d.ensures f.ensures c.all_settled.ensures c.if-not-all_settled.false c.all_growing.ensures c.if-not-all_growing.false
